-- What the scanner has shown of a structured text, and of the bytes in front.
use Rattle.std.specs.Prelude.{◌≡◌, ◌↔◌, ℕ, ◌<◌, ◌≤◌, Bool, true, false, IsTrue, Some, List, [], ◌∷◌, length, take, drop}
use Rattle.tm_syntax.specs.Design.{DesignTree}
use Rattle.tm_cir.specs.Text.Token.{Token, word, label, goto, sign}
use Rattle.tm_cparse.specs.declared.spot.Spot.{Spot}
use Rattle.tm_cparse.specs.View.{token_tree}
use Rattle.tm_cparse.specs.Cut.{Standing}
use Rattle.tm_struct.specs.Text.Spelling.{spelling}
use Rattle.tm_struct_parse.specs.Cut.{IsSpelled, BeginsToken, BeginsSpot, IsCut, IsStuck}

-- whether both sorts of texts have a token
abbrev pub is_common : Token → Bool
is_common (word goto) = false
is_common (label k) = false
is_common t = true

-- the bytes are a token that structured text alone has, which is known where it is so spelled
pub record IsOwnToken (run : List ℕ) (t : Token) (known : Bool) : Type 0 where
  pub own : is_common t ≡ false
  pub spelled : IsSpelled t run
  pub known_so : (d : DesignTree) → IsTrue known ↔ (spelling d t ≡ Some run)

-- the bytes are none
abbrev pub IsNoOwnToken : List ℕ → Type 0
IsNoOwnToken run = (t : Token) → is_common t ≡ false → ¬ IsSpelled t run

-- no such token stands in front
abbrev pub BeginsNoOwnToken : List ℕ → Type 0
BeginsNoOwnToken text = (t : Token) (bytes rest : List ℕ) → is_common t ≡ false → ¬ BeginsToken text t bytes rest

-- the first bytes are a token that may stand where so many parentheses are open
pub record IsNextSpot (d : DesignTree) (open_count line : ℕ) (text : List ℕ) (spot : Spot) (len : ℕ) : Type 0 where
  pub some : 0 < len
  pub fits : len ≤ length text
  pub begins : BeginsSpot d (record { open_count = open_count; line = line }) text spot (drop len text)

-- none stands there
abbrev pub IsNoSpot : ℕ → ℕ → List ℕ → Type 0
IsNoSpot open_count line text = IsStuck (record { open_count = open_count; line = line }) text

-- the tokens of a text that begins on this line, up to its end or to where it is stuck, and the line there
pub record IsScan (d : DesignTree) (line : ℕ) (text : List ℕ) (spots : List Spot) (last : ℕ) (is_whole : Bool) :
    Type 0 where
  pub rest : List ℕ
  pub end : Standing
  pub cut : IsCut d (record { open_count = 0; line = line }) text spots rest end
  pub stuck : IsStuck end rest
  pub last_line : last ≡ end.line
  pub whole : IsTrue is_whole ↔ (rest ≡ [])
