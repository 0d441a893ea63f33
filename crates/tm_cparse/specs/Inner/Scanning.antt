-- What the scanner has shown of a text, and its parts of the bytes in front.
use Rattle.std.specs.Prelude.{◌≡◌, ◌≢◌, ◌↔◌, ℕ, ◌<◌, ◌≤◌, Bool, ◌+◌, IsTrue, Some, List, [], ◌∷◌, ◌++◌, length, take, drop, count_by}
use Rattle.std.specs.List.{AllPass}
use Rattle.tm_syntax.specs.Design.{DesignTree}
use Rattle.tm_syntax.specs.Tokens.{is_blank, is_line_feed, IsWordLike}
use Rattle.tm_cir.specs.Text.Token.{Token, sign, Sign}
use Rattle.tm_cir.specs.Text.Spelling.{sign_text, token_text, IsLongestSign}
use Rattle.tm_cparse.specs.declared.shape.Found.{Found}
use Rattle.tm_cparse.specs.declared.spot.Spot.{Spot}
use Rattle.tm_cparse.specs.View.{token_tree}
use Rattle.tm_cparse.specs.Cut.{IsNumber, IsSpelled, BeginsToken, Standing, BeginsSpot, IsCut, BeginsNoBlank, IsStuck}

-- no sign stands in front
abbrev pub BeginsNoSign : List ℕ → Type 0
BeginsNoSign text = (s : Sign) (rest : List ℕ) → text ≢ sign_text s ++ rest

-- the first bytes are a sign, and no longer one begins where they do
pub record IsFirstSign (text : List ℕ) (s : Sign) (len : ℕ) : Type 0 where
  pub some : 0 < len
  pub fits : len ≤ length text
  pub are : take len text ≡ sign_text s
  pub longest : IsLongestSign s (drop len text)

-- a number, `_` (95) and a path
pub record AreNameParts (text digits path : List ℕ) : Type 0 where
  pub number : IsNumber digits
  pub word_like : IsWordLike path
  pub whole : text ≡ digits ++ 95 ∷ path

-- a word, a name or a constant
abbrev pub IsRunToken : Token → Type 0
IsRunToken (sign s) = ⊥
IsRunToken _ = Unit {0}

-- the bytes are no word, name or constant
abbrev pub IsNoRun : List ℕ → Type 0
IsNoRun run = (t : Token) → IsRunToken t → ¬ IsSpelled t run

-- the bytes are this word, name or constant, which is known where it is so spelled over the design
pub record IsRun (d : DesignTree) (run : List ℕ) (found : Found) : Type 0 where
  pub is : IsRunToken (token_tree found.token)
  pub spelled : IsSpelled (token_tree found.token) run
  pub known : IsTrue found.known ↔ (token_text d (token_tree found.token) ≡ Some run)

-- no token stands in front
abbrev pub BeginsNoToken : List ℕ → Type 0
BeginsNoToken text = (t : Token) (bytes rest : List ℕ) → ¬ BeginsToken text t bytes rest

-- the first bytes are a token
pub record IsFirstToken (d : DesignTree) (text : List ℕ) (found : Found) (len : ℕ) : Type 0 where
  pub some : 0 < len
  pub fits : len ≤ length text
  pub token : BeginsToken text (token_tree found.token) (take len text) (drop len text)
  pub known : IsTrue found.known ↔ (token_text d (token_tree found.token) ≡ Some (take len text))

-- the first bytes are a token that may stand where so many parentheses are open
pub record IsNextSpot (d : DesignTree) (open_count line : ℕ) (text : List ℕ) (spot : Spot) (len : ℕ) : Type 0 where
  pub some : 0 < len
  pub fits : len ≤ length text
  pub begins : BeginsSpot d (record { open_count = open_count; line = line }) text spot (drop len text)

-- none stands there
abbrev pub IsNoSpot : ℕ → ℕ → List ℕ → Type 0
IsNoSpot open_count line text = IsStuck (record { open_count = open_count; line = line }) text

-- blanks stand in front, and then `rest`, on its line
pub record IsBehindBlanks (text : List ℕ) (line : ℕ) (rest : List ℕ) (last : ℕ) : Type 0 where
  pub blanks : List ℕ
  pub are : AllPass is_blank blanks
  pub whole : text ≡ blanks ++ rest
  pub no_blank : BeginsNoBlank rest
  pub line_is : last ≡ line + count_by is_line_feed blanks

-- the tokens of a text that begins on this line, up to its end or to where it is stuck, and the line there
pub record IsScan (d : DesignTree) (line : ℕ) (text : List ℕ) (spots : List Spot) (last : ℕ) (is_whole : Bool) :
    Type 0 where
  pub rest : List ℕ
  pub end : Standing
  pub cut : IsCut d (record { open_count = 0; line = line }) text spots rest end
  pub stuck : IsStuck end rest
  pub last_line : last ≡ end.line
  pub whole : IsTrue is_whole ↔ (rest ≡ [])
