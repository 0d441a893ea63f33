-- How a structured text is cut into tokens with any names, by longest match, and on which lines they stand.
use Rattle.std.specs.Prelude.{◌≡◌, ◌↔◌, ℕ, true, IsTrue, Some, List, [], ◌∷◌, ◌++◌, codes}
use Rattle.tm_syntax.specs.Tokens.{is_blank}
use Rattle.tm_syntax.specs.Design.{DesignTree}
use Rattle.tm_cir.specs.Text.Token.{Token, word, label, goto}
use Rattle.tm_cir.specs.Text.Spelling.{EndsToken}
use Rattle.tm_cparse.specs.declared.spot.Spot.{Spot}
use Rattle.tm_cparse.specs.View.{token_tree}
use Rattle.tm_cparse.specs.Cut.{IsNumber, item_number, Standing, open_behind, MayStand, line_behind, BeginsNoBlank}
use Rattle.tm_cparse.specs.Cut as c
use Rattle.tm_struct.specs.Text.Spelling.{spelling}

-- the name of a function: `b` (98) and its number
pub record IsFunctionName (k : ℕ) (bytes : List ℕ) : Type 0 where
  pub digits : List ℕ
  pub number : IsNumber digits
  pub value : k ≡ item_number digits
  pub are : bytes ≡ 98 ∷ digits

-- the bytes are this token, whatever items a design has
abbrev pub IsSpelled : Token → List ℕ → Type 0
IsSpelled (word goto) bytes = bytes ≡ codes "static"
IsSpelled (label k) bytes = IsFunctionName k bytes
IsSpelled t bytes = c.IsSpelled t bytes

-- the text begins with the bytes of this token, and then comes `rest`
pub record BeginsToken (text : List ℕ) (t : Token) (bytes rest : List ℕ) : Type 0 where
  pub spelled : IsSpelled t bytes
  pub ends : EndsToken t rest
  pub whole : text ≡ bytes ++ rest

-- the text begins with a token; it is known where it is a token of the design
pub record BeginsSpot (d : DesignTree) (at : Standing) (text : List ℕ) (spot : Spot) (rest : List ℕ) : Type 0 where
  pub bytes : List ℕ
  pub token : BeginsToken text (token_tree spot.token) bytes rest
  pub known : IsTrue spot.known ↔ (spelling d (token_tree spot.token) ≡ Some bytes)
  pub line : spot.line ≡ at.line
  pub within : MayStand at.open_count (token_tree spot.token)

-- the text is these tokens with blanks before, between and behind them, and then comes `rest`
pub data IsCut (d : DesignTree) : Standing → List ℕ → List Spot → List ℕ → Standing → Type 0 where
  no_more : {at : Standing} {rest : List ℕ} → IsCut d at rest [] rest at
  blank : {at end : Standing} {b : ℕ} {text rest : List ℕ} {spots : List Spot} → is_blank b ≡ true →
      IsCut d (record { open_count = at.open_count; line = line_behind at.line b }) text spots rest end →
      IsCut d at (b ∷ text) spots rest end
  spot : {at end : Standing} {text behind rest : List ℕ} {s : Spot} {spots : List Spot} →
      BeginsSpot d at text s behind →
      IsCut d (record { open_count = open_behind at.open_count (token_tree s.token); line = at.line }) behind spots
      rest end → IsCut d at text (s ∷ spots) rest end

-- neither a blank nor a token stands in front, or a token would open one parenthesis too many
pub record IsStuck (at : Standing) (text : List ℕ) : Type 0 where
  pub no_blank : BeginsNoBlank text
  pub no_token : (t : Token) (bytes rest : List ℕ) → BeginsToken text t bytes rest → ¬ MayStand at.open_count t
