-- How a text is cut into tokens with any names, by longest match, and on which lines they stand.
use Rattle.std.specs.Prelude.{◌≡◌, ◌↔◌, ℕ, ◌+◌, ◌-◌, ◌^◌, ◌<◌, min, true, false, IsTrue, Some, List, [], ◌∷◌, ◌++◌, length, codes, slice_index, if◌then◌else◌}
use Rattle.std.specs.Str.Parse.{IsNumeral, digits_value}
use Rattle.tm_syntax.specs.Tokens.{is_blank, is_line_feed, IsWordLike}
use Rattle.tm_syntax.specs.Design.{DesignTree}
use Rattle.tm_cir.specs.Text.Token.{Token, word, label, variable, location, task, constant, sign, open_parenthesis, close_parenthesis}
use Rattle.tm_cir.specs.Text.Spelling.{word_text, sign_text, token_text, EndsToken}
use Rattle.tm_cparse.specs.declared.spot.Spot.{Spot}
use Rattle.tm_cparse.specs.View.{token_tree}

-- decimal digits without a leading zero (48 is `0`)
pub record IsNumber (digits : List ℕ) : Type 0 where
  pub are : IsNumeral 10 digits
  pub plain : slice_index digits 0 ≡ 48 → length digits ≡ 1

-- the number that digits write; one of more than 32 bits counts as the greatest, since no design has so many items
abbrev pub item_number : List ℕ → ℕ
item_number digits = min (digits_value 10 digits) 4294967295

-- the name of an item: its letter, its number, `_` (95) and a path with `_` for each dot
pub record IsItemName (letter k : ℕ) (bytes : List ℕ) : Type 0 where
  pub digits : List ℕ
  pub path : List ℕ
  pub number : IsNumber digits
  pub word_like : IsWordLike path
  pub value : k ≡ item_number digits
  pub are : bytes ≡ letter ∷ (digits ++ 95 ∷ path)

-- a label: `L` (76) and its number
pub record IsLabel (k : ℕ) (bytes : List ℕ) : Type 0 where
  pub digits : List ℕ
  pub number : IsNumber digits
  pub value : k ≡ item_number digits
  pub are : bytes ≡ 76 ∷ digits

-- a constant of at most 64 bits
pub record IsConstant (n : ℕ) (bytes : List ℕ) : Type 0 where
  pub digits : List ℕ
  pub number : IsNumber digits
  pub value : n ≡ digits_value 10 digits
  pub small : n < 2 ^ 64
  pub are : bytes ≡ digits ++ codes "ULL"

-- the bytes are this token, whatever items a design has (118 is `v`, 112 is `p` and 116 is `t`)
abbrev pub IsSpelled : Token → List ℕ → Type 0
IsSpelled (word w) bytes = bytes ≡ word_text w
IsSpelled (label k) bytes = IsLabel k bytes
IsSpelled (variable k) bytes = IsItemName 118 k bytes
IsSpelled (location k) bytes = IsItemName 112 k bytes
IsSpelled (task k) bytes = IsItemName 116 k bytes
IsSpelled (constant n) bytes = IsConstant n bytes
IsSpelled (sign s) bytes = bytes ≡ sign_text s

-- the text begins with the bytes of this token, and then comes `rest`
pub record BeginsToken (text : List ℕ) (t : Token) (bytes rest : List ℕ) : Type 0 where
  pub spelled : IsSpelled t bytes
  pub ends : EndsToken t rest
  pub whole : text ≡ bytes ++ rest

-- where a text goes on: how many parentheses are open, and the line
pub record Standing : Type 0 where
  pub open_count : ℕ
  pub line : ℕ

-- how many parentheses are open behind a token
abbrev pub open_behind : ℕ → Token → ℕ
open_behind count (sign open_parenthesis) = count + 1
open_behind count (sign close_parenthesis) = count - 1
open_behind count _ = count

-- the most parentheses that may be open at once
abbrev pub most_open : ℕ
most_open = 2048

-- whether a token may stand where so many parentheses are open
abbrev pub MayStand : ℕ → Token → Type 0
MayStand count (sign open_parenthesis) = count < most_open
MayStand count _ = Unit {0}

-- whether tokens in a row may all stand, where so many parentheses are open before the first
abbrev pub MayAllStand : ℕ → List Token → Type 0
MayAllStand count [] = Unit {0}
MayAllStand count (t ∷ ts) = MayStand count t × MayAllStand (open_behind count t) ts

-- a line ends at a line feed
abbrev pub line_behind : ℕ → ℕ → ℕ
line_behind line b = if is_line_feed b then line + 1 else line

-- the text begins with a token; it is known where it is a token of the design
pub record BeginsSpot (d : DesignTree) (at : Standing) (text : List ℕ) (spot : Spot) (rest : List ℕ) : Type 0 where
  pub bytes : List ℕ
  pub token : BeginsToken text (token_tree spot.token) bytes rest
  pub known : IsTrue spot.known ↔ (token_text d (token_tree spot.token) ≡ Some bytes)
  pub line : spot.line ≡ at.line
  pub within : MayStand at.open_count (token_tree spot.token)

-- the text is these tokens with blanks before, between and behind them, and then comes `rest`
pub data IsCut (d : DesignTree) : Standing → List ℕ → List Spot → List ℕ → Standing → Type 0 where
  no_more : {at : Standing} {rest : List ℕ} → IsCut d at rest [] rest at
  blank : {at end : Standing} {b : ℕ} {text rest : List ℕ} {spots : List Spot} → is_blank b ≡ true →
      IsCut d (record { open_count = at.open_count; line = line_behind at.line b }) text spots rest end →
      IsCut d at (b ∷ text) spots rest end
  spot : {at end : Standing} {text behind rest : List ℕ} {s : Spot} {spots : List Spot} →
      BeginsSpot d at text s behind →
      IsCut d (record { open_count = open_behind at.open_count (token_tree s.token); line = at.line }) behind spots
      rest end → IsCut d at text (s ∷ spots) rest end

-- no blank stands in front
abbrev pub BeginsNoBlank : List ℕ → Type 0
BeginsNoBlank [] = Unit {0}
BeginsNoBlank (b ∷ bs) = is_blank b ≡ false

-- neither a blank nor a token stands in front, or a token would open one parenthesis too many
pub record IsStuck (at : Standing) (text : List ℕ) : Type 0 where
  pub no_blank : BeginsNoBlank text
  pub no_token : (t : Token) (bytes rest : List ℕ) → BeginsToken text t bytes rest → ¬ MayStand at.open_count t
