-- The sign in front of a text.
use Rattle.std.proofs.Common.{◌≡◌, ◌≢◌, ℕ, ◌<◌, Bool, true, ◌==◌, List, [], ◌∷◌, ◌++◌, length, get_or, refl, sym, ap, ◌∙◌, arith}
use Rattle.std.proofs.lemmas.Bool.Decides.{Decides-eqb}
use Rattle.tm_cir.specs.declared.block.NumOperator.TheVariants as numbers
use Rattle.tm_base.specs.declared.shift_operator.ShiftOperator.TheVariants.{Left, Right}
use Rattle.tm_cir.specs.declared.block.Comparison.TheVariants.{Equal, NotEqual, Less, LessEqual, Greater, GreaterEqual}
use Rattle.tm_cir.specs.declared.block.Junction.TheVariants as truths
use Rattle.tm_cir.specs.Text.Token.{Sign, open_parenthesis, close_parenthesis, open_brace, close_brace, colon, semicolon, comma, question, tilde, bang, arithmetic, shifting, comparing, joining}
use Rattle.tm_cir.specs.Text.Spelling.{sign_text}
use Rattle.tm_cparse.specs.Inner.Scanning.{BeginsNoSign}

-- a sign has one or two bytes
pub data Shape (s : Sign) : Type 0 where
  two : (a b : ℕ) → sign_text s ≡ a ∷ b ∷ [] → Shape s
  one : (a : ℕ) → sign_text s ≡ a ∷ [] → Shape s

pub shape : (s : Sign) → Shape s
shape open_parenthesis = one _ refl
shape close_parenthesis = one _ refl
shape open_brace = one _ refl
shape close_brace = one _ refl
shape colon = one _ refl
shape semicolon = one _ refl
shape comma = one _ refl
shape question = one _ refl
shape tilde = one _ refl
shape bang = one _ refl
shape (arithmetic numbers.Add) = one _ refl
shape (arithmetic numbers.Subtract) = one _ refl
shape (arithmetic numbers.And) = one _ refl
shape (arithmetic numbers.Or) = one _ refl
shape (arithmetic numbers.Xor) = one _ refl
shape (shifting Left) = two _ _ refl
shape (shifting Right) = two _ _ refl
shape (comparing Equal) = two _ _ refl
shape (comparing NotEqual) = two _ _ refl
shape (comparing Less) = one _ refl
shape (comparing LessEqual) = two _ _ refl
shape (comparing Greater) = one _ refl
shape (comparing GreaterEqual) = two _ _ refl
shape (joining truths.And) = two _ _ refl
shape (joining truths.Or) = two _ _ refl

-- no sign of two bytes stands in front
abbrev NoPair : List ℕ → Type 0
NoPair text = 1 < length text → (s : Sign) → sign_text s ≢ get_or text 0 0 ∷ get_or text 1 0 ∷ []

pub no_sign : (text : List ℕ) → NoPair text → ((s : Sign) → sign_text s ≢ get_or text 0 0 ∷ []) → BeginsNoSign text
no_sign text no_pair no_one s rest whole = elim (shape s) [
  | two a b e ↦
      let begin : text ≡ a ∷ b ∷ rest = whole ∙ ap (λ (p : List ℕ). p ++ rest) e in
      no_pair (omega (arith, ap length begin)) s
      (e ∙ sym (ap (λ (bs : List ℕ). get_or bs 0 0 ∷ get_or bs 1 0 ∷ []) begin))
  | one a e ↦
      let begin : text ≡ a ∷ rest = whole ∙ ap (λ (p : List ℕ). p ++ rest) e in
      no_one s (e ∙ sym (ap (λ (bs : List ℕ). get_or bs 0 0 ∷ []) begin))
]

-- nothing begins with a sign
pub nothing_first : (text : List ℕ) (r : Bool) → r ≡ (length text == 0) → r ≡ true → BeginsNoSign text
nothing_first [] r is empty s rest whole = elim (shape s) [
  | two a b e ↦ let same = whole ∙ ap (λ (l : List ℕ). l ++ rest) e in cc
  | one a e ↦ let same = whole ∙ ap (λ (l : List ℕ). l ++ rest) e in cc
]
nothing_first (b ∷ bs) r is empty s rest whole =
    let zero : length (b ∷ bs) ≡ 0 = (Decides-eqb (length (b ∷ bs)) 0).0 (sym is ∙ empty) in omega arith
