-- Signs at the front.
use Rattle.std.proofs.Common.{◌≡◌, ◌≢◌, ℕ, ◌<◌, ◌≤◌, Some, None, List, [], ◌∷◌, ◌++◌, length, get_or, take, drop, codes, refl, sym, ap, ◌∙◌, arith, length-append}
use Rattle.std.proofs.lemmas.List.{take_at}
use Rattle.tm_lex.specs.declared.class.Class.TheVariants.{Mark}
use Rattle.tm_lex.specs.Class.{class_of}
use Rattle.tm_lex.specs.Front.{IsFirstPiece}
use Rattle.tm_lex.proofs.Classes.{AtMost, first_from_at_most, begins}
use Rattle.tm_syntax.specs.declared.token.Sign.{Sign}
use Rattle.tm_syntax.specs.declared.token.Sign.TheVariants as sign
use Rattle.tm_syntax.specs.declared.token.TokenKind.TheVariants as token
use Rattle.tm_syntax.specs.Tokens.{sign_text, BeginsNothing}
use Rattle.tm_syntax.proofs.Tokens.{piece_nonempty}

-- a sign is `...`, or has one or two bytes
pub data Shape (s : Sign) : Type 0 where
  three : sign_text s ≡ codes "..." → Shape s
  two : (a b : ℕ) → sign_text s ≡ a ∷ b ∷ [] → Shape s
  one : (a : ℕ) → sign_text s ≡ a ∷ [] → Shape s

shape : (s : Sign) → Shape s
shape sign.OpenBrace = one _ refl
shape sign.CloseBrace = one _ refl
shape sign.OpenParenthesis = one _ refl
shape sign.CloseParenthesis = one _ refl
shape sign.OpenBracket = one _ refl
shape sign.CloseBracket = one _ refl
shape sign.Semicolon = one _ refl
shape sign.Comma = one _ refl
shape sign.Dot = one _ refl
shape sign.Ellipsis = three refl
shape sign.Colon = one _ refl
shape sign.Question = one _ refl
shape sign.Assign = one _ refl
shape sign.Equal = two _ _ refl
shape sign.NotEqual = two _ _ refl
shape sign.Less = one _ refl
shape sign.LessEqual = two _ _ refl
shape sign.Greater = one _ refl
shape sign.GreaterEqual = two _ _ refl
shape sign.ShiftLeft = two _ _ refl
shape sign.ShiftRight = two _ _ refl
shape sign.Plus = one _ refl
shape sign.Minus = one _ refl
shape sign.And = one _ refl
shape sign.AndAnd = two _ _ refl
shape sign.Or = one _ refl
shape sign.OrOr = two _ _ refl
shape sign.Xor = one _ refl
shape sign.Tilde = one _ refl
shape sign.Bang = one _ refl
shape sign.Star = one _ refl

-- bytes that begin with a mark begin with signs alone: so it is enough to bound those
signs_alone : (bytes : List ℕ) (n : ℕ) → class_of (get_or bytes 0 0) ≡ Mark →
    ((s : Sign) (after : List ℕ) → bytes ≡ sign_text s ++ after → length (sign_text s) ≤ n) → AtMost bytes n
unfolding AtMost
signs_alone bytes n e most None piece after is whole = let wrong = begins None piece after bytes Mark is whole e in
    grind arith
signs_alone bytes n e most (Some token.Name) piece after is whole = let wrong =
    begins (Some token.Name) piece after bytes Mark is whole e in cc
signs_alone bytes n e most (Some token.Number) piece after is whole = let wrong =
    begins (Some token.Number) piece after bytes Mark is whole e in cc
signs_alone bytes n e most (Some (token.Word w)) piece after is whole = let wrong =
    begins (Some (token.Word w)) piece after bytes Mark is whole e in cc
signs_alone bytes n e most (Some (token.Sign s)) piece after is whole =
    let below = most s after (whole ∙ ap (λ p. p ++ after) is) in
    omega (arith, ap length is)

at_most_three : (s : Sign) → length (sign_text s) ≤ 3
at_most_three s = elim (shape s) [
  | three e ↦ omega (arith, ap length e)
  | two a b e ↦ omega (arith, ap length e)
  | one a e ↦ omega (arith, ap length e)
]

at_most_two : (bytes : List ℕ) → ((after : List ℕ) → bytes ≢ codes "..." ++ after) → (s : Sign) (after : List ℕ) →
    bytes ≡ sign_text s ++ after → length (sign_text s) ≤ 2
at_most_two bytes no_three s after whole = elim (shape s) [
  | three e ↦ absurd (no_three after (whole ∙ ap (λ p. p ++ after) e))
  | two a b e ↦ omega (arith, ap length e)
  | one a e ↦ omega (arith, ap length e)
]

-- no sign of two bytes stands at the front
NoPair : List ℕ → Type 0
NoPair bytes = 1 < length bytes → (s : Sign) → sign_text s ≢ get_or bytes 0 0 ∷ get_or bytes 1 0 ∷ []

at_most_one : (bytes : List ℕ) → ((after : List ℕ) → bytes ≢ codes "..." ++ after) → NoPair bytes →
    (s : Sign) (after : List ℕ) → bytes ≡ sign_text s ++ after → length (sign_text s) ≤ 1
unfolding NoPair
at_most_one bytes no_three no_pair s after whole = elim (shape s) [
  | three e ↦ absurd (no_three after (whole ∙ ap (λ p. p ++ after) e))
  | two a b e ↦
      let begin : bytes ≡ a ∷ b ∷ after = whole ∙ ap (λ p. p ++ after) e in
      absurd (no_pair (omega (arith, ap length begin)) s
      (e ∙ sym (ap (λ bs. get_or bs 0 0 ∷ get_or bs 1 0 ∷ []) begin)))
  | one a e ↦ omega (arith, ap length e)
]

-- the sign that stands at the front is the first piece, if no longer one does
first_sign : (bytes after : List ℕ) (s : Sign) (n : ℕ) → bytes ≡ sign_text s ++ after → length (sign_text s) ≡ n →
    AtMost bytes n → IsFirstPiece bytes (Some (token.Sign s)) n
first_sign bytes after s n whole len most =
    first_from_at_most bytes (Some (token.Sign s)) n (omega (arith, ap length whole, length-append (sign_text s) after))
    (ap (take n) whole ∙ take_at (sign_text s) after n len) most

pub first_three : (bytes after : List ℕ) → bytes ≡ codes "..." ++ after → class_of (get_or bytes 0 0) ≡ Mark →
    IsFirstPiece bytes (Some (token.Sign sign.Ellipsis)) 3
first_three bytes after whole e =
    first_sign bytes after sign.Ellipsis 3 whole refl (signs_alone bytes 3 e (λ s after whole. at_most_three s))

-- a list of some length is its first elements, and the rest
pair_front : (bytes : List ℕ) → 1 < length bytes → bytes ≡ get_or bytes 0 0 ∷ get_or bytes 1 0 ∷ drop 2 bytes
pair_front [] h = absurd (omega arith)
pair_front (a ∷ []) h = absurd (omega arith)
pair_front (a ∷ b ∷ bs) h = refl

one_front : (bytes : List ℕ) → 0 < length bytes → bytes ≡ get_or bytes 0 0 ∷ drop 1 bytes
one_front [] h = absurd (omega arith)
one_front (a ∷ bs) h = refl

pub first_two : (bytes : List ℕ) (s : Sign) → class_of (get_or bytes 0 0) ≡ Mark →
    ((after : List ℕ) → bytes ≢ codes "..." ++ after) → 1 < length bytes →
    sign_text s ≡ get_or bytes 0 0 ∷ get_or bytes 1 0 ∷ [] → IsFirstPiece bytes (Some (token.Sign s)) 2
first_two bytes s e no_three some is =
    first_sign bytes (drop 2 bytes) s 2 (pair_front bytes some ∙ sym (ap (λ p. p ++ drop 2 bytes) is)) (ap length is)
    (signs_alone bytes 2 e (at_most_two bytes no_three))

pub first_one : (bytes : List ℕ) (s : Sign) → class_of (get_or bytes 0 0) ≡ Mark →
    ((after : List ℕ) → bytes ≢ codes "..." ++ after) →
    (1 < length bytes → (s : Sign) → sign_text s ≢ get_or bytes 0 0 ∷ get_or bytes 1 0 ∷ []) → 0 < length bytes →
    sign_text s ≡ get_or bytes 0 0 ∷ [] → IsFirstPiece bytes (Some (token.Sign s)) 1
unfolding NoPair
first_one bytes s e no_three no_pair some is =
    first_sign bytes (drop 1 bytes) s 1 (one_front bytes some ∙ sym (ap (λ p. p ++ drop 1 bytes) is)) (ap length is)
    (signs_alone bytes 1 e (at_most_one bytes no_three no_pair))

pub no_sign : (bytes : List ℕ) → class_of (get_or bytes 0 0) ≡ Mark →
    ((after : List ℕ) → bytes ≢ codes "..." ++ after) →
    (1 < length bytes → (s : Sign) → sign_text s ≢ get_or bytes 0 0 ∷ get_or bytes 1 0 ∷ []) →
    ((s : Sign) → sign_text s ≢ get_or bytes 0 0 ∷ []) → BeginsNothing bytes
unfolding NoPair AtMost
no_sign bytes e no_three no_pair no_one kind piece after is whole =
    let none : AtMost bytes 0 = signs_alone bytes 0 e (λ s after whole. elim (shape s) [
      | three e ↦ absurd (no_three after (whole ∙ ap (λ p. p ++ after) e))
      | two a b e ↦ let most = at_most_one bytes no_three no_pair s after whole in absurd (omega (arith, ap length e))
      | one a e ↦ absurd (no_one s (e ∙ sym (ap (λ bs. get_or bs 0 0 ∷ []) (whole ∙ ap (λ p. p ++ after) e))))
    ]) in
    let some = piece_nonempty kind piece is in
    let zero = none kind piece after is whole in
    omega arith
