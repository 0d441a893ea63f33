-- Two atoms are one exactly where they are equal once they are resolved.
use Rattle.std.proofs.Common.{◌≡◌, ◌↔◌, ℕ, Bool, true, false, Option, Some, List, [], ◌∷◌, refl, sym, ap, ◌∙◌, subst, arith, rules, true≢false}
use Rattle.std.specs.Prelude.{nat_eq, ◌&&◌, find}
use Rattle.std.specs.Cmp.Lexicographic.{pointwise}
use Rattle.std.proofs.lemmas.Bool.{eqb-true}
use Rattle.std.proofs.lemmas.Bool.Decides.{nat_tests}
use Rattle.std.proofs.lemmas.Option.{same_Some}
use Rattle.tm_base.specs.declared.shift_operator.ShiftOperator.{ShiftOperator}
use Rattle.tm_base.specs.declared.shift_operator.ShiftOperator.TheVariants as shift_operator
use Rattle.tm_syntax.specs.declared.tree.UnaryOperator.{UnaryOperator}
use Rattle.tm_syntax.specs.declared.tree.UnaryOperator.TheVariants as unary_operator
use Rattle.tm_syntax.specs.declared.tree.BinaryOperator.{BinaryOperator}
use Rattle.tm_syntax.specs.declared.tree.BinaryOperator.TheVariants as operator
use Rattle.tm_syntax.specs.Tokens.{sign_text}
use Rattle.tm_syntax.specs.Grammar.Expressions.{unary_sign, binary_sign, shift_sign}
use Rattle.tm_syntax.specs.Design.Atoms.{Resolved, a_truth, a_number, a_constant, a_variable, of_step, a_unary, a_binary, a_shift, a_choice, a_cast, an_element, same_unary, same_binary, same_shift, same_truth, same_atom}

-- where both of two tests pass, each does
pub both_true : (a b : Bool) → a && b ≡ true → (a ≡ true) × (b ≡ true)
both_true true b e = (refl, e)
both_true false b e = absurd (true≢false (sym e))

-- texts that agree byte by byte are one
pub same_bytes : (m n : List ℕ) → pointwise nat_eq m n ≡ true → m ≡ n
same_bytes m n e = search rules

pub bytes-itself : (m : List ℕ) → pointwise nat_eq m m ≡ true
bytes-itself m = search rules

pub number-itself : (k : ℕ) → nat_eq k k ≡ true
number-itself k = grind (arith, nat_tests)

-- an operator is the one that is spelled as it is
abbrev unary_spelled : List ℕ → Option UnaryOperator
unary_spelled text =
    find (λ o. pointwise nat_eq text (sign_text (unary_sign o))) (unary_operator.Complement ∷ unary_operator.Not ∷ [])

abbrev binary_spelled : List ℕ → Option BinaryOperator
binary_spelled text =
    find (λ o. pointwise nat_eq text (sign_text (binary_sign o)))
    (operator.Equal ∷ operator.NotEqual ∷ operator.Less ∷ operator.LessEqual ∷ operator.Greater
    ∷ operator.GreaterEqual ∷ operator.Add ∷ operator.Subtract ∷ operator.And ∷ operator.AndAlso ∷ operator.Or
    ∷ operator.OrElse ∷ operator.Xor ∷ [])

abbrev shift_spelled : List ℕ → Option ShiftOperator
shift_spelled text =
    find (λ o. pointwise nat_eq text (sign_text (shift_sign o))) (shift_operator.Left ∷ shift_operator.Right ∷ [])

unary_read : (o : UnaryOperator) → unary_spelled (sign_text (unary_sign o)) ≡ Some o
unary_read unary_operator.Complement = refl
unary_read unary_operator.Not = refl

binary_read : (o : BinaryOperator) → binary_spelled (sign_text (binary_sign o)) ≡ Some o
binary_read operator.Equal = refl
binary_read operator.NotEqual = refl
binary_read operator.Less = refl
binary_read operator.LessEqual = refl
binary_read operator.Greater = refl
binary_read operator.GreaterEqual = refl
binary_read operator.Add = refl
binary_read operator.Subtract = refl
binary_read operator.And = refl
binary_read operator.AndAlso = refl
binary_read operator.Or = refl
binary_read operator.OrElse = refl
binary_read operator.Xor = refl

shift_read : (o : ShiftOperator) → shift_spelled (sign_text (shift_sign o)) ≡ Some o
shift_read shift_operator.Left = refl
shift_read shift_operator.Right = refl

pub unary-is : (o p : UnaryOperator) → same_unary o p ≡ true → o ≡ p
unary-is o p e =
    let text = same_bytes (sign_text (unary_sign o)) (sign_text (unary_sign p)) e in
    same_Some o p (sym (unary_read o) ∙ ap unary_spelled text ∙ unary_read p)

pub binary-is : (o p : BinaryOperator) → same_binary o p ≡ true → o ≡ p
binary-is o p e =
    let text = same_bytes (sign_text (binary_sign o)) (sign_text (binary_sign p)) e in
    same_Some o p (sym (binary_read o) ∙ ap binary_spelled text ∙ binary_read p)

pub shift-is : (o p : ShiftOperator) → same_shift o p ≡ true → o ≡ p
shift-is o p e =
    let text = same_bytes (sign_text (shift_sign o)) (sign_text (shift_sign p)) e in
    same_Some o p (sym (shift_read o) ∙ ap shift_spelled text ∙ shift_read p)

truth-is : (a b : Bool) → same_truth a b ≡ true → a ≡ b
truth-is true true e = refl
truth-is true false e = absurd (true≢false (sym e))
truth-is false true e = absurd (true≢false (sym e))
truth-is false false e = refl

-- two atoms that are one are equal
pub atom-is : (a b : Resolved) → same_atom a b ≡ true → a ≡ b
atom-is (a_truth a) (a_truth b) e = ap a_truth (truth-is a b e)
atom-is (a_number a) (a_number b) e = ap a_number (eqb-true a b e)
atom-is (a_constant a) (a_constant b) e = ap a_constant (same_bytes a b e)
atom-is (a_variable a) (a_variable b) e = ap a_variable (eqb-true a b e)
atom-is of_step of_step e = refl
atom-is (a_unary o a) (a_unary p b) e =
    let parts = both_true (same_unary o p) (same_atom a b) e in
    λ i. a_unary (unary-is o p parts.0 i) (atom-is a b parts.1 i)
atom-is (a_binary o a b) (a_binary p x y) e =
    let parts = both_true (same_binary o p && same_atom a x) (same_atom b y) e in
    let front = both_true (same_binary o p) (same_atom a x) parts.0 in
    λ i. a_binary (binary-is o p front.0 i) (atom-is a x front.1 i) (atom-is b y parts.1 i)
atom-is (a_shift o a m) (a_shift p b n) e =
    let parts = both_true (same_shift o p && same_atom a b) (nat_eq m n) e in
    let front = both_true (same_shift o p) (same_atom a b) parts.0 in
    λ i. a_shift (shift-is o p front.0 i) (atom-is a b front.1 i) (eqb-true m n parts.1 i)
atom-is (a_choice e a b) (a_choice f x y) h =
    let parts = both_true (same_atom e f && same_atom a x) (same_atom b y) h in
    let front = both_true (same_atom e f) (same_atom a x) parts.0 in
    λ i. a_choice (atom-is e f front.0 i) (atom-is a x front.1 i) (atom-is b y parts.1 i)
atom-is (a_cast m a) (a_cast n b) e =
    let parts = both_true (nat_eq m n) (same_atom a b) e in
    λ i. a_cast (eqb-true m n parts.0 i) (atom-is a b parts.1 i)
atom-is (an_element m a) (an_element n b) e =
    let parts = both_true (nat_eq m n) (same_atom a b) e in
    λ i. an_element (eqb-true m n parts.0 i) (atom-is a b parts.1 i)
atom-is _ _ e = absurd (true≢false (sym e))

truth-itself : (a : Bool) → same_truth a a ≡ true
truth-itself true = refl
truth-itself false = refl

-- an atom is one with itself
pub atom-itself : (a : Resolved) → same_atom a a ≡ true
atom-itself (a_truth a) = truth-itself a
atom-itself (a_number a) = number-itself a
atom-itself (a_constant a) = bytes-itself a
atom-itself (a_variable a) = number-itself a
atom-itself of_step = refl
atom-itself (a_unary o a) = λ i. bytes-itself (sign_text (unary_sign o)) i && atom-itself a i
atom-itself (a_binary o a b) = λ i.
    (bytes-itself (sign_text (binary_sign o)) i && atom-itself a i) && atom-itself b i
atom-itself (a_shift o a m) = λ i.
    (bytes-itself (sign_text (shift_sign o)) i && atom-itself a i) && number-itself m i
atom-itself (a_choice e a b) = λ i. (atom-itself e i && atom-itself a i) && atom-itself b i
atom-itself (a_cast m a) = λ i. number-itself m i && atom-itself a i
atom-itself (an_element m a) = λ i. number-itself m i && atom-itself a i

pub same_atoms : (a b : Resolved) → same_atom a b ≡ true ↔ a ≡ b
same_atoms a b = (atom-is a b, λ e. subst (λ b. same_atom a b ≡ true) e (atom-itself a))
