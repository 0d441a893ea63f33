-- The terms of operators between two terms have the values that the operators give.
use Rattle.std.proofs.Common.{◌≡◌, ◌≢◌, ℕ, zero, suc, ◌^◌, ◌<◌, ◌==◌, Bool, true, false, Option, List, refl, sym, ap}
use Rattle.std.proofs.Common.{◌∙◌, subst, arith, nat_lt}
use Rattle.std.specs.Prelude.{◌||◌, not, nat_le, bit_and, bit_or, if◌then◌else◌}
use Rattle.std.proofs.lemmas.Bool.Decides.{nat_tests}
use Rattle.tm_base.specs.Arithmetic.{bit, difference, sum}
use Rattle.tm_syntax.specs.declared.tree.BinaryOperator.{BinaryOperator}
use Rattle.tm_syntax.specs.declared.tree.BinaryOperator.TheVariants.{Equal, NotEqual, Less, LessEqual, Greater}
use Rattle.tm_syntax.specs.declared.tree.BinaryOperator.TheVariants.{GreaterEqual, Add, Subtract, And, AndAlso, Or}
use Rattle.tm_syntax.specs.declared.tree.BinaryOperator.TheVariants.{OrElse, Xor}
use Rattle.tm_term.specs.declared.term.TermId.{TermId}
use Rattle.tm_term.specs.Table.{Table, count_of, width_of, AreAlike, Fits, term_width}
use Rattle.tm_term.specs.Value.{AreInputs, value_of, term_value, Extends}
use Rattle.tm_term.proofs.Valued.{Extends-trans}
use Rattle.tm_sem.specs.Value.{binary_value}
use Rattle.tm_design.specs.declared.sorts.OperatorSort.TheVariants.{Conjunction, Disjunction}
use Rattle.tm_flat_exprs.specs.declared.valued.Valued.{Valued}
use Rattle.tm_flat_exprs.specs.Made.{Makes, MakesTruth, truth_at}
use Rattle.tm_design.specs.Sorts.{sort_of}
use Rattle.tm_flat_exprs.specs.Operators.{is_denial, joined_overrun, joined_term, joined_width}
use Rattle.tm_flat_exprs.proofs.Later.{below_later, bit_is_zero, term_along}

not_below : (a b : ℕ) → nat_le a b ≡ not (nat_lt b a)
not_below a b = grind (arith, nat_tests)

and_truths : (x y : ℕ) → x < 2 ^ 1 → y < 2 ^ 1 → (if x == 0 then 0 else y) ≡ bit_and x y
and_truths zero zero p q = refl
and_truths zero (suc zero) p q = refl
and_truths (suc zero) zero p q = refl
and_truths (suc zero) (suc zero) p q = refl
and_truths (suc (suc x)) y p q = absurd (omega arith)
and_truths x (suc (suc y)) p q = absurd (omega arith)

or_truths : (x y : ℕ) → x < 2 ^ 1 → y < 2 ^ 1 → (if x == 0 then y else 1) ≡ bit_or x y
or_truths zero zero p q = refl
or_truths zero (suc zero) p q = refl
or_truths (suc zero) zero p q = refl
or_truths (suc zero) (suc zero) p q = refl
or_truths (suc (suc x)) y p q = absurd (omega arith)
or_truths x (suc (suc y)) p q = absurd (omega arith)

denies : (b : Bool) → bit (not b) ≡ bit (bit b == 0)
denies b = ap bit (sym (bit_is_zero b))

-- what an operator gives of two values of one width
by_term : (op : BinaryOperator) (u : Table) (v : List ℕ) (a b : TermId) (w : ℕ) → width_of u a ≡ w →
    (sort_of op ≡ Conjunction → w ≡ 1) → (sort_of op ≡ Disjunction → w ≡ 1) → value_of u v a < 2 ^ w →
    value_of u v b < 2 ^ w →
    binary_value op w (value_of u v a) (value_of u v b)
    ≡ (if is_denial op
    then bit (term_value u v (joined_term op a b) == 0)
    else term_value u v (joined_term op a b))
by_term Add u v a b w is both either p q = ap (λ k. sum k (value_of u v a) (value_of u v b)) (sym is)
by_term Subtract u v a b w is both either p q = ap (λ k. difference k (value_of u v a) (value_of u v b)) (sym is)
by_term And u v a b w is both either p q = refl
by_term Or u v a b w is both either p q = refl
by_term Xor u v a b w is both either p q = refl
by_term Equal u v a b w is both either p q = refl
by_term NotEqual u v a b w is both either p q = denies (value_of u v a == value_of u v b)
by_term Less u v a b w is both either p q = refl
by_term LessEqual u v a b w is both either p q =
    ap bit (not_below (value_of u v a) (value_of u v b)) ∙ denies (nat_lt (value_of u v b) (value_of u v a))
by_term Greater u v a b w is both either p q = refl
by_term GreaterEqual u v a b w is both either p q =
    ap bit (not_below (value_of u v b) (value_of u v a)) ∙ denies (nat_lt (value_of u v a) (value_of u v b))
by_term AndAlso u v a b w is both either p q =
    and_truths (value_of u v a) (value_of u v b) (subst (λ k. value_of u v a < 2 ^ k) (both refl) p)
    (subst (λ k. value_of u v b < 2 ^ k) (both refl) q)
by_term OrElse u v a b w is both either p q =
    or_truths (value_of u v a) (value_of u v b) (subst (λ k. value_of u v a < 2 ^ k) (either refl) p)
    (subst (λ k. value_of u v b < 2 ^ k) (either refl) q)

pub joined_fits : (t : Table) (op : BinaryOperator) (a b : TermId) → AreAlike t (count_of t) a b →
    Fits t (joined_term op a b)
joined_fits t Add a b alike = alike
joined_fits t Subtract a b alike = alike
joined_fits t And a b alike = alike
joined_fits t Or a b alike = alike
joined_fits t Xor a b alike = alike
joined_fits t Equal a b alike = alike
joined_fits t NotEqual a b alike = alike
joined_fits t Less a b alike = alike
joined_fits t LessEqual a b alike = (alike.1, alike.0, sym alike.2)
joined_fits t Greater a b alike = (alike.1, alike.0, sym alike.2)
joined_fits t GreaterEqual a b alike = alike
joined_fits t AndAlso a b alike = alike
joined_fits t OrElse a b alike = alike

-- the term of an operator that joins truths has one bit
plain_width : (t : Table) (op : BinaryOperator) (a b : TermId) → (sort_of op ≡ Conjunction → width_of t a ≡ 1) →
    (sort_of op ≡ Disjunction → width_of t a ≡ 1) →
    term_width t (joined_term op a b) ≡ joined_width (sort_of op) (width_of t a)
plain_width t Add a b both either = refl
plain_width t Subtract a b both either = refl
plain_width t And a b both either = refl
plain_width t Or a b both either = refl
plain_width t Xor a b both either = refl
plain_width t Equal a b both either = refl
plain_width t NotEqual a b both either = refl
plain_width t Less a b both either = refl
plain_width t LessEqual a b both either = refl
plain_width t Greater a b both either = refl
plain_width t GreaterEqual a b both either = refl
plain_width t AndAlso a b both either = both refl
plain_width t OrElse a b both either = either refl

-- a denial is a comparison
denial_width : (op : BinaryOperator) (w : ℕ) → is_denial op ≡ true → 1 ≡ joined_width (sort_of op) w
denial_width NotEqual w is = refl
denial_width LessEqual w is = refl
denial_width GreaterEqual w is = refl
denial_width _ w is = absurd (cc)

pub denied_term : (t : Table) (op : BinaryOperator) (a b : TermId) → is_denial op ≡ true →
    term_width t (joined_term op a b) ≡ 1
denied_term t NotEqual a b is = refl
denied_term t LessEqual a b is = refl
denied_term t GreaterEqual a b is = refl
denied_term t _ a b is = absurd (cc)

module _ (t m : Table) (op : BinaryOperator) (a b made : TermId) (alike : AreAlike t (count_of t) a b)
    (both : sort_of op ≡ Conjunction → width_of t a ≡ 1) (either : sort_of op ≡ Disjunction → width_of t a ≡ 1)
    (is : Makes t m (term_width t (joined_term op a b)) made (λ u v. term_value u v (joined_term op a b))) where
  later : (u : Table) → Extends m u → (v : List ℕ) → AreInputs u v →
      binary_value op (width_of t a) (value_of u v a) (value_of u v b)
      ≡ (if is_denial op then bit (value_of u v made == 0) else value_of u v made)
  later u more v are =
      let all : Extends t u = Extends-trans t m u is.grown more in
      by_term op u v a b (width_of t a) (all.widths a alike.0) both either
      (below_later m u v (width_of t a) a is.sound (term_along t m (width_of t a) a is.grown (alike.0, refl)) more are)
      (below_later m u v (width_of t a) b is.sound
      (term_along t m (width_of t a) b is.grown (alike.1, sym alike.2)) more
      are)
      ∙ ap (λ x. if is_denial op then bit (x == 0) else x) (sym (is.value u more v are))

  pub joined_plainly : is_denial op ≡ false →
      Makes t m (joined_width (sort_of op) (width_of t a)) made
      (λ u v. binary_value op (width_of t a) (value_of u v a) (value_of u v b))
  joined_plainly plain = record {
    grown = is.grown;
    sound = is.sound;
    term = (is.term.0, is.term.1 ∙ plain_width t op a b both either);
    value = λ u more v are.
        sym (later u more v are ∙ ap (λ x. if x then bit (value_of u v made == 0) else value_of u v made) plain);
  }

  pub joined_denied : (n : Table) (id : TermId) → is_denial op ≡ true →
      Makes m n 1 id (λ u v. bit (value_of u v made == 0)) →
      Makes t n (joined_width (sort_of op) (width_of t a)) id
      (λ u v. binary_value op (width_of t a) (value_of u v a) (value_of u v b))
  joined_denied n id denial denies = record {
    grown = Extends-trans t m n is.grown denies.grown;
    sound = denies.sound;
    term = (denies.term.0, denies.term.1 ∙ denial_width op (width_of t a) denial);
    value = λ u more v are.
        denies.value u more v are
        ∙ sym (later u (Extends-trans m n u denies.grown more) v are
        ∙ ap (λ x. if x then bit (value_of u v made == 0) else value_of u v made) denial);
  }

-- ---- overruns
pub other_overrun : (op : BinaryOperator) (x : ℕ) (p q : Bool) → op ≢ AndAlso → op ≢ OrElse →
    joined_overrun op x p q ≡ (p || q)
other_overrun AndAlso x p q not_and not_or = absurd (not_and refl)
other_overrun OrElse x p q not_and not_or = absurd (not_or refl)
other_overrun _ x p q not_and not_or = refl

-- an operator that is none of logic overruns where one of its operands does
pub otherwise_overruns : (t n : Table) (op : BinaryOperator) (first : Valued) (second id : Option TermId) →
    op ≢ AndAlso → op ≢ OrElse → MakesTruth t n id (λ u v. truth_at u v first.overrun || truth_at u v second) →
    MakesTruth t n id
    (λ u v. joined_overrun op (value_of u v first.value) (truth_at u v first.overrun) (truth_at u v second))
otherwise_overruns t n op first second id not_and not_or made = record {
  grown = made.grown;
  sound = made.sound;
  term = made.term;
  truth = λ u more v are.
      made.truth u more v are
      ∙ sym (other_overrun op (value_of u v first.value) (truth_at u v first.overrun) (truth_at u v second) not_and
      not_or);
}
