-- What is known of terms, in each later table.
use Rattle.std.proofs.Common.{◌≡◌, ℕ, zero, suc, ◌^◌, ◌<◌, ◌==◌, Bool, true, false, Option, None, Some, List, length}
use Rattle.std.proofs.Common.{refl, sym, ap, ◌∙◌, subst, arith}
use Rattle.std.specs.Prelude.{◌&&◌, ◌||◌, not, bit_and, bit_or, slice_index}
use Rattle.std.proofs.lemmas.Bool.Decides.{nat_tests}
use Rattle.tm_base.specs.Arithmetic.{bit, complement, is_nonzero}
use Rattle.tm_term.specs.declared.term.Term.{Term}
use Rattle.tm_term.specs.declared.term.Term.TheVariants.{Not, And, Or}
use Rattle.tm_term.specs.declared.term.TermId.{TermId}
use Rattle.tm_term.specs.Table.{Table, count_of, IsKnown, width_of, Fits, term_width, IsSound}
use Rattle.tm_term.specs.Value.{AreInputs, value_of, term_value, Extends}
use Rattle.tm_term.proofs.Growth.{Agrees}
use Rattle.tm_term.proofs.Valued.{Extends-trans, value_of-below, value_over-along}
use Rattle.tm_flat.specs.Steps.{IsTerm}
use Rattle.tm_flat_exprs.specs.Made.{IsTruth, Makes, MakesTruth, truth_at}

pub Extends-refl : (t : Table) → Extends t t
Extends-refl t = record {
  inputs = refl;
  known = λ id known. known;
  terms = λ id known. refl;
  widths = λ id known. refl;
  values = λ v id known. refl;
}

pub term_along : (t n : Table) (w : ℕ) (id : TermId) → Extends t n → IsTerm t w id → IsTerm n w id
term_along t n w id grown term = (grown.known id term.0, grown.widths id term.0 ∙ term.1)

pub truth_along : (t n : Table) (id : Option TermId) → Extends t n → IsTruth t id → IsTruth n id
truth_along t n None grown truth = truth
truth_along t n (Some id) grown truth = term_along t n 1 id grown truth

pub made : (t n : Table) (term : Term) (id : TermId) → Fits t term → Extends t n → IsSound n → IsKnown n id →
    width_of n id ≡ term_width t term → ((v : List ℕ) → value_of n v id ≡ term_value t v term) →
    Makes t n (term_width t term) id (λ u v. term_value u v term)
made t n term id fits grown sound known width value = record {
  grown = grown;
  sound = sound;
  term = (known, width);
  value = λ u more v are.
      let all : Extends t u = Extends-trans t n u grown more in
      let agrees : Agrees t u (count_of t) = record { inputs = all.inputs; widths = all.widths } in
      more.values v id known
      ∙ value v
      ∙ sym (value_over-along t u (count_of t) v (value_of t v) (value_of u v) term agrees fits (all.values v));
}

-- a term has a value of its width in each later table
pub below_later : (n u : Table) (v : List ℕ) (w : ℕ) (id : TermId) → IsSound n → IsTerm n w id → Extends n u →
    AreInputs u v → value_of u v id < 2 ^ w
below_later n u v w id sound term more are =
    let here : AreInputs n v = record {
      count = are.count ∙ ap length more.inputs;
      in_range = λ i below. subst (λ xs. slice_index v i < 2 ^ slice_index xs i) more.inputs (are.in_range i below);
    } in
    let below : value_of n v id < 2 ^ width_of n id = value_of-below n v sound here id term.0 in
    subst (λ x. x < 2 ^ w) (sym (more.values v id term.0)) (subst (λ k. value_of n v id < 2 ^ k) term.1 below)

-- ---- truths
pub denied : (x : ℕ) → complement 1 x ≡ bit (x == 0)
denied zero = refl
denied (suc x) =
    let none : complement 1 (suc x) ≡ 0 = omega arith in
    let apart : (suc x == 0) ≡ false = grind (arith, nat_tests) in
    none ∙ ap bit (sym apart)

pub bit_is_zero : (b : Bool) → (bit b == 0) ≡ not b
bit_is_zero true = refl
bit_is_zero false = refl

pub or_of_truths : (x y : ℕ) → x < 2 ^ 1 → y < 2 ^ 1 → is_nonzero (bit_or x y) ≡ (is_nonzero x || is_nonzero y)
or_of_truths zero zero p q = refl
or_of_truths zero (suc zero) p q = refl
or_of_truths (suc zero) zero p q = refl
or_of_truths (suc zero) (suc zero) p q = refl
or_of_truths (suc (suc x)) y p q = absurd (omega arith)
or_of_truths x (suc (suc y)) p q = absurd (omega arith)

pub and_of_truths : (x y : ℕ) → x < 2 ^ 1 → y < 2 ^ 1 → is_nonzero (bit_and x y) ≡ (not (x == 0) && is_nonzero y)
and_of_truths zero zero p q = refl
and_of_truths zero (suc zero) p q = refl
and_of_truths (suc zero) zero p q = refl
and_of_truths (suc zero) (suc zero) p q = refl
and_of_truths (suc (suc x)) y p q = absurd (omega arith)
and_of_truths x (suc (suc y)) p q = absurd (omega arith)

pub and_never : (b : Bool) → (b && false) ≡ false
and_never true = refl
and_never false = refl

pub or_never : (b : Bool) → (b || false) ≡ b
or_never true = refl
or_never false = refl

pub makes_denial : (t n : Table) (a id : TermId) → IsTerm t 1 a →
    Makes t n (term_width t (Not a)) id (λ u v. term_value u v (Not a)) →
    Makes t n 1 id (λ u v. bit (value_of u v a == 0))
makes_denial t n a id term made = record {
  grown = made.grown;
  sound = made.sound;
  term = (made.term.0, made.term.1 ∙ term.1);
  value = λ u more v are.
      let all : Extends t u = Extends-trans t n u made.grown more in
      made.value u more v are
      ∙ ap (λ w. complement w (value_of u v a)) (all.widths a term.0 ∙ term.1)
      ∙ denied (value_of u v a);
}

pub makes_either : (t n : Table) (a b id : TermId) → IsTerm t 1 a → IsTerm t 1 b →
    Makes t n (term_width t (Or a b)) id (λ u v. term_value u v (Or a b)) →
    MakesTruth t n (Some id) (λ u v. truth_at u v (Some a) || truth_at u v (Some b))
makes_either t n a b id first second made = record {
  grown = made.grown;
  sound = made.sound;
  term = (made.term.0, made.term.1 ∙ first.1);
  truth = λ u more v are.
      ap is_nonzero (made.value u more v are)
      ∙ or_of_truths (value_of u v a) (value_of u v b)
      (below_later n u v 1 a made.sound (term_along t n 1 a made.grown first) more are)
      (below_later n u v 1 b made.sound (term_along t n 1 b made.grown second) more are);
}

pub makes_both : (t n : Table) (a b id : TermId) → IsTerm t 1 a → IsTerm t 1 b →
    Makes t n (term_width t (And a b)) id (λ u v. term_value u v (And a b)) →
    MakesTruth t n (Some id) (λ u v. not (value_of u v a == 0) && truth_at u v (Some b))
makes_both t n a b id first second made = record {
  grown = made.grown;
  sound = made.sound;
  term = (made.term.0, made.term.1 ∙ first.1);
  truth = λ u more v are.
      ap is_nonzero (made.value u more v are)
      ∙ and_of_truths (value_of u v a) (value_of u v b)
      (below_later n u v 1 a made.sound (term_along t n 1 a made.grown first) more are)
      (below_later n u v 1 b made.sound (term_along t n 1 b made.grown second) more are);
}

pub makes_denied : (t m n : Table) (a b fails id : TermId) → IsTerm t 1 a → IsTerm t 1 b →
    Makes t m 1 fails (λ u v. bit (value_of u v a == 0)) →
    Makes m n (term_width m (And fails b)) id (λ u v. term_value u v (And fails b)) →
    MakesTruth t n (Some id) (λ u v. not (not (value_of u v a == 0)) && truth_at u v (Some b))
makes_denied t m n a b fails id first second denial made =
    let both : MakesTruth m n (Some id) (λ u v. not (value_of u v fails == 0) && truth_at u v (Some b)) =
    makes_both m n fails b id denial.term (term_along t m 1 b denial.grown second) made in
    record {
      grown = Extends-trans t m n denial.grown made.grown;
      sound = made.sound;
      term = both.term;
      truth = λ u more v are.
          both.truth u more v are
          ∙ ap (λ x. not (x == 0) && truth_at u v (Some b))
          (denial.value u (Extends-trans m n u made.grown more) v are)
          ∙ ap (λ x. not x && truth_at u v (Some b)) (bit_is_zero (value_of u v a == 0));
    }

-- ---- a truth that was there already
pub keeps_truth : (t : Table) (id : Option TermId) (f : Table → List ℕ → Bool) → IsSound t → IsTruth t id →
    ((u : Table) (v : List ℕ) → truth_at u v id ≡ f u v) → MakesTruth t t id f
keeps_truth t id f sound truth same = record {
  grown = Extends-refl t;
  sound = sound;
  term = truth;
  truth = λ u more v are. same u v;
}

pub first_alone : (t : Table) (a : Option TermId) → IsSound t → IsTruth t a →
    MakesTruth t t a (λ u v. truth_at u v a || truth_at u v None)
first_alone t a sound truth =
    keeps_truth t a (λ u v. truth_at u v a || truth_at u v None) sound truth (λ u v. sym (or_never (truth_at u v a)))

pub second_alone : (t : Table) (b : Option TermId) → IsSound t → IsTruth t b →
    MakesTruth t t b (λ u v. truth_at u v None || truth_at u v b)
second_alone t b sound truth = keeps_truth t b (λ u v. truth_at u v None || truth_at u v b) sound truth (λ u v. refl)

pub never_where : (t : Table) (f : Table → List ℕ → Bool) → IsSound t →
    MakesTruth t t None (λ u v. f u v && truth_at u v None)
never_where t f sound =
    keeps_truth t None (λ u v. f u v && truth_at u v None) sound tt (λ u v. sym (and_never (f u v)))

-- ---- truths of truths
pub or_made : (t m n : Table) (a b id : Option TermId) (f : Table → List ℕ → Bool) → MakesTruth t m b f →
    MakesTruth m n id (λ u v. truth_at u v a || truth_at u v b) → MakesTruth t n id (λ u v. truth_at u v a || f u v)
or_made t m n a b id f first second = record {
  grown = Extends-trans t m n first.grown second.grown;
  sound = second.sound;
  term = second.term;
  truth = λ u more v are.
      second.truth u more v are
      ∙ ap (λ x. truth_at u v a || x) (first.truth u (Extends-trans m n u second.grown more) v are);
}

pub or_both : (t l m n : Table) (a b id : Option TermId) (f g : Table → List ℕ → Bool) → MakesTruth t l a f →
    MakesTruth l m b g → MakesTruth m n id (λ u v. truth_at u v a || truth_at u v b) →
    MakesTruth t n id (λ u v. f u v || g u v)
or_both t l m n a b id f g first second both =
    let last : Extends l n = Extends-trans l m n second.grown both.grown in
    record {
      grown = Extends-trans t l n first.grown last;
      sound = both.sound;
      term = both.term;
      truth = λ u more v are.
          both.truth u more v are
          ∙ ap (λ x. x || truth_at u v b) (first.truth u (Extends-trans l n u last more) v are)
          ∙ ap (λ x. f u v || x) (second.truth u (Extends-trans m n u both.grown more) v are);
    }
