-- Terms of comparisons, and of the truth of a number.
use Rattle.std.proofs.Common.{◌≡◌, ℕ, zero, suc, ◌+◌, ◌==◌, Bool, true, false, Option, None, Some, List, [], ◌∷◌, take, slice_get, refl, sym, ap, ◌∙◌, subst, arith}
use Rattle.std.specs.Prelude.{◌&&◌, ◌||◌, not}
use Rattle.std.proofs.lemmas.Bool.Decides.{nat_tests}
use Rattle.tm_base.specs.Arithmetic.{bit}
use Rattle.tm_term.specs.declared.term.Term.TheVariants.{Eq}
use Rattle.tm_term.specs.declared.term.TermId.{TermId}
use Rattle.tm_term.specs.Table.{AreAlike, Table, IsKnown, IsSound, count_of, width_of}
use Rattle.tm_term.specs.Value.{value_of, term_value, Extends}
use Rattle.tm_term.proofs.Valued.{Extends-trans}
use Rattle.tm_flat_exprs.specs.Made.{IsTruth, Makes, MakesTruth, truth_at, value_at}
use Rattle.tm_flat_exprs.proofs.Later.{Extends-refl, truth_along}
use Rattle.tm_flat_states.specs.Truths.{AreTruths, numbered_truth}

-- ---- a truth that may be wanting, as a term
pub truth_there : (t : Table) (id : TermId) (o : Option TermId) → o ≡ Some id → IsSound t → IsTruth t o →
    Makes t t 1 id (λ u v. value_at u v o)
truth_there t id o is sound truth = record {
  grown = Extends-refl t;
  sound = sound;
  term = subst (IsTruth t) is truth;
  value = λ u more v are. ap (value_at u v) (sym is);
}

pub truth_never : (t n : Table) (id : TermId) (o : Option TermId) → o ≡ None → Makes t n 1 id (λ u v. 0) →
    Makes t n 1 id (λ u v. value_at u v o)
truth_never t n id o is made = record {
  grown = made.grown;
  sound = made.sound;
  term = made.term;
  value = λ u more v are. made.value u more v are ∙ ap (value_at u v) (sym is);
}

-- ---- whether a term has a number
pub number_alike : (t m : Table) (of constant : TermId) (w number : ℕ) → w ≡ width_of t of → IsKnown t of →
    Makes t m w constant (λ u v. number) → AreAlike m (count_of m) of constant
number_alike t m of constant w number is known made =
    (made.grown.known of known, made.term.0, made.grown.widths of known ∙ sym is ∙ sym made.term.1)

pub alike_number : (t m : Table) (of constant : TermId) (w number : ℕ) → w ≡ width_of t of → IsKnown t of →
    Makes t m w constant (λ u v. number) → AreAlike m (count_of m) constant of
alike_number t m of constant w number is known made =
    let alike = number_alike t m of constant w number is known made in (alike.1, alike.0, sym alike.2)

pub truth_after : (t l m : Table) (id : Option TermId) → Extends t l → Extends l m → IsTruth t id → IsTruth m id
truth_after t l m id first second truth = truth_along t m id (Extends-trans t l m first second) truth

pub makes_number : (t m n : Table) (of constant id : TermId) (number w : ℕ) → Makes t m w constant (λ u v. number) →
    Makes m n 1 id (λ u v. term_value u v (Eq of constant)) →
    Makes t n 1 id (λ u v. bit (value_of u v of == number))
makes_number t m n of constant id number w first made = record {
  grown = Extends-trans t m n first.grown made.grown;
  sound = made.sound;
  term = made.term;
  value = λ u more v are.
      made.value u more v are
      ∙ ap (λ x. bit (value_of u v of == x)) (first.value u (Extends-trans m n u made.grown more) v are);
}

-- ---- whether a truth holds, or a term has a number and another truth holds
pub or_at_number : (t l m n : Table) (before here both id : Option TermId) (of stands : TermId) (number : ℕ) →
    Makes t l 1 stands (λ u v. bit (value_of u v of == number)) →
    MakesTruth l m both (λ u v. not (value_of u v stands == 0) && truth_at u v here) →
    MakesTruth m n id (λ u v. truth_at u v before || truth_at u v both) →
    MakesTruth t n id (λ u v. truth_at u v before || ((value_of u v of == number) && truth_at u v here))
or_at_number t l m n before here both id of stands number first second third =
    let later : Extends l n = Extends-trans l m n second.grown third.grown in
    record {
      grown = Extends-trans t l n first.grown later;
      sound = third.sound;
      term = third.term;
      truth = λ u more v are.
          third.truth u more v are
          ∙ ap (λ x. truth_at u v before || x) (second.truth u (Extends-trans m n u third.grown more) v are
          ∙ ap (λ x. not (x == 0) && truth_at u v here) (first.value u (Extends-trans l n u later more) v are)
          ∙ ap (λ x. x && truth_at u v here) (stood (value_of u v of == number)));
    }
  where
    stood : (b : Bool) → not (bit b == 0) ≡ b
    stood true = refl
    stood false = refl

-- ---- the truth of a number of a list, one more
or_none : (b : Bool) → b ≡ (b || false)
or_none true = refl
or_none false = refl

pub numbered_more : (f : Option TermId → Bool) → f None ≡ false →
    (ts : List (Option TermId)) (i : ℕ) (id : Option TermId) →
    slice_get ts i ≡ Some id → (x : ℕ) →
    f (numbered_truth (take (i + 1) ts) x) ≡ (f (numbered_truth (take i ts) x) || ((x == i) && f id))
numbered_more f never [] i id is x = absurd (cc)
numbered_more f never (s ∷ ts) zero id is zero =
    let same : s ≡ id = cc in ap f same ∙ ap (λ b. b || f id) (sym never)
numbered_more f never (s ∷ ts) zero id is (suc x) =
    let apart : (suc x == 0) ≡ false = grind (arith, nat_tests) in
    or_none (f None) ∙ ap (λ b. f None || (b && f id)) (sym apart)
numbered_more f never (s ∷ ts) (suc i) id is zero =
    let at : suc (i + 1) ≡ suc i + 1 = omega arith in
    let apart : (0 == suc i) ≡ false = grind (arith, nat_tests) in
    ap (λ k. f (numbered_truth (take k (s ∷ ts)) 0)) (sym at)
    ∙ or_none (f s) ∙ ap (λ b. f s || (b && f id)) (sym apart)
numbered_more f never (s ∷ ts) (suc i) id is (suc x) =
    let at : suc (i + 1) ≡ suc i + 1 = omega arith in
    let same : (x == i) ≡ (suc x == suc i) = grind (arith, nat_tests) in
    ap (λ k. f (numbered_truth (take k (s ∷ ts)) (suc x))) (sym at)
    ∙ numbered_more f never ts i id is x
    ∙ ap (λ b. f (numbered_truth (take i ts) x) || (b && f id)) same

pub truths_along : (t n : Table) (ts : List (Option TermId)) → Extends t n → AreTruths t ts → AreTruths n ts
truths_along t n ts grown are = record { each = λ k id is. truth_along t n id grown (are.each k id is) }

-- so far the truth of the number was found that a term has
abbrev pub Found : Table → Table → TermId → List (Option TermId) → Option TermId → Type 0
Found t n of ts id = MakesTruth t n id (λ u v. truth_at u v (numbered_truth ts (value_of u v of)))

pub found_first : (t : Table) (of : TermId) → IsSound t → Found t t of [] None
found_first t of sound = record {
  grown = Extends-refl t;
  sound = sound;
  term = tt;
  truth = λ u more v are. refl;
}

pub found_more : (t m n : Table) (of : TermId) (ts : List (Option TermId)) (i : ℕ) (before here id : Option TermId) →
    slice_get ts i ≡ Some here → Found t m of (take i ts) before →
    MakesTruth m n id (λ u v. truth_at u v before || ((value_of u v of == i) && truth_at u v here)) →
    Found t n of (take (i + 1) ts) id
found_more t m n of ts i before here id is so_far made = record {
  grown = Extends-trans t m n so_far.grown made.grown;
  sound = made.sound;
  term = made.term;
  truth = λ u more v are.
      made.truth u more v are
      ∙ ap (λ b. b || ((value_of u v of == i) && truth_at u v here))
      (so_far.truth u (Extends-trans m n u made.grown more) v are)
      ∙ sym (numbered_more (truth_at u v) refl ts i here is (value_of u v of));
}
