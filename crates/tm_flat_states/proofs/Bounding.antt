-- Terms of bounds.
use Rattle.std.proofs.Common.{◌≡◌, ℕ, zero, suc, ◌+◌, ◌^◌, ◌<◌, ◌≤◌, ◌==◌, Some, List, [], ◌∷◌, length, take, slice_get, slice_index, nat_lt, refl, sym, ap, ◌∙◌, subst, arith}
use Rattle.std.specs.Prelude.{◌↔◌, bit_and}
use Rattle.std.proofs.lemmas.Bool.Decides.{nat_tests}
use Rattle.tm_base.specs.Arithmetic.{bit}
use Rattle.tm_term.specs.declared.term.Term.TheVariants.{And, Input, Less}
use Rattle.tm_term.specs.declared.term.TermId.{TermId}
use Rattle.tm_term.specs.Table.{Table, count_of, term_width, AreAlike}
use Rattle.tm_term.specs.Value.{value_of, term_value, Extends}
use Rattle.tm_term.proofs.Valued.{Extends-trans}
use Rattle.tm_flat.specs.Steps.{IsTerm}
use Rattle.tm_flat_exprs.specs.Made.{Makes}
use Rattle.tm_flat_exprs.proofs.Later.{below_later, term_along}
use Rattle.tm_flat_states.specs.declared.bounds.Bound.{Bound}
use Rattle.tm_flat_states.specs.Bounds.{FitAll, MakesTest, MeetAll, Meets, bound_number}

-- a term whose value is known is a test
pub test_of : (t n : Table) (id : TermId) (f : Table → List ℕ → ℕ) (P : Table → List ℕ → Type 0) → Makes t n 1 id f →
    ((u : Table) (v : List ℕ) → (f u v ≡ 1) ↔ P u v) → MakesTest t n id P
test_of t n id f P made same = record {
  grown = made.grown;
  sound = made.sound;
  term = made.term;
  holds = λ u more v are. (
    λ one. (same u v).0 (sym (made.value u more v are) ∙ one),
    λ so. made.value u more v are ∙ (same u v).1 so,
  );
}

below_so : (most x : ℕ) → bit (bit (nat_lt most x) == 0) ≡ 1 → x ≤ most
below_so most x is = grind (arith, nat_tests)

so_below : (most x : ℕ) → x ≤ most → bit (bit (nat_lt most x) == 0) ≡ 1
so_below most x below = grind (arith, nat_tests)

-- ---- at most a number: it is not above it
pub makes_at_most : (t l m n : Table) (of constant above id : TermId) (most w : ℕ) →
    Makes t l w constant (λ u v. most) →
    Makes l m 1 above (λ u v. term_value u v (Less constant of)) →
    Makes m n 1 id (λ u v. bit (value_of u v above == 0)) → MakesTest t n id (λ u v. value_of u v of ≤ most)
makes_at_most t l m n of constant above id most w first second third =
    let later : Extends l n = Extends-trans l m n second.grown third.grown in
    test_of t n id (λ u v. bit (bit (nat_lt most (value_of u v of)) == 0)) (λ u v. value_of u v of ≤ most) (record {
      grown = Extends-trans t l n first.grown later;
      sound = third.sound;
      term = third.term;
      value = λ u more v are.
          third.value u more v are
          ∙ ap (λ x. bit (x == 0)) (second.value u (Extends-trans m n u third.grown more) v are
          ∙ ap (λ x. bit (nat_lt x (value_of u v of))) (first.value u (Extends-trans l n u later more) v are));
    }) (λ u v. (below_so most (value_of u v of), so_below most (value_of u v of)))

same_so : (x n : ℕ) → bit (x == n) ≡ 1 → x ≡ n
same_so x n is = grind (arith, nat_tests)

so_same : (x n : ℕ) → x ≡ n → bit (x == n) ≡ 1
so_same x n is = grind (arith, nat_tests)

-- ---- exactly a number
pub makes_exactly : (t n : Table) (of id : TermId) (one : ℕ) → Makes t n 1 id (λ u v. bit (value_of u v of == one)) →
    MakesTest t n id (λ u v. value_of u v of ≡ one)
makes_exactly t n of id one made =
    test_of t n id (λ u v. bit (value_of u v of == one)) (λ u v. value_of u v of ≡ one) made
    (λ u v. (same_so (value_of u v of) one, so_same (value_of u v of) one))

-- ---- two truths as one
both_so : (x y : ℕ) → x < 2 ^ 1 → y < 2 ^ 1 → bit_and x y ≡ 1 → (x ≡ 1) × (y ≡ 1)
both_so zero y p q is = absurd (zero_and y is)
  where
    zero_and : (y : ℕ) → bit_and 0 y ≡ 1 → ⊥
    zero_and zero is = absurd (omega (arith, is))
    zero_and (suc y) is = absurd (omega (arith, is))
both_so (suc zero) zero p q is = absurd (omega (arith, is))
both_so (suc zero) (suc zero) p q is = (refl, refl)
both_so (suc (suc x)) y p q is = absurd (omega arith)
both_so x (suc (suc y)) p q is = absurd (omega arith)

so_both : (x y : ℕ) → x ≡ 1 → y ≡ 1 → bit_and x y ≡ 1
so_both x y p q = ap (λ n. bit_and n y) p ∙ ap (bit_and 1) q

pub makes_both : (t l m n : Table) (before number here id : TermId) (input : ℕ) (b : Bound) → IsTerm t 1 before →
    Makes t l (term_width t (Input input)) number (λ u v. term_value u v (Input input)) →
    MakesTest l m here (λ u v. Meets b (value_of u v number)) →
    Makes m n (term_width m (And before here)) id (λ u v. term_value u v (And before here)) →
    MakesTest t n id (λ u v. (value_of u v before ≡ 1) × Meets b (slice_index v input))
makes_both t l m n before number here id input b one first second third =
    let later : Extends l n = Extends-trans l m n second.grown third.grown in
    let early : Extends t m = Extends-trans t l m first.grown second.grown in
    let mid : IsTerm m 1 before = term_along t m 1 before early one in
    record {
      grown = Extends-trans t l n first.grown later;
      sound = third.sound;
      term = (third.term.0, third.term.1 ∙ mid.1);
      holds = λ u more v are.
          let then_so : Extends m u = Extends-trans m n u third.grown more in
          let tells = second.holds u then_so v are in
          let input_is : value_of u v number ≡ slice_index v input = first.value u (Extends-trans l n u later more) v
          are in
          let x = below_later n u v 1 before third.sound (term_along m n 1 before third.grown mid) more are in
          let y = below_later n u v 1 here third.sound (term_along m n 1 here third.grown second.term) more are in (
            λ is.
                let parts = both_so (value_of u v before) (value_of u v here) x y
                (sym (third.value u more v are) ∙ is) in
                (parts.0, subst (Meets b) input_is (tells.0 parts.1)),
            λ so.
                third.value u more v are
                ∙ so_both (value_of u v before) (value_of u v here) so.0 (tells.1
                (subst (Meets b) (sym input_is) so.1)),
          );
    }

pub both_alike : (t l m : Table) (before number here : TermId) (w : ℕ) (f : Table → List ℕ → ℕ)
    (P : Table → List ℕ → Type 0) → IsTerm t 1 before → Makes t l w number f → MakesTest l m here P →
    AreAlike m (count_of m) before here
both_alike t l m before number here w f P one first second =
    let mid : IsTerm m 1 before = term_along t m 1 before (Extends-trans t l m first.grown second.grown) one in
    (mid.0, second.term.0, mid.1 ∙ sym second.term.1)

-- ---- bounds one behind the other
pub fit_long : (ws : List ℕ) (bs : List Bound) → FitAll ws bs → length bs ≤ length ws
fit_long ws [] fit = omega arith
fit_long [] (b ∷ bs) fit = absurd fit
fit_long (w ∷ ws) (b ∷ bs) fit = let rest = fit_long ws bs fit.1 in omega (arith, rest)

pub fit_at : (ws : List ℕ) (bs : List Bound) (i : ℕ) (b : Bound) → FitAll ws bs → slice_get bs i ≡ Some b →
    bound_number b < 2 ^ slice_index ws i
fit_at ws [] i b fit is = absurd (cc)
fit_at [] (c ∷ bs) i b fit is = absurd fit
fit_at (w ∷ ws) (c ∷ bs) zero b fit is = let same : c ≡ b = cc in subst (λ x. bound_number x < 2 ^ w) same fit.0
fit_at (w ∷ ws) (c ∷ bs) (suc i) b fit is = fit_at ws bs i b fit.1 is

-- the numbers are within one bound more
pub meet_more : (bs : List Bound) (i : ℕ) (b : Bound) (v : List ℕ) → slice_get bs i ≡ Some b → i < length v →
    MeetAll (take (i + 1) bs) v ↔ (MeetAll (take i bs) v × Meets b (slice_index v i))
meet_more [] i b v is below = absurd (cc)
meet_more (c ∷ bs) i b [] is below = absurd (omega arith)
meet_more (c ∷ bs) zero b (n ∷ v) is below =
    let same : c ≡ b = cc in
    (λ all. (tt, subst (λ x. Meets x n) same all.0), λ so. (subst (λ x. Meets x n) (sym same) so.1, tt))
meet_more (c ∷ bs) (suc i) b (n ∷ v) is below =
    let at : suc (i + 1) ≡ suc i + 1 = omega arith in
    let rest = meet_more bs i b v is (omega arith) in (
      λ all.
          let here : MeetAll (take (suc (i + 1)) (c ∷ bs)) (n ∷ v) =
          subst (λ k. MeetAll (take k (c ∷ bs)) (n ∷ v)) (sym at) all in
          let there = rest.0 here.1 in ((here.0, there.0), there.1),
      λ so.
          subst (λ k. MeetAll (take k (c ∷ bs)) (n ∷ v)) at (so.0.0, rest.1 (so.0.1, so.1)),
    )

pub bounds_first : (t n : Table) (id : TermId) → Makes t n 1 id (λ u v. 1) → MakesTest t n id (λ u v. MeetAll [] v)
bounds_first t n id made = test_of t n id (λ u v. 1) (λ u v. MeetAll [] v) made (λ u v. (λ is. tt, λ so. refl))

pub bounds_more : (t m n : Table) (bs : List Bound) (i : ℕ) (b : Bound) (before id : TermId) →
    slice_get bs i ≡ Some b → FitAll t.inputs bs → MakesTest t m before (λ u v. MeetAll (take i bs) v) →
    MakesTest m n id (λ u v. (value_of u v before ≡ 1) × Meets b (slice_index v i)) →
    MakesTest t n id (λ u v. MeetAll (take (i + 1) bs) v)
bounds_more t m n bs i b before id is fit so_far made =
    let all : Extends t n = Extends-trans t m n so_far.grown made.grown in
    record {
      grown = all;
      sound = made.sound;
      term = made.term;
      holds = λ u more v are.
          let below : i < length v =
          inside i bs b is (fit_long t.inputs bs fit) (are.count ∙ ap length (more.inputs ∙ all.inputs)) in
          let first = so_far.holds u (Extends-trans m n u made.grown more) v are in
          let second = made.holds u more v are in
          let step = meet_more bs i b v is below in (
            λ one. let both = second.0 one in step.1 (first.0 both.0, both.1),
            λ met. let both = step.0 met in second.1 (first.1 both.0, both.1),
          );
    }
  where
    inside : (i : ℕ) (bs : List Bound) (b : Bound) → slice_get bs i ≡ Some b → {c : ℕ} → length bs ≤ c → {k : ℕ} →
        k ≡ c → i < k
    inside i bs b is {c} within {k} same = let here = there bs i is in omega (arith, here, within, same)
      where
        there : (bs : List Bound) (i : ℕ) → slice_get bs i ≡ Some b → i < length bs
        there [] i is = absurd (cc)
        there (c ∷ bs) zero is = omega arith
        there (c ∷ bs) (suc i) is = let rest = there bs i is in omega (arith, rest)
