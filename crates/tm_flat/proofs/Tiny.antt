-- The steps of the tiny design are what their terms tell.
use Rattle.std.proofs.Common.{◌≡◌, ℕ, zero, suc, ◌<◌, ◌≤◌, ◌↔◌, ◌==◌, ◌||◌, inr, Bool, true, false, nat_lt, bit_and, ltb-true, lt-ltb, eqb-true, eq-eqb, Some, All, List, [], ◌∷◌, length, refl, sym, ap, ◌∙◌, subst, arith, slice_index}
use Rattle.std.specs.List.{AllZip}
use Rattle.std.proofs.lemmas.List.Elements.{All-nil}
use Rattle.tm_base.specs.Arithmetic.{bit}
use Rattle.tm_term.specs.Value.{AreInputs, value_of, value_within}
use Rattle.tm_syntax.specs.Design.Locations.{rest, end_number, is_magic_at}
use Rattle.tm_syntax.specs.declared.design.Var.{Var}
use Rattle.tm_syntax.specs.Design.Sizes.{type_size}
use Rattle.tm_sem.specs.State.{StateData}
use Rattle.tm_sem.specs.Step.{IsState, IsInitial, is_driver_turn}
use Rattle.tm_sem.specs.Fairness.{of_driver}
use Rattle.tm_flat.specs.BitStep.{outcome_at, HasRoom}
use Rattle.tm_flat.specs.Fitting.{ItemsFit}
use Rattle.tm_flat.specs.Flat.{StepTerms}
use Rattle.tm_flat.specs.Inputs.{room, bits_in, input_values, state_from}
use Rattle.tm_flat.specs.IsFlat.{location_numbers, IsGoalTerm, IsFairTerm, IsFlat}
use Rattle.tm_flat.specs.Steps.{IsTerm, AreTerms, told_outcome, move_from, IsProcessStep}
use Rattle.tm_flat.specs.Tiny.{tiny, tiny_terms, term_at, tiny_steps, tiny_flat}
use Rattle.tm_flat.proofs.Telling.{tells_so}

items_fit : (p k : ℕ) → ItemsFit room tiny (rest tiny p k) 0
unfolding room
items_fit zero zero = (omega arith, tt, tt)
items_fit zero (suc zero) = omega arith
items_fit zero (suc (suc k)) = omega arith
items_fit (suc p) zero = omega arith
items_fit (suc p) (suc k) = omega arith

has_room : HasRoom tiny
has_room = record {
  processes = items_fit;
  tasks = λ n callee known. absurd (cc);
  arguments = λ n callee known. absurd (cc);
}

-- a state at which the process stands at a location
abbrev at : ℕ → ℕ → StateData
at k last = record { values = []; places = k ∷ []; last = last }

zip_none : (R : Var → ℕ → Type 0) (ys : List ℕ) → AllZip R [] ys → ys ≡ []
zip_none R [] all = refl
zip_none R (y ∷ ys) all = absurd all

zip_one : (R : ℕ → ℕ → Type 0) (ys : List ℕ) → AllZip R (0 ∷ []) ys → ys ≡ slice_index ys 0 ∷ []
zip_one R [] all = absurd all
zip_one R (y ∷ []) all = refl
zip_one R (y ∷ z ∷ zs) all = absurd all.1

-- a valid state is one of these
is_at : (s : StateData) (k : ℕ) → IsState tiny s → slice_index s.places 0 ≡ k → s ≡ at k s.last
is_at s k valid here =
    let values : s.values ≡ [] = zip_none (λ v n. n < type_size tiny.spec v.ty) s.values valid.values in
    let places : s.places ≡ k ∷ [] =
    zip_one (λ p j. j ≤ end_number tiny p) s.places valid.places ∙ ap (λ x. x ∷ []) here in
    λ i. record { values = values i; places = places i; last = s.last }

from_start : (last : ℕ) (bits arguments : List ℕ) →
    told_outcome tiny_terms tiny (input_values (at 0 last) bits arguments)
    (record { legal = term_at 1; error = term_at 0; next = term_at 2 ∷ term_at 3 ∷ [] })
    ≡ outcome_at tiny (at 0 last) (move_from tiny 0 0) (bits_in bits)
unfolding value_of value_within
from_start last bits arguments = refl

from_pause : (last : ℕ) (bits arguments : List ℕ) →
    told_outcome tiny_terms tiny (input_values (at 1 last) bits arguments)
    (record { legal = term_at 1; error = term_at 0; next = term_at 3 ∷ term_at 3 ∷ [] })
    ≡ outcome_at tiny (at 1 last) (move_from tiny 0 1) (bits_in bits)
unfolding value_of value_within
from_pause last bits arguments = refl

from_end : (last : ℕ) (bits arguments : List ℕ) →
    told_outcome tiny_terms tiny (input_values (at 2 last) bits arguments)
    (record { legal = term_at 0; error = term_at 0; next = term_at 2 ∷ term_at 3 ∷ [] })
    ≡ outcome_at tiny (at 2 last) (move_from tiny 0 2) (bits_in bits)
unfolding value_of value_within
from_end last bits arguments = refl

step_at : (k : ℕ) (step : StepTerms) → AreTerms tiny_terms tiny step →
    ((last : ℕ) (bits arguments : List ℕ) →
    told_outcome tiny_terms tiny (input_values (at k last) bits arguments) step
    ≡ outcome_at tiny (at k last) (move_from tiny 0 k) (bits_in bits)) →
    IsProcessStep tiny_terms tiny 0 k step
step_at k step terms told = record {
  terms = terms;
  tells = λ s arguments valid here are.
      tells_so tiny_terms tiny step s (move_from tiny 0 k) arguments has_room
      (λ bits these.
      subst
      (λ (x : StateData). told_outcome tiny_terms tiny (input_values x bits arguments) step
      ≡ outcome_at tiny x (move_from tiny 0 k) (bits_in bits))
      (sym (is_at s k valid here)) (told s.last bits arguments));
  leaves = record {
    variables = λ v id below kept is. absurd (omega arith);
    places = λ p id below other is. let same : 0 ≡ p = omega arith in absurd (other (ap Some same));
  };
}

steps_are : AllZip (IsProcessStep tiny_terms tiny 0) (location_numbers tiny 0) tiny_steps
steps_are =
    let two : IsTerm tiny_terms 2 (term_at 2) = (omega arith, refl) in
    let three : IsTerm tiny_terms 2 (term_at 3) = (omega arith, refl) in
    let off : IsTerm tiny_terms 1 (term_at 0) = (omega arith, refl) in
    let on : IsTerm tiny_terms 1 (term_at 1) = (omega arith, refl) in (
      step_at 0 (record { legal = term_at 1; error = term_at 0; next = term_at 2 ∷ term_at 3 ∷ [] })
          (record { legal = on; error = off; next = (two, (three, tt)) }) from_start,
      (
        step_at 1 (record { legal = term_at 1; error = term_at 0; next = term_at 3 ∷ term_at 3 ∷ [] })
            (record { legal = on; error = off; next = (three, (three, tt)) }) from_pause,
        (
          step_at 2 (record { legal = term_at 0; error = term_at 0; next = term_at 2 ∷ term_at 3 ∷ [] })
              (record { legal = off; error = off; next = (two, (three, tt)) }) from_end,
          tt,
        ),
      ),
    )

-- ---- goals and fairness conditions
on_is_one : (s : StateData) (bits arguments : List ℕ) →
    value_of tiny_terms (input_values s bits arguments) (term_at 1) ≡ 1
unfolding value_of value_within
on_is_one s bits arguments = refl

no_magic : (k : ℕ) → is_magic_at tiny 0 k ≡ false
no_magic zero = refl
no_magic (suc zero) = refl
no_magic (suc (suc k)) = refl

no_turn : (s : StateData) → is_driver_turn tiny s ≡ false
no_turn s = ap (λ b. b || false) (no_magic (slice_index s.places 0))

on : IsTerm tiny_terms 1 (term_at 1)
on = (omega arith, refl)

goal_is : IsGoalTerm tiny_terms tiny 0 (term_at 1)
goal_is = record { term = on; holds = λ s bits arguments valid these are. on_is_one s bits arguments }

fair_is : IsFairTerm tiny_terms tiny 0 (term_at 1)
fair_is = record {
  term = on;
  holds = λ s arguments valid are.
      (λ fair bits these. on_is_one s bits arguments, λ all. (of_driver, refl, inr (no_turn s)));
}

-- ---- initial and valid states
both_bits : (x y : Bool) → bit_and (bit x) (bit y) ≡ 1 → (x ≡ true) × (y ≡ true)
both_bits true true is = (refl, refl)
both_bits true false is = absurd (omega arith)
both_bits false true is = absurd (omega arith)
both_bits false false is = absurd (omega arith)

bits_both : (x y : Bool) → x ≡ true → y ≡ true → bit_and (bit x) (bit y) ≡ 1
bits_both x y p q = (λ i. bit_and (bit (p i)) (bit (q i)))

initial_value : (a b : ℕ) (rest : List ℕ) →
    value_of tiny_terms (a ∷ b ∷ rest) (term_at 9) ≡ bit_and (bit (a == 0)) (bit (b == 0))
unfolding value_of value_within
initial_value a b rest = refl

valid_value : (a b : ℕ) (rest : List ℕ) →
    value_of tiny_terms (a ∷ b ∷ rest) (term_at 13) ≡ bit_and (bit (nat_lt a 3)) (bit (nat_lt b 3))
unfolding value_of value_within
valid_value a b rest = refl

initial_is : (values : List ℕ) → AreInputs tiny_terms values →
    (value_of tiny_terms values (term_at 9) ≡ 1) ↔ IsInitial tiny (state_from tiny values)
initial_is [] are = let count : 0 ≡ length tiny_terms.inputs = are.count in absurd (omega arith)
initial_is (a ∷ []) are = let count : 1 ≡ length tiny_terms.inputs = are.count in absurd (omega arith)
initial_is (a ∷ b ∷ rest) are = (
  λ is.
      let both : ((a == 0) ≡ true) × ((b == 0) ≡ true) =
      both_bits (a == 0) (b == 0) (sym (initial_value a b rest) ∙ is) in
      record {
        values = tt;
        places = ap (λ x. x ∷ []) (eqb-true a 0 both.0);
        last = eqb-true b 0 both.1;
      },
  λ is.
      let place : a ≡ 0 = cc (is.places) in
      initial_value a b rest ∙ bits_both (a == 0) (b == 0) (eq-eqb a 0 place) (eq-eqb b 0 is.last),
)

valid_is : (values : List ℕ) → AreInputs tiny_terms values →
    (value_of tiny_terms values (term_at 13) ≡ 1) ↔ IsState tiny (state_from tiny values)
valid_is [] are = let count : 0 ≡ length tiny_terms.inputs = are.count in absurd (omega arith)
valid_is (a ∷ []) are = let count : 1 ≡ length tiny_terms.inputs = are.count in absurd (omega arith)
valid_is (a ∷ b ∷ rest) are = (
  λ is.
      let both : (nat_lt a 3 ≡ true) × (nat_lt b 3 ≡ true) =
      both_bits (nat_lt a 3) (nat_lt b 3) (sym (valid_value a b rest) ∙ is) in
      let place : a < 3 = ltb-true a 3 both.0 in
      let last : b < 3 = ltb-true b 3 both.1 in
      record { values = tt; places = (omega arith, tt); last = omega arith },
  λ is.
      let place : a ≤ 2 = is.places.0 in
      let last : b < 3 = is.last in
      valid_value a b rest
      ∙ bits_both (nat_lt a 3) (nat_lt b 3) (lt-ltb a 3 (omega arith)) (lt-ltb b 3 (omega arith)),
)

pub is_flat : IsFlat tiny_terms tiny tiny_flat
unfolding room
is_flat = record {
  inputs = refl;
  widths = refl;
  magic = refl;
  processes = (steps_are, tt);
  tasks = tt;
  parameters = tt;
  narrow = All-nil (λ widths. All (λ w. w ≤ room) widths);
  goals = (goal_is, tt);
  fairs = (fair_is, tt);
  initial = record { term = (omega arith, refl); holds = initial_is };
  valid = record { term = (omega arith, refl); holds = valid_is };
}
