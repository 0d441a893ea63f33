-- The states that values of levels tell where a set is true.
use Rattle.std.proofs.Common.{◌≡◌, ◌⊎◌, inl, inr, ℕ, zero, suc, Bool, true, false, ◌&&◌, not, List, [], ◌∷◌, ◌++◌, cond, refl, sym, subst}
use Rattle.tm_game_bits.specs.Coding.{Coding}
use Rattle.tm_dd.specs.Table.{assignment}
use Rattle.tm_game_bits.specs.Functions.{Assignment, Function}
use Rattle.tm_sem.specs.State.{StateData}
use Rattle.tm_solve.specs.Sets.{IsAmong}
use Rattle.tm_solve_exact.specs.Exact.{first_values, for_values, states_of}

-- both parts of a conjunction hold
pub and_parts : (a b : Bool) → (a && b) ≡ true → (a ≡ true) × (b ≡ true)
and_parts true b e = (refl, e)
and_parts false b e = absurd (cc)

-- where both parts hold, so does their conjunction
pub and_both : (a b : Bool) → a ≡ true → b ≡ true → (a && b) ≡ true
and_both true b p q = q
and_both false b p q = absurd (cc)

-- two denials are none
pub not_not : (a : Bool) → not (not a) ≡ a
not_not true = refl
not_not false = refl

among_left : (s : StateData) (xs ys : List StateData) → IsAmong s xs → IsAmong s (xs ++ ys)
among_left s [] ys at = absurd at
among_left s (x ∷ xs) ys (inl is) = inl is
among_left s (x ∷ xs) ys (inr at) = inr (among_left s xs ys at)

among_right : (s : StateData) (xs ys : List StateData) → IsAmong s ys → IsAmong s (xs ++ ys)
among_right s [] ys at = at
among_right s (x ∷ xs) ys at = inr (among_right s xs ys at)

-- what is listed for the first values is listed
listed_for : (s : StateData) (count : ℕ) (at : List Bool → List StateData) (v : Assignment) →
    IsAmong s (at (first_values count v)) → IsAmong s (for_values count at)
listed_for s zero at v here = here
listed_for s (suc n) at v here =
    elim (v 0) as (λ b. IsAmong s (at (b ∷ first_values n (λ level. v (suc level)))) →
    IsAmong s (for_values n (λ bits. at (true ∷ bits)) ++ for_values n (λ bits. at (false ∷ bits)))) [
      | true ↦ λ h.
          among_left s (for_values n (λ bits. at (true ∷ bits))) (for_values n (λ bits. at (false ∷ bits)))
          (listed_for s n (λ bits. at (true ∷ bits)) (λ level. v (suc level)) h)
      | false ↦ λ h.
          among_right s (for_values n (λ bits. at (true ∷ bits))) (for_values n (λ bits. at (false ∷ bits)))
          (listed_for s n (λ bits. at (false ∷ bits)) (λ level. v (suc level)) h)
    ] here

-- what is listed at all is listed for some values
either_list : (s : StateData) (xs ys : List StateData) → IsAmong s (xs ++ ys) → IsAmong s xs ⊎ IsAmong s ys
either_list s [] ys at = inr at
either_list s (x ∷ xs) ys (inl is) = inl (inl is)
either_list s (x ∷ xs) ys (inr at) =
    elim (either_list s xs ys at) [ inl h ↦ inl (inr h) | inr h ↦ inr h ]

for_some : (s : StateData) (count : ℕ) (at : List Bool → List StateData) → IsAmong s (for_values count at) →
    (bits : List Bool) × IsAmong s (at bits)
for_some s zero at here = ([], here)
for_some s (suc n) at here =
    elim (either_list s (for_values n (λ bits. at (true ∷ bits))) (for_values n (λ bits. at (false ∷ bits))) here) [
      | inl h ↦ let found = for_some s n (λ bits. at (true ∷ bits)) h in (true ∷ found.0, found.1)
      | inr h ↦ let found = for_some s n (λ bits. at (false ∷ bits)) h in (false ∷ found.0, found.1)
    ]

module _ (c : Coding) (valid : Function) where
  abbrev at_bits : List Bool → List StateData
  at_bits bits = cond (valid (assignment bits)) (c.state_of (assignment bits) ∷ []) []

  -- the state that the first values tell is listed where they are in the set
  pub listed : (v : Assignment) → valid (assignment (first_values c.count v)) ≡ true →
      IsAmong (c.state_of (assignment (first_values c.count v))) (states_of c valid)
  listed v there =
      listed_for (c.state_of (assignment (first_values c.count v))) c.count at_bits v
      (subst (λ (b : Bool).
      IsAmong (c.state_of (assignment (first_values c.count v)))
      (cond b (c.state_of (assignment (first_values c.count v)) ∷ []) [])) (sym there) (inl refl))

  in_one : (s t : StateData) (b : Bool) → IsAmong s (cond b (t ∷ []) []) → (b ≡ true) × (s ≡ t)
  in_one s t true (inl is) = (refl, is)
  in_one s t true (inr at) = absurd at
  in_one s t false at = absurd at

  -- a listed state is told by some values in the set
  pub listed_only : (s : StateData) → IsAmong s (states_of c valid) →
      (v : Assignment) × (valid v ≡ true) × (s ≡ c.state_of v)
  listed_only s among =
      let found = for_some s c.count at_bits among in
      let is = in_one s (c.state_of (assignment found.0)) (valid (assignment found.0)) found.1 in
      (assignment found.0, is.0, is.1)
