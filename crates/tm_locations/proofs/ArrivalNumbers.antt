-- What the first row of a place and a trail is found by, after one is noted.
use Rattle.std.proofs.Common.{◌≡◌, ℕ, Bool, true, false, cond, Option, None, Some, List, is_some, refl, sym, ap, ◌∙◌, true≢false}
use Rattle.std.specs.Prelude.{nat_eq, ◌&&◌}
use Rattle.std.proofs.lemmas.Bool.{eqb-true}
use Rattle.std.specs.Map.{lookup}
use Rattle.std.specs.Option.{option_or}
use Rattle.tm_syntax.specs.Design.Locations.{same_place}
use Rattle.tm_locations.specs.Inner.Numbers.{same_arrival}
use Rattle.tm_locations.specs.declared.numbers.Arrival.{Arrival}
use Rattle.tm_locations.proofs.TrailNumbers.{both, nat_eq-itself, same_place-is, same_place-itself}

same_arrival-is : (a b : Arrival) → same_arrival a b ≡ true → a ≡ b
same_arrival-is a b e =
    let parts = both (same_place a.at b.at) (nat_eq a.trail b.trail) e in
    λ i. record { at = same_place-is a.at b.at parts.0 i; trail = eqb-true a.trail b.trail parts.1 i }

same_arrival-itself : (a : Arrival) → same_arrival a a ≡ true
same_arrival-itself a = λ i. same_place-itself a.at i && nat_eq-itself a.trail i

-- each of two arrivals is the other one, or neither is
same_arrival-back : (a b : Arrival) → same_arrival a b ≡ same_arrival b a
same_arrival-back a b = by (same_arrival a b) refl (same_arrival b a) refl
  where
    by : (x : Bool) → same_arrival a b ≡ x → (y : Bool) → same_arrival b a ≡ y → x ≡ y
    by true is true si = refl
    by false is false si = refl
    by true is false si =
        absurd (true≢false (sym (same_arrival-itself a)
        ∙ ap (λ c. same_arrival c a) (same_arrival-is a b is) ∙ si))
    by false is true si =
        absurd (true≢false (sym (same_arrival-itself b)
        ∙ ap (λ c. same_arrival c b) (same_arrival-is b a si) ∙ is))

module _ (es : List (Arrival × ℕ)) (key : Arrival) (index : ℕ) where
  -- one that has no index gets one
  pub first-noted : (fs : List (Arrival × ℕ)) → false ≡ is_some (lookup (same_arrival key) es) →
      ((q : Arrival) →
      lookup (same_arrival q) fs ≡ cond (same_arrival key q) (Some index) (lookup (same_arrival q) es)) →
      (a : Arrival) → lookup (same_arrival a) fs
      ≡ option_or (lookup (same_arrival a) es) (cond (same_arrival a key) (Some index) None)
  first-noted fs absent updates a =
      updates a ∙ ap (λ b. cond b (Some index) (lookup (same_arrival a) es)) (same_arrival-back key a)
      ∙ by (same_arrival a key) refl (lookup (same_arrival a) es) refl
    where
      by : (b : Bool) → same_arrival a key ≡ b → (found : Option ℕ) → lookup (same_arrival a) es ≡ found →
          cond b (Some index) found ≡ option_or found (cond b (Some index) None)
      by true is None e = refl
      by true is (Some k) e =
          absurd (true≢false (sym (absent ∙ ap (λ b. is_some (lookup (same_arrival b) es))
          (sym (same_arrival-is a key is)) ∙ ap is_some e)))
      by false is None e = refl
      by false is (Some k) e = refl

  -- one that has an index keeps it
  pub first-kept : true ≡ is_some (lookup (same_arrival key) es) → (a : Arrival) →
      lookup (same_arrival a) es
      ≡ option_or (lookup (same_arrival a) es) (cond (same_arrival a key) (Some index) None)
  first-kept there a = by (same_arrival a key) refl (lookup (same_arrival a) es) refl
    where
      by : (b : Bool) → same_arrival a key ≡ b → (found : Option ℕ) → lookup (same_arrival a) es ≡ found →
          found ≡ option_or found (cond b (Some index) None)
      by b is (Some k) e = refl
      by false is None e = refl
      by true is None e =
          absurd (true≢false (there ∙ ap (λ b. is_some (lookup (same_arrival b) es)) (sym (same_arrival-is a key is))
          ∙ ap is_some e))
