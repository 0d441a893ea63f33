-- A trail of calls has one number, and a number stands for one trail.
use Rattle.std.proofs.Common.{◌≡◌, ℕ, suc, Bool, true, false, cond, Option, None, Some, List, [], ◌∷◌, position, slice_get, refl, sym, ap, ◌∙◌, subst, arith, true≢false}
use Rattle.std.specs.Prelude.{nat_eq, unwrap_or, ◌&&◌}
use Rattle.std.proofs.lemmas.Bool.{eqb-true}
use Rattle.std.proofs.lemmas.Bool.Decides.{nat_tests}
use Rattle.std.proofs.lemmas.Option.{none-some, same_Some}
use Rattle.std.specs.Cmp.Lexicographic.{pointwise}
use Rattle.std.specs.Option.{option_map}
use Rattle.tm_base.specs.declared.place.Place.{Place}
use Rattle.tm_syntax.specs.Design.Locations.{same_place}
use Rattle.tm_scope.proofs.Positions.{position-cons}
use Rattle.tm_locations.specs.Locations.{IsTrail, no_call, call_behind, same_node}
use Rattle.tm_locations.specs.declared.table.TrailNode.{TrailNode}

pub both : (a b : Bool) → (a && b) ≡ true → (a ≡ true) × (b ≡ true)
both true b e = (refl, e)
both false b e = absurd (true≢false (sym e))

pub same_place-is : (a b : Place) → same_place a b ≡ true → a ≡ b
same_place-is a b e =
    let parts = both (nat_eq a.line b.line) (nat_eq a.column b.column) e in
    λ i. record { line = eqb-true a.line b.line parts.0 i; column = eqb-true a.column b.column parts.1 i }

pub nat_eq-itself : (k : ℕ) → nat_eq k k ≡ true
nat_eq-itself k = grind (arith, nat_tests)

pub same_place-itself : (a : Place) → same_place a a ≡ true
same_place-itself a = λ i. nat_eq-itself a.line i && nat_eq-itself a.column i

same_node-is : (a b : TrailNode) → same_node a b ≡ true → a ≡ b
same_node-is a b e =
    let parts = both (same_place a.at b.at) (nat_eq a.then b.then) e in
    λ i. record { at = same_place-is a.at b.at parts.0 i; then = eqb-true a.then b.then parts.1 i }

pub same_trail-itself : (xs : List Place) → pointwise same_place xs xs ≡ true
same_trail-itself [] = refl
same_trail-itself (x ∷ xs) = λ i. same_place-itself x i && same_trail-itself xs i

-- what is found passes
position-passes : {X : Type 0} (p : X → Bool) (xs : List X) (k : ℕ) → position p xs ≡ Some k →
    (x : X) × (slice_get xs k ≡ Some x) × (p x ≡ true)
position-passes p [] k e = absurd (none-some k e)
position-passes {X} p (y ∷ ys) k e =
    by (p y) refl (sym (position-cons p y ys) ∙ e) (position-passes p ys)
  where
    further : (o : Option ℕ) → option_map suc o ≡ Some k → (j : ℕ) × (o ≡ Some j) × (suc j ≡ k)
    further None e = absurd (none-some k e)
    further (Some j) e = (j, refl, same_Some (suc j) k e)

    by : (b : Bool) → p y ≡ b → cond b (Some 0) (option_map suc (position p ys)) ≡ Some k →
        ((j : ℕ) → position p ys ≡ Some j → (x : X) × (slice_get ys j ≡ Some x) × (p x ≡ true)) →
        (x : X) × (slice_get (y ∷ ys) k ≡ Some x) × (p x ≡ true)
    by true is e deeper =
        let first : 0 ≡ k = same_Some 0 k e in
        (y, ap (slice_get (y ∷ ys)) (sym first), is)
    by false is e deeper =
        let at = further (position p ys) e in
        let found = deeper at.0 at.1 in
        (found.0, ap (slice_get (y ∷ ys)) (sym at.2) ∙ found.1, found.2)

-- all but the first
abbrev tail_of : {X : Type 0} → List X → List X
tail_of [] = []
tail_of (x ∷ xs) = xs

module _ (ts : List TrailNode) where
  -- nodes that are found at one index are one
  same_index-same : (n m : TrailNode) (k : ℕ) → position (same_node n) ts ≡ Some k →
      position (same_node m) ts ≡ Some k → n ≡ m
  same_index-same n m k at there =
      let a = position-passes (same_node n) ts k at in
      let b = position-passes (same_node m) ts k there in
      same_node-is n a.0 a.2
      ∙ same_Some a.0 b.0 (sym a.1 ∙ b.1)
      ∙ sym (same_node-is m b.0 b.2)

  pub same-trail : {j k : ℕ} {xs ys : List Place} → IsTrail ts j xs → IsTrail ts k ys → j ≡ k → xs ≡ ys
  same-trail no_call no_call e = refl
  same-trail no_call (call_behind at behind) e = absurd (omega (arith, e))
  same-trail (call_behind at behind) no_call e = absurd (omega (arith, e))
  same-trail (call_behind {k = j} {n = n} at behind) (call_behind {k = k} {n = m} there beyond) e =
      let index : j ≡ k = omega (arith, e) in
      let same : n ≡ m = same_index-same n m j at (there ∙ ap (λ k. Some k) (sym index)) in
      let rest = same-trail behind beyond (ap (λ (n : TrailNode). n.then) same) in
      λ i. (same i).at ∷ rest i

  pub same-number : {j k : ℕ} {xs ys : List Place} → IsTrail ts j xs → IsTrail ts k ys →
      pointwise same_place xs ys ≡ true → j ≡ k
  same-number no_call no_call e = refl
  same-number no_call (call_behind at behind) e = absurd (true≢false (sym e))
  same-number (call_behind at behind) no_call e = absurd (true≢false (sym e))
  same-number (call_behind {k = j} {n = n} {trail = xs} at behind)
      (call_behind {k = k} {n = m} {trail = ys} there beyond) e =
      let parts = both (same_place n.at m.at) (pointwise same_place xs ys) e in
      let place : n.at ≡ m.at = same_place-is n.at m.at parts.0 in
      let number : n.then ≡ m.then = same-number behind beyond parts.1 in
      let same : n ≡ m = λ i. record { at = place i; then = number i } in
      ap suc (same_Some j k (sym at ∙ ap (λ n. position (same_node n) ts) same ∙ there))

  -- trails are one exactly where their numbers are
  pub trails-by_number : {j k : ℕ} {xs ys : List Place} → IsTrail ts j xs → IsTrail ts k ys →
      pointwise same_place xs ys ≡ nat_eq j k
  trails-by_number {j} {k} {xs} {ys} at there = by (nat_eq j k) refl (pointwise same_place xs ys) refl
    where
      by : (b : Bool) → nat_eq j k ≡ b → (c : Bool) → pointwise same_place xs ys ≡ c → c ≡ b
      by true number true is = refl
      by false number false is = refl
      by true number false is =
          absurd (true≢false (sym (same_trail-itself xs)
          ∙ ap (λ ys. pointwise same_place xs ys) (same-trail at there (eqb-true j k number)) ∙ is))
      by false number true is =
          absurd (true≢false (sym (nat_eq-itself j) ∙ ap (λ k. nat_eq j k) (same-number at there is) ∙ number))

  -- where no node is of a call in front of a trail, no number stands for both
  pub no-trail : (at : Place) (trail : ℕ) → position (same_node (record { at = at; then = trail })) ts ≡ None →
      (before : List Place) → IsTrail ts trail before → {n : ℕ} {xs : List Place} → IsTrail ts n xs →
      xs ≡ at ∷ before → ⊥
  no-trail at trail none before is no_call e = absurd cc
  no-trail at trail none before is (call_behind {k = k} {n = m} {trail = ys} there behind) e =
      let place : m.at ≡ at = ap (λ (l : List Place). unwrap_or (slice_get l 0) at) e in
      let rest : ys ≡ before = ap (λ (l : List Place). tail_of l) e in
      let number : m.then ≡ trail =
      same-number behind is (ap (λ l. pointwise same_place ys l) (sym rest) ∙ same_trail-itself ys) in
      let same : m ≡ record { at = at; then = trail } = λ i. record { at = place i; then = number i } in
      none-some k (sym none ∙ ap (λ n. position (same_node n) ts) (sym same) ∙ there)

  -- the number of a node is that of its trail
  pub trail-read : (n : TrailNode) (k : ℕ) → position (same_node n) ts ≡ Some k → (number : ℕ) → number ≡ suc k →
      (before : List Place) → IsTrail ts n.then before → IsTrail ts number (n.at ∷ before)
  trail-read n k at number is before behind =
      subst (λ number. IsTrail ts number (n.at ∷ before)) (sym is) (call_behind at behind)
