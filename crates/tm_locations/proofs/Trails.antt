-- Numbers of trails of calls, as nodes are added.
use Rattle.std.proofs.Common.{◌≡◌, ℕ, suc, ◌+◌, Bool, true, false, cond, None, Some, List, [], ◌∷◌, ◌++◌, length, position, if◌then◌else◌, refl, ap, ◌∙◌, arith}
use Rattle.std.specs.Prelude.{not, nat_eq, ◌||◌, ◌&&◌}
use Rattle.std.proofs.lemmas.Bool.Decides.{nat_tests}
use Rattle.std.specs.List.{list_any, position_or_len}
use Rattle.std.specs.Option.{option_map, option_or}
use Rattle.indexmap.specs.IndexSet.{insert_key}
use Rattle.tm_base.specs.declared.place.Place.{Place}
use Rattle.tm_scope.proofs.Positions.{position-cons, position-push}
use Rattle.tm_locations.specs.Locations.{IsTrail, no_call, call_behind, same_node}
use Rattle.tm_locations.specs.declared.table.TrailNode.{TrailNode}

-- what is found in a list stays there as more is added
pub position-kept : {X : Type 0} (eq : X → X → Bool) (p : X → Bool) (xs : List X) (x : X) (k : ℕ) →
    position p xs ≡ Some k → position p (insert_key eq xs x) ≡ Some k
position-kept eq p xs x k is = by (list_any (eq x) xs)
  where
    by : (b : Bool) → position p (if b then xs else xs ++ x ∷ []) ≡ Some k
    by true = is
    by false = position-push p xs x ∙ ap (λ o. option_or o (cond (p x) (Some (length xs)) None)) is

module _ {X : Type 0} (eq : X → X → Bool) (x : X) (itself : eq x x ≡ true) where
  -- what is added is found at the first index at which it stands
  pub position-added : (xs : List X) → position (eq x) (insert_key eq xs x) ≡ Some (position_or_len (eq x) xs)
  position-added [] = position-cons (eq x) x [] ∙ ap (λ b. cond b (Some 0) (option_map suc None)) itself
  position-added (y ∷ ys) = by (eq x y) refl (position-added ys)
    where
      later : (b : Bool) → position (eq x) (if b then ys else ys ++ x ∷ []) ≡ Some (position_or_len (eq x) ys) →
          eq x y ≡ false → position (eq x) (if b then y ∷ ys else (y ∷ ys) ++ x ∷ [])
          ≡ Some (suc (position_or_len (eq x) ys))
      later true rest off =
          position-cons (eq x) y ys
          ∙ (λ i. cond (off i) (Some 0) (option_map suc (rest i)))
      later false rest off =
          position-cons (eq x) y (ys ++ x ∷ [])
          ∙ (λ i. cond (off i) (Some 0) (option_map suc (rest i)))

      by : (b : Bool) → eq x y ≡ b →
          position (eq x) (if list_any (eq x) ys then ys else ys ++ x ∷ []) ≡ Some (position_or_len (eq x) ys) →
          position (eq x) (if (b || list_any (eq x) ys) then y ∷ ys else (y ∷ ys) ++ x ∷ [])
          ≡ Some (cond (not b) (1 + position_or_len (eq x) ys) 0)
      by true is rest = position-cons (eq x) y ys ∙ ap (λ b. cond b (Some 0) (option_map suc (position (eq x) ys))) is
      by false is rest =
          later (list_any (eq x) ys) rest is
          ∙ (let one_on : suc (position_or_len (eq x) ys) ≡ 1 + position_or_len (eq x) ys = omega arith in
          ap (λ k. Some k) one_on)

-- a number that stands for a trail goes on to do so
pub trail-kept : (ts : List TrailNode) (n : TrailNode) {k : ℕ} {trail : List Place} → IsTrail ts k trail →
    IsTrail (insert_key same_node ts n) k trail
trail-kept ts n no_call = no_call
trail-kept ts n (call_behind {k = k} {n = m} at behind) =
    call_behind (position-kept same_node (same_node m) ts n k at) (trail-kept ts n behind)

pub same_node-itself : (n : TrailNode) → same_node n n ≡ true
same_node-itself n = by (itself n.at.line) (itself n.at.column) (itself n.then)
  where
    itself : (k : ℕ) → nat_eq k k ≡ true
    itself k = grind (arith, nat_tests)

    by : nat_eq n.at.line n.at.line ≡ true → nat_eq n.at.column n.at.column ≡ true → nat_eq n.then n.then ≡ true →
        same_node n n ≡ true
    by line column then_ = λ i. (line i && column i) && then_ i

-- a new call in front of a trail
pub trail-added : (ts : List TrailNode) (n : TrailNode) (trail : List Place) → IsTrail ts n.then trail →
    IsTrail (insert_key same_node ts n) (suc (position_or_len (same_node n) ts)) (n.at ∷ trail)
trail-added ts n trail behind =
    call_behind (position-added same_node n (same_node-itself n) ts) (trail-kept ts n behind)
