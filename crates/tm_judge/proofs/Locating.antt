-- The tables of locations of a design, process by process.
use Rattle.std.proofs.Common.{◌≡◌, ℕ, suc, ◌+◌, ◌<◌, ◌^◌, Some, List, [], ◌∷◌, length, refl, sym, subst, arith}
use Rattle.std.specs.Prelude.{slice_get}
use Rattle.std.specs.List.{AllZip, range_with_len}
use Rattle.tm_syntax.specs.declared.design.Design.{Design}
use Rattle.tm_syntax.specs.Design.{DesignTree}
use Rattle.tm_syntax.specs.Design.View.{design_tree}
use Rattle.tm_syntax.specs.Faults.{IsSound}
use Rattle.tm_syntax.proofs.Limits as limits
use Rattle.tm_locations.specs.Locations.{AreLocations, table_of}
use Rattle.tm_locations.specs.declared.table.Locations.{Locations}
use Rattle.tm_plain.specs.Machine.{AreLocated}
use Rattle.tm_states.specs.States.{HaveLocations}

-- tables that are each those of their process are so one by one
one_by_one : (d : DesignTree) (first : ℕ) (ts : List Locations) →
    ((p : ℕ) (t : Locations) → slice_get ts p ≡ Some t → AreLocations (table_of t) d (first + p)) →
    AllZip (λ p t. AreLocations (table_of t) d p) (range_with_len first (length ts)) ts
one_by_one d first [] each = tt
one_by_one d first (t ∷ ts) each = (
  subst (λ k. AreLocations (table_of t) d k) (let k : first + 0 ≡ first = omega arith in k) (each 0 t refl),
  one_by_one d (first + 1) ts (λ p u there.
      subst (λ k. AreLocations (table_of u) d k) (let k : first + suc p ≡ first + 1 + p = omega arith in k)
      (each (suc p) u there)),
)

-- the tables of a design are those of its processes
pub located : (d : Design) (ts all : List Locations) → all ≡ ts → AreLocated d (length d.processes.items) ts →
    HaveLocations (design_tree d) all
located d ts all same are =
    subst (HaveLocations (design_tree d)) (sym same)
    (subst (λ n. AllZip (λ p t. AreLocations (table_of t) (design_tree d) p) (range_with_len 0 n) ts) are.are
    (one_by_one (design_tree d) 0 ts (λ p t there.
    subst (λ k. AreLocations (table_of t) (design_tree d) k) (let k : p ≡ 0 + p = omega arith in k)
    (are.each p t there))))

pub few_goals_of : (d : Design) → IsSound (design_tree d) → length d.goals.items < 2 ^ 32
few_goals_of d sound = let few = limits.few_goals (design_tree d) sound in omega (arith, few)
