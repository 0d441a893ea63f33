-- The tables of the processes of a design, along the processes.
use Rattle.std.proofs.Common.{◌≡◌, ℕ, zero, suc, ◌+◌, Some, List, [], ◌∷◌, length, refl, subst, arith}
use Rattle.std.specs.Prelude.{slice_get}
use Rattle.std.specs.List.{AllZip, range_with_len}
use Rattle.tm_syntax.specs.declared.design.Design.{Design}
use Rattle.tm_syntax.specs.Design.{DesignTree}
use Rattle.tm_syntax.specs.Design.View.{design_tree}
use Rattle.tm_locations.specs.Locations.{AreLocations, table_of}
use Rattle.tm_locations.specs.declared.table.Locations.{Locations}
use Rattle.tm_states.specs.States.{HaveLocations}
use Rattle.tm_plain.specs.Machine.{AreLocated}

-- tables of the processes from one on go along these
along : (d : DesignTree) (from : ℕ) (all : List Locations) →
    ((p : ℕ) (t : Locations) → slice_get all p ≡ Some t → AreLocations (table_of t) d (from + p)) →
    AllZip (λ p t. AreLocations (table_of t) d p) (range_with_len from (length all)) all
along d from [] each = tt
along d from (t ∷ ts) each = (
  (let same : from + 0 ≡ from = omega arith in
      subst (λ p. AreLocations (table_of t) d p) same (each 0 t refl)),
  along d (from + 1) ts (λ p u there.
      let same : from + suc p ≡ from + 1 + p = omega arith in
      subst (λ q. AreLocations (table_of u) d q) same (each (suc p) u there)),
)

-- there is a table for each process
pub have_locations : (d : Design) (all : List Locations) → AreLocated d (length d.processes.items) all →
    HaveLocations (design_tree d) all
have_locations d all located =
    subst (λ n. AllZip (λ p t. AreLocations (table_of t) (design_tree d) p) (range_with_len 0 n) all) located.are
    (along (design_tree d) 0 all (λ p t there.
    let same : p ≡ 0 + p = omega arith in
    subst (λ q. AreLocations (table_of t) (design_tree d) q) same (located.each p t there)))
