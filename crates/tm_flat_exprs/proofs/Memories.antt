-- What is read of a memory of terms.
use Rattle.std.proofs.Common.{◌≡◌, ℕ, zero, suc, Option, None, Some, List, [], ◌∷◌, All, map, refl, sym, ap, ◌∙◌, subst}
use Rattle.std.specs.Prelude.{IfSome, slice_get, slice_index}
use Rattle.std.specs.Option.{option_map, option_map_or}
use Rattle.std.proofs.lemmas.List.Elements.{All-weaker}
use Rattle.tm_syntax.specs.declared.design.Ty.{Ty}
use Rattle.tm_syntax.specs.declared.design.Var.{Var}
use Rattle.tm_syntax.specs.Tree.View.{spec_tree}
use Rattle.tm_syntax.specs.Scopes.Context.{Slot}
use Rattle.tm_syntax.specs.Design.Cells.{Cell, in_state}
use Rattle.tm_syntax.specs.Design.Sizes.{type_bits}
use Rattle.tm_scope.specs.Cells.{CellTables, cell_at, slot_in}
use Rattle.tm_scope.specs.declared.cells.site_body.SiteBody.{SiteBody}
use Rattle.tm_scope.specs.declared.cells.site_body.CellNumber.{CellNumber}
use Rattle.tm_scope.specs.declared.cells.site_body.CellNumber.TheVariants.{State, Step}
use Rattle.tm_scope.specs.declared.members.SlotNumber.{SlotNumber}
use Rattle.tm_term.specs.declared.term.TermId.{TermId}
use Rattle.tm_term.specs.Table.{Table}
use Rattle.tm_term.specs.Value.{value_of}
use Rattle.tm_sem.specs.Value.{Memory, read}
use Rattle.tm_flat.specs.Steps.{IsTerm}
use Rattle.tm_design.specs.declared.step_cells.StepCell.{StepCell}
use Rattle.tm_flat_exprs.specs.declared.memory.versions.Version.{Version}
use Rattle.tm_flat_exprs.specs.declared.memory.versions.Version.TheVariants.{Put, Choice}
use Rattle.tm_flat_exprs.specs.Kept.{KeptTerms, Keeps, AreKept, IsCellKept, IsKeptVersion}
use Rattle.tm_flat_exprs.specs.Made.{Makes, value_at}
use Rattle.tm_flat_exprs.specs.Merged.{Reads}
use Rattle.tm_flat_exprs.specs.Versions.{HasWidth, step_value}
use Rattle.tm_design.proofs.StepCells.{cell_same}

mapped_index : (f : TermId → ℕ) (ids : List TermId) (i : ℕ) →
    slice_index (map f ids) i ≡ option_map_or f (slice_get ids i) 0
mapped_index f [] i = refl
mapped_index f (id ∷ ids) zero = refl
mapped_index f (id ∷ ids) (suc i) = mapped_index f ids i

-- the term that is kept of a state variable has its value
pub read_state : (x : CellTables) (u : Table) (v : List ℕ) (k : KeptTerms) (m : Memory) (at : SiteBody) (number : ℕ)
    (c : Cell) → Keeps x u v k m → cell_at x at (State number) ≡ Some c →
    read m c ≡ value_at u v (slice_get k.values number)
read_state x u v k m at number c keeps there =
    let same : in_state number ≡ c = cc in
    ap (read m) (sym same)
    ∙ ap (λ ns. slice_index ns number) keeps.values
    ∙ mapped_index (value_of u v) k.values number

known_value : (t : Table) (width : ℕ) (x : CellTables) (k : KeptTerms) (number : ℕ) (ty : Ty) (var : Option Var)
    (id : Option TermId) → AreKept x t k → slice_get x.vars number ≡ var → slice_get k.values number ≡ id →
    option_map (λ (v : Var). v.ty) var ≡ Some ty → type_bits (spec_tree x.spec) ty ≡ width → IfSome id (IsTerm t width)
known_value t width x k number ty None id kept declared found is bits = absurd (cc)
known_value t width x k number ty (Some v) None kept declared found is bits = tt
known_value t width x k number ty (Some v) (Some id) kept declared found is bits =
    let same : v.ty ≡ ty = cc in
    subst (λ w. IsTerm t w id) (ap (type_bits (spec_tree x.spec)) same ∙ bits)
    (kept.values number id v found declared)

-- and the bits of its type
pub known_state : (t : Table) (k : KeptTerms) (at : SiteBody) (number width : ℕ) →
    IsCellKept t k at (State number) width → IfSome (slice_get k.values number) (IsTerm t width)
known_state t k at number width kept =
    known_value t width kept.tables k number kept.ty (slice_get kept.tables.vars number) (slice_get k.values number)
    kept.kept refl refl kept.typed kept.bits

-- the slot of a type
slot_of : (x : CellTables) (cell : StepCell) (ty : Ty) (o : Option Slot) → slot_in x cell.at cell.slot ≡ o →
    option_map (λ (s : Slot). s.ty) o ≡ Some ty → (s : Slot) × (slot_in x cell.at cell.slot ≡ Some s) × (s.ty ≡ ty)
slot_of x cell ty None is typed = absurd (cc)
slot_of x cell ty (Some s) is typed = let same : s.ty ≡ ty = cc in (s, is, same)

-- the versions of the terms of a parameter or local have the bits of its type
pub known_step : (t : Table) (k : KeptTerms) (cell : StepCell) (width : ℕ) →
    IsCellKept t k cell.at (Step cell.slot) width → All (HasWidth t cell width) k.step
known_step t k cell width kept =
    All-weaker (IsKeptVersion x t) (HasWidth t cell width) of_version k.step kept.kept.step
  where
    x : CellTables
    x = kept.tables

    slot : (s : Slot) × (slot_in x cell.at cell.slot ≡ Some s) × (s.ty ≡ kept.ty)
    slot = slot_of x cell kept.ty (slot_in x cell.at cell.slot) refl kept.typed

    of_version : (w : Version) → IsKeptVersion x t w → HasWidth t cell width w
    of_version (Put found id) known = λ same.
        let one : found ≡ cell = cell_same found cell same in
        let there : slot_in x found.at found.slot ≡ Some slot.0 =
        ap (λ (c : StepCell). slot_in x c.at c.slot) one ∙ slot.1 in
        subst (λ w. IsTerm t w id) (ap (type_bits (spec_tree x.spec)) slot.2 ∙ kept.bits) (known slot.0 there)
    of_version (Choice guard a b) truth = truth

-- what is read of them
pub reads_state : (t n : Table) (k : KeptTerms) (at : SiteBody) (cell : CellNumber) (number width : ℕ) (id : TermId) →
    cell ≡ State number → Makes t n width id (λ u v. value_at u v (slice_get k.values number)) →
    Reads t n k at cell width id
reads_state t n k at cell number width id is made = record {
  grown = made.grown;
  sound = made.sound;
  term = made.term;
  value = λ x u v m c more are keeps there.
      read_state x u v k m at number c keeps (subst (λ w. cell_at x at w ≡ Some c) is there)
      ∙ sym (made.value u more v are);
}

pub reads_step : (t n : Table) (k : KeptTerms) (at : SiteBody) (cell : CellNumber) (slot : SlotNumber) (width : ℕ)
    (id : TermId) → cell ≡ Step slot →
    Makes t n width id (λ u v. step_value u v k.step (record { at = at; slot = slot })) → Reads t n k at cell width id
reads_step t n k at cell slot width id is made = record {
  grown = made.grown;
  sound = made.sound;
  term = made.term;
  value = λ x u v m c more are keeps there.
      keeps.step (record { at = at; slot = slot }) c (subst (λ w. cell_at x at w ≡ Some c) is there)
      ∙ sym (made.value u more v are);
}
