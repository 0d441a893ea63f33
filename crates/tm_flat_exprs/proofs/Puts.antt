-- Memories of terms, before and after a term was put into a cell.
use Rattle.std.proofs.Common.{◌≡◌, ◌⊎◌, inl, inr, ℕ, zero, suc, Option, None, Some, List, [], ◌∷◌, ◌++◌, All, length, map, cond, refl, sym, ap, ◌∙◌, subst, length-set}
use Rattle.std.specs.Prelude.{slice_get, slice_set}
use Rattle.std.specs.Option.{option_map}
use Rattle.std.proofs.lemmas.List.{map-set}
use Rattle.std.proofs.lemmas.List.Elements.{All-push}
use Rattle.std.proofs.lemmas.Option.{none-some, same_Some}
use Rattle.tm_syntax.specs.declared.design.Ty.{Ty}
use Rattle.tm_syntax.specs.declared.design.Var.{Var}
use Rattle.tm_syntax.specs.Tree.View.{spec_tree}
use Rattle.tm_syntax.specs.Scopes.Context.{Slot}
use Rattle.tm_syntax.specs.Design.Cells.{Cell, in_state, in_step}
use Rattle.tm_syntax.specs.Design.Sizes.{type_bits}
use Rattle.tm_scope.specs.Cells.{CellTables, scope_of, slot_in, cell_at}
use Rattle.tm_scope.specs.declared.cells.site_body.SiteBody.{SiteBody}
use Rattle.tm_scope.specs.declared.cells.site_body.CellNumber.TheVariants.{State, Step}
use Rattle.tm_term.specs.declared.term.TermId.{TermId}
use Rattle.tm_term.specs.Table.{Table}
use Rattle.tm_term.specs.Value.{value_of}
use Rattle.tm_sem.specs.Value.{Memory, read, put}
use Rattle.tm_flat.specs.Steps.{IsTerm}
use Rattle.tm_design.specs.StepCells.{AreApart, same_cell}
use Rattle.tm_design.specs.declared.step_cells.StepCell.{StepCell}
use Rattle.tm_flat_exprs.specs.declared.memory.versions.Version.TheVariants.{Put}
use Rattle.tm_flat_exprs.specs.Kept.{HasSlot, IsKeptVersion, KeptTerms, Keeps, type_at}
use Rattle.tm_flat_exprs.specs.Merged.{IsMemory}
use Rattle.tm_flat_exprs.specs.Versions.{step_value}
use Rattle.tm_design.proofs.StepCells.{cell_of, read_put, tests_agree}
use Rattle.tm_flat_exprs.proofs.Versions.{value_after}

module _ (x : CellTables) (u : Table) (v : List ℕ) (k : KeptTerms) (m : Memory) (keeps : Keeps x u v k m) where
  -- after a term was put into a parameter or local
  pub step_put : AreApart x → (cell : StepCell) (c : Cell) (id : TermId) (n : KeptTerms) → n.values ≡ k.values →
      cell_at x cell.at (Step cell.slot) ≡ Some c →
      n.step ≡ k.step ++ Put cell id ∷ [] → Keeps x u v n (put m c (value_of u v id))
  step_put apart cell c id n values is set =
      let own = cell_of x cell.at cell.slot c is in
      subst (λ y. Keeps x u v n (put m y (value_of u v id))) (sym own.2) (record {
        values = keeps.values ∙ ap (map (value_of u v)) (sym values);
        step = λ other d there.
            let others = cell_of x other.at other.slot d there in
            subst (λ y. read (put m (in_step (scope_of cell.at) own.0.name own.0.ty) (value_of u v id)) y
            ≡ step_value u v n.step other)
            (sym others.2)
            (read_put m (scope_of cell.at) (scope_of other.at) own.0.name others.0.name (value_of u v id)
            (same_cell cell other) own.0.ty others.0.ty (tests_agree x apart cell other own.0 others.0 own.1 others.1)
            ∙ ap (cond (same_cell cell other) (value_of u v id))
            (subst (λ y. read m y ≡ step_value u v k.step other) others.2 (keeps.step other d there))
            ∙ sym (value_after u v other k.step (Put cell id))
            ∙ ap (λ ws. step_value u v ws other) (sym set));
      })

  -- after a term was put into a state variable
  pub state_put : (number : ℕ) (c : Cell) (id : TermId) (n : KeptTerms) → in_state number ≡ c →
      n.values ≡ slice_set k.values number id → n.step ≡ k.step → Keeps x u v n (put m c (value_of u v id))
  state_put number c id n is values step = subst (λ y. Keeps x u v n (put m y (value_of u v id))) is (record {
    values = ap (λ vs. slice_set vs number (value_of u v id)) keeps.values
        ∙ sym (map-set (value_of u v) k.values number id)
        ∙ ap (map (value_of u v)) (sym values);
    step = λ other d there.
        let others = cell_of x other.at other.slot d there in
        subst (λ y. read (put m (in_state number) (value_of u v id)) y ≡ step_value u v n.step other)
        (sym others.2)
        (subst (λ y. read m y ≡ step_value u v n.step other) others.2
        (keeps.step other d there ∙ ap (λ ws. step_value u v ws other) (sym step)));
  })

-- what stands in a list after one item was set
set_or_old : {X : Type 0} (xs : List X) (n : ℕ) (y : X) (i : ℕ) (z : X) → slice_get (slice_set xs n y) i ≡ Some z →
    ((i ≡ n) × (y ≡ z)) ⊎ (slice_get xs i ≡ Some z)
set_or_old [] n y i z at = absurd (none-some z at)
set_or_old (x ∷ xs) zero y zero z at = inl (refl, same_Some y z at)
set_or_old (x ∷ xs) zero y (suc i) z at = inr at
set_or_old (x ∷ xs) (suc n) y zero z at = inr at
set_or_old (x ∷ xs) (suc n) y (suc i) z at = by (set_or_old xs n y i z at)
  where
    by : ((i ≡ n) × (y ≡ z)) ⊎ (slice_get xs i ≡ Some z) →
        ((suc i ≡ suc n) × (y ≡ z)) ⊎ (slice_get (x ∷ xs) (suc i) ≡ Some z)
    by (inl e) = inl (ap suc e.0, e.1)
    by (inr e) = inr e

module _ (x : CellTables) (t : Table) (k : KeptTerms) (memory : IsMemory x t k) (ty : Ty) (id : TermId)
    (term : IsTerm t (type_bits (spec_tree x.spec) ty) id) where
  pub state_memory : (at : SiteBody) (number : ℕ) (n : KeptTerms) → type_at x at (State number) ≡ Some ty →
      n.values ≡ slice_set k.values number id → n.step ≡ k.step → IsMemory x t n
  state_memory at number n typed values step = record {
    count = ap length values ∙ length-set k.values number id ∙ memory.count;
    slots = subst (All (HasSlot x)) (sym step) memory.slots;
    kept = record {
      values = λ i z var is there.
          of_index i z var there (set_or_old k.values number id i z (ap (λ vs. slice_get vs i) (sym values) ∙ is));
      step = subst (All (IsKeptVersion x t)) (sym step) memory.kept.step;
    };
  }
    where
      of_index : (i : ℕ) (z : TermId) (var : Var) → slice_get x.vars i ≡ Some var →
          ((i ≡ number) × (id ≡ z)) ⊎ (slice_get k.values i ≡ Some z) →
          IsTerm t (type_bits (spec_tree x.spec) var.ty) z
      of_index i z var there (inr old) = memory.kept.values i z var old there
      of_index i z var there (inl new) =
          let same : ty ≡ var.ty =
          same_Some ty var.ty (sym typed ∙ ap (λ j. option_map (λ (v : Var). v.ty) (slice_get x.vars j)) (sym new.0)
          ∙ ap (option_map (λ (v : Var). v.ty)) there) in
          subst (λ (w : Ty). IsTerm t (type_bits (spec_tree x.spec) w) z) same
          (subst (IsTerm t (type_bits (spec_tree x.spec) ty)) new.1 term)

  pub step_memory : (cell : StepCell) (n : KeptTerms) → type_at x cell.at (Step cell.slot) ≡ Some ty →
      n.values ≡ k.values → n.step ≡ k.step ++ Put cell id ∷ [] → IsMemory x t n
  step_memory cell n typed values set = record {
    count = ap length values ∙ memory.count;
    slots = subst (All (HasSlot x)) (sym set)
        (All-push (HasSlot x) k.step (Put cell id) memory.slots (own_slot.0, own_slot.1));
    kept = record {
      values = λ i z var is there. memory.kept.values i z var (ap (λ vs. slice_get vs i) (sym values) ∙ is) there;
      step = subst (All (IsKeptVersion x t)) (sym set)
          (All-push (IsKeptVersion x t) k.step (Put cell id) memory.kept.step own_term);
    };
  }
    where
      own_slot : (s : Slot) × (slot_in x cell.at cell.slot ≡ Some s) × (s.ty ≡ ty)
      own_slot = by (slot_in x cell.at cell.slot) refl typed
        where
          by : (o : Option Slot) → slot_in x cell.at cell.slot ≡ o → option_map (λ (s : Slot). s.ty) o ≡ Some ty →
              (s : Slot) × (slot_in x cell.at cell.slot ≡ Some s) × (s.ty ≡ ty)
          by None is e = absurd (none-some ty e)
          by (Some s) is e = (s, is, same_Some s.ty ty e)

      own_term : IsKeptVersion x t (Put cell id)
      own_term s is =
          let own : own_slot.0 ≡ s = same_Some own_slot.0 s (sym own_slot.1 ∙ is) in
          subst (λ (w : Ty). IsTerm t (type_bits (spec_tree x.spec) w) id)
          (sym own_slot.2 ∙ ap (λ (r : Slot). r.ty) own) term
