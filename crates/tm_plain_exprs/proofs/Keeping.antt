-- What is kept of a memory, after a value was put into a cell.
use Rattle.std.proofs.Common.{◌≡◌, ℕ, Some, List, [], sym, ap, ◌∙◌, subst}
use Rattle.std.specs.Prelude.{if◌then◌else◌, slice_set}
use Rattle.tm_syntax.specs.Design.Cells.{Cell, in_state, in_step}
use Rattle.tm_scope.specs.Cells.{CellTables, scope_of, cell_at}
use Rattle.tm_scope.specs.declared.cells.site_body.SiteBody.{SiteBody}
use Rattle.tm_scope.specs.declared.cells.site_body.CellNumber.TheVariants.{State, Step}
use Rattle.tm_sem.specs.Value.{Memory, read, put}
use Rattle.tm_design.specs.declared.step_cells.StepCell.{StepCell}
use Rattle.tm_design.specs.StepCells.{AreApart, same_cell}
use Rattle.tm_design.proofs.StepCells.{cell_of, read_put, tests_agree}
use Rattle.tm_plain_exprs.specs.Kept.{Kept, kept_value, Keeps}

module _ (x : CellTables) (apart : AreApart x) (k : Kept) (m : Memory) (keeps : Keeps x k m) where
  -- after a value was put into a parameter or local
  pub step_put : (cell : StepCell) (c : Cell) (value : ℕ) (entries : List (StepCell × ℕ)) →
      cell_at x cell.at (Step cell.slot) ≡ Some c →
      ((other : StepCell) → kept_value entries other
      ≡ (if same_cell cell other then value else kept_value k.step other)) →
      Keeps x (record { values = k.values; step = entries }) (put m c value)
  step_put cell c value entries is set =
      let own = cell_of x cell.at cell.slot c is in
      subst (λ y. Keeps x (record { values = k.values; step = entries }) (put m y value)) (sym own.2) (record {
        values = keeps.values;
        step = λ other d there.
            let others = cell_of x other.at other.slot d there in
            subst (λ y. read (put m (in_step (scope_of cell.at) own.0.name own.0.ty) value) y ≡ kept_value entries
            other)
            (sym others.2)
            (read_put m (scope_of cell.at) (scope_of other.at) own.0.name others.0.name value (same_cell cell other)
            own.0.ty others.0.ty (tests_agree x apart cell other own.0 others.0 own.1 others.1)
            ∙ ap (λ n. if same_cell cell other then value else n)
            (subst (λ y. read m y ≡ kept_value k.step other) others.2 (keeps.step other d there))
            ∙ sym (set other));
      })

  -- after a value was put into a state variable
  pub state_put : (number value : ℕ) (n : Kept) → n.values ≡ slice_set k.values number value → n.step ≡ k.step →
      Keeps x n (put m (in_state number) value)
  state_put number value n values step = record {
    values = ap (λ vs. slice_set vs number value) keeps.values ∙ sym values;
    step = λ other d there.
        let others = cell_of x other.at other.slot d there in
        subst (λ y. read (put m (in_state number) value) y ≡ kept_value n.step other) (sym others.2)
        (subst (λ y. read m y ≡ kept_value n.step other) others.2
        (keeps.step other d there ∙ ap (λ es. kept_value es other) (sym step)));
  }

-- what is kept of a state's values, before anything lives for a step
pub plain_kept : (x : CellTables) (k : Kept) (values : List ℕ) → k.values ≡ values → k.step ≡ [] →
    Keeps x k (record { values = values; passing = [] })
plain_kept x k values same none = record {
  values = sym same;
  step = λ other d there.
      let others = cell_of x other.at other.slot d there in
      subst (λ y. read (record { values = values; passing = [] }) y ≡ kept_value k.step other) (sym others.2)
      (ap (λ es. kept_value es other) (sym none));
}

-- what is read of a state variable
pub state_read : (x : CellTables) (k : Kept) (m : Memory) (at : SiteBody) (number : ℕ) (c : Cell) → Keeps x k m →
    cell_at x at (State number) ≡ Some c → read m c ≡ read (record { values = k.values; passing = [] }) (in_state
    number)
state_read x k m at number c keeps is =
    let one : in_state number ≡ c = cc in
    subst (λ y. read m y ≡ read (record { values = k.values; passing = [] }) (in_state number)) one
    (ap (λ vs. read (record { values = vs; passing = [] }) (in_state number)) keeps.values)
