use Rattle.std.proofs.Common.{◌≡◌, Some, sym, subst}
use Rattle.tm_syntax.specs.Design.Cells.{in_state}
use Rattle.tm_scope.specs.Cells.{cell_at}
use Rattle.tm_scope.specs.declared.cells.site_body.CellNumber.TheVariants.{State}
use Rattle.tm_sem.specs.Value as run
use Rattle.tm_design.specs.declared.step_cells.StepCell.{StepCell}
use Rattle.tm_plain_exprs.specs.Kept.{Kept, Keeps}
use Rattle.tm_plain_exprs.proofs.Keeping.{state_put, step_put}
use Rattle.tm_plain_exprs.proofs.store.Store.put.Goals as goal

pub returns-in-State : goal.returns-in-State
returns-in-State c = λ x m d apart keeps is.
    let number = c.in-State.number in
    let there : cell_at x c.args.at (State number) ≡ Some d =
    subst (λ n. cell_at x c.args.at n ≡ Some d) c.in-State.is is in
    let one : in_state number ≡ d = cc in
    subst (λ y. Keeps x c.put_variable.new.self (run.put m y c.args.value)) one
    (state_put x apart c.args.self.now m keeps number c.args.value c.put_variable.new.self
    c.put_variable.ensures.values c.put_variable.ensures.step)

pub returns-in_ok-set-in-Step : goal.returns-in_ok-set-in-Step
returns-in_ok-set-in-Step c = λ x m d apart keeps is.
    let k : Kept = record { values = c.self.inside.values.items; step = c.self.inside.step } in
    let cell : StepCell = record { at = c.args.at; slot = c.in-Step.slot } in
    step_put x apart k m (subst (λ k. Keeps x k m) (sym c.self.view_is) keeps) cell d c.args.value c.set.new.self
    (subst (λ n. cell_at x c.args.at n ≡ Some d) c.in-Step.is is) c.in_ok-set-in-Step.ensures
