use Rattle.std.proofs.Common.{◌≡◌, Some, sym, ap, ◌∙◌, subst}
use Rattle.tm_scope.specs.Cells.{cell_at}
use Rattle.tm_design.specs.declared.step_cells.StepCell.{StepCell}
use Rattle.tm_plain_exprs.specs.Kept.{Kept, kept_value}
use Rattle.tm_plain_exprs.proofs.store.Store.read.Goals as goal

pub returns-in-Step : goal.returns-in-Step
returns-in-Step c = λ x m d keeps is.
    let cell : StepCell = record { at = c.args.at; slot = c.in-Step.slot } in
    c.get-in-Step.ensures
    ∙ ap (λ (k : Kept). kept_value k.step cell) c.self.view_is
    ∙ sym (keeps.step cell d (subst (λ n. cell_at x c.args.at n ≡ Some d) c.in-Step.is is))
