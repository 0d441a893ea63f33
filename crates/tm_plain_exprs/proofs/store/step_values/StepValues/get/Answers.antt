use Rattle.std.proofs.Common.{ap, ◌∙◌}
use Rattle.std.specs.Prelude.{unwrap_or}
use Rattle.tm_plain_exprs.specs.Kept.{kept_value}
use Rattle.tm_plain_exprs.proofs.StepCells.{kept_found}
use Rattle.tm_plain_exprs.proofs.store.step_values.StepValues.get.Goals as goal

pub returns : goal.returns
returns c =
    c.unwrap_or.ensures
    ∙ ap (λ o. unwrap_or o 0) (c.copied.ensures ∙ c.get.ensures.value)
    ∙ kept_found c.self.inside.kept.entries c.args.cell
    ∙ ap (λ es. kept_value es c.args.cell) c.self.view_is
