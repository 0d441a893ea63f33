use Rattle.std.proofs.Common.{ap, ◌∙◌}
use Rattle.std.specs.Prelude.{if◌then◌else◌}
use Rattle.tm_design.specs.StepCells.{same_cell}
use Rattle.tm_plain_exprs.specs.Kept.{kept_value}
use Rattle.tm_plain_exprs.proofs.StepCells.{kept_after}
use Rattle.tm_plain_exprs.proofs.store.step_values.StepValues.set.Goals as goal

pub returns : goal.returns
returns c = λ other.
    kept_after c.self.inside.kept.entries c.insert.new.self.entries c.args.cell other c.args.value
    (c.in_ok-insert.ensures.updates.0 other)
    ∙ ap (λ es. if same_cell c.args.cell other then c.args.value else kept_value es other) c.self.view_is
