use Rattle.std.proofs.Common.{inl, inr}
use Rattle.tm_dd.specs.declared.node.TheConstants.{TRUE}
use Rattle.tm_ddops.proofs.Choices.{choice_of_true, choice_of_false}
use Rattle.tm_ddops.proofs.Facts.{constant_cases, same_ids, ids_apart}
use Rattle.tm_ddops.proofs.choice.Choice.settled.Goals as goal

pub returns-then-eq : goal.returns-then-eq
returns-then-eq c s k = choice_of_true s c.args.self k (same_ids _ _ c.if-eq.ensures)

pub returns-else-eq : goal.returns-else-eq
returns-else-eq c s k =
    elim (constant_cases c.args.self.test c.requires) [
      | inl e ↦ choice_of_false s c.args.self k e
      | inr e ↦ absurd (ids_apart c.args.self.test TRUE c.if-eq.ensures e)
    ]
