use Rattle.std.proofs.Common.{sym, ◌∙◌}
use Rattle.tm_dd.proofs.CallerLaws.{means-FALSE, means-TRUE}
use Rattle.tm_ddops.proofs.choice.constant.Goals as goal

pub returns-then-value-clause-meaning : goal.returns-then-value-clause-meaning
returns-then-value-clause-meaning c s v = means-TRUE s v ∙ sym c.if-value.true

pub returns-else-value-clause-meaning : goal.returns-else-value-clause-meaning
returns-else-value-clause-meaning c s v = means-FALSE s v ∙ sym c.if-value.false
