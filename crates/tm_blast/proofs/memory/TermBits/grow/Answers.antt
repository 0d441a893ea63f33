use Rattle.std.proofs.Common.{ap, ◌∙◌}
use Rattle.tm_blast.specs.Memory.{made_at}
use Rattle.tm_blast.proofs.memory.TermBits.grow.Goals as goal

pub returns-clause-same : goal.returns-clause-same
returns-clause-same c id = c.filled.ensures.same id ∙ ap (λ made. made_at made id) c.self.view_is
