use Rattle.std.proofs.Common.{ap, ◌∙◌}
use Rattle.tm_blast.specs.Memory.{made_at, made_of}
use Rattle.tm_blast.proofs.Entries.{made_at-filled}
use Rattle.tm_blast.proofs.memory.filled.Goals as goal

pub loop-entries-preserved : goal.loop-entries-preserved
loop-entries-preserved c id =
    ap (λ entries. made_at (made_of entries) id) c.in_ok-push.ensures.items
    ∙ made_at-filled c.loop-entries.entries.items id
    ∙ c.loop-entries.invariant id

pub returns-in_err-push-clause-same : goal.returns-in_err-push-clause-same
returns-in_err-push-clause-same c id =
    ap (λ entries. made_at (made_of entries) id) c.in_err-push.ensures.items ∙ c.loop-entries.invariant id
