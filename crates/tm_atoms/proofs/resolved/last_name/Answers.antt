use Rattle.std.proofs.Common.{◌∙◌, arith}
use Rattle.tm_scope.proofs.PathSteps.{last_name-read}
use Rattle.tm_atoms.proofs.resolved.last_name.Goals as goal

pub returns-in-len1-up : goal.returns-in-len1-up
returns-in-len1-up c =
    c.as_bytes.ensures ∙ last_name-read c.args.path.now c.last-item.result (omega arith) c.last-item.is
