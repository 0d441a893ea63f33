use Rattle.tm_typing.proofs.Statements.{bodies_resolve}
use Rattle.tm_typing.proofs.checked_targets_and_calls_resolve.Goals as goal

pub returns : goal.returns
returns c = bodies_resolve
