use Rattle.tm_typing.proofs.Promises.{exprs_resolve}
use Rattle.tm_typing.proofs.checked_paths_resolve.Goals as goal

pub returns : goal.returns
returns c = exprs_resolve
