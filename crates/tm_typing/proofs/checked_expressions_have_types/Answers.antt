use Rattle.tm_typing.proofs.Promises.{exprs_typed}
use Rattle.tm_typing.proofs.checked_expressions_have_types.Goals as goal

pub returns : goal.returns
returns c = exprs_typed
