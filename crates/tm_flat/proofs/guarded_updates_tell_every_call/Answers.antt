use Rattle.tm_flat.proofs.Arguments.{calls_are_told}
use Rattle.tm_flat.proofs.guarded_updates_tell_every_call.Goals as goal

pub returns : goal.returns
returns c = calls_are_told
