use Rattle.std.proofs.Common.{arith}
use Rattle.tm_types.proofs.ReachedTasks.{last_place-read}
use Rattle.tm_types.proofs.mismatches.calls.last_place.Goals as goal

pub returns-in-len1-up : goal.returns-in-len1-up
returns-in-len1-up c = last_place-read c.args.path.now c.last-item.result (omega arith) c.last-item.is
