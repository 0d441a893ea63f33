use Rattle.std.proofs.Common.{refl}
use Rattle.tm_cparse.specs.View.{tokens_of}
use Rattle.tm_struct_parse.proofs.Endings.{idle_no_stop, idle_read}
use Rattle.tm_struct_parse.proofs.action.idle.Goals as goal

pub returns-in-Err-clause-refused : goal.returns-in-Err-clause-refused
returns-in-Err-clause-refused c =
    λ open_ifs. idle_no_stop open_ifs c.args.spots.now _ c.in-Err.ensures.refused

pub returns-clause-taken : goal.returns-clause-taken
returns-clause-taken c =
    λ open_ifs.
    idle_read open_ifs _ (tokens_of c.args.spots.now) (tokens_of c.in-Ok.read.now) c.in-Ok.ensures.taken refl
