use Rattle.std.proofs.Common.{map, refl}
use Rattle.tm_cir.specs.View.{num_tree}
use Rattle.tm_cparse.specs.View.{tokens_of}
use Rattle.tm_struct_parse.proofs.Endings.{call_no_open, call_no_arguments, call_no_stop, call_read}
use Rattle.tm_struct_parse.proofs.action.call.Goals as goal

pub returns-in-Err-clause-refused : goal.returns-in-Err-clause-refused
returns-in-Err-clause-refused c =
    λ open_ifs. call_no_open open_ifs c.args.number c.args.spots.now _ c.in-Err.ensures.refused

pub returns-in-Err-arguments-clause-refused : goal.returns-in-Err-arguments-clause-refused
returns-in-Err-arguments-clause-refused c =
    λ open_ifs. call_no_arguments open_ifs c.args.number (tokens_of c.args.spots.now)
    (tokens_of c.in-Ok.read.now) _ c.in-Ok.ensures.taken c.in-Err-arguments.ensures.refused

pub returns-in-Err-need_sign-clause-refused : goal.returns-in-Err-need_sign-clause-refused
returns-in-Err-need_sign-clause-refused c =
    λ open_ifs. call_no_stop open_ifs c.args.number (map num_tree c.in-Ok-arguments.read.0.items)
    (tokens_of c.args.spots.now) (tokens_of c.in-Ok.read.now) c.in-Ok-arguments.read.1.now _ c.in-Ok.ensures.taken
    c.in-Ok-arguments.ensures.taken c.in-Err-need_sign.ensures.refused

pub returns-clause-taken : goal.returns-clause-taken
returns-clause-taken c =
    λ open_ifs.
    call_read open_ifs c.args.number (map num_tree c.in-Ok-arguments.read.0.items) _ (tokens_of c.args.spots.now)
    (tokens_of c.in-Ok.read.now) (tokens_of c.in-Ok-arguments.read.1.now) (tokens_of c.in-Ok-need_sign.read.now)
    c.in-Ok.ensures.taken c.in-Ok-arguments.ensures.taken c.in-Ok-need_sign.ensures.taken refl
