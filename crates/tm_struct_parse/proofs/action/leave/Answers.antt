use Rattle.std.proofs.Common.{refl}
use Rattle.tm_cparse.specs.View.{tokens_of}
use Rattle.tm_struct_parse.proofs.Endings.{leave_no_open, leave_no_process, leave_no_close, leave_no_stop, leave_read}
use Rattle.tm_struct_parse.proofs.action.leave.Goals as goal

pub returns-in-Err-clause-refused : goal.returns-in-Err-clause-refused
returns-in-Err-clause-refused c =
    λ open_ifs. leave_no_open open_ifs c.args.spots.now _ c.in-Err.ensures.refused

pub returns-in-Err-constant-clause-refused : goal.returns-in-Err-constant-clause-refused
returns-in-Err-constant-clause-refused c =
    λ open_ifs. leave_no_process open_ifs (tokens_of c.args.spots.now) c.in-Ok.read.now _
    c.in-Ok.ensures.taken c.in-Err-constant.ensures.refused

pub returns-in-Err-need_sign-clause-refused : goal.returns-in-Err-need_sign-clause-refused
returns-in-Err-need_sign-clause-refused c =
    λ open_ifs. leave_no_close open_ifs c.in-Ok-constant.read.0 (tokens_of c.args.spots.now)
    (tokens_of c.in-Ok.read.now) c.in-Ok-constant.read.1.now _ c.in-Ok.ensures.taken
    c.in-Ok-constant.ensures.taken c.in-Err-need_sign.ensures.refused

pub returns-in-Err-need_sign-2-clause-refused : goal.returns-in-Err-need_sign-2-clause-refused
returns-in-Err-need_sign-2-clause-refused c =
    λ open_ifs. leave_no_stop open_ifs c.in-Ok-constant.read.0 (tokens_of c.args.spots.now)
    (tokens_of c.in-Ok.read.now) (tokens_of c.in-Ok-constant.read.1.now) c.in-Ok-need_sign.read.now _
    c.in-Ok.ensures.taken c.in-Ok-constant.ensures.taken c.in-Ok-need_sign.ensures.taken
    c.in-Err-need_sign-2.ensures.refused

pub returns-clause-taken : goal.returns-clause-taken
returns-clause-taken c =
    λ open_ifs.
    leave_read open_ifs c.in-Ok-constant.read.0 _ (tokens_of c.args.spots.now) (tokens_of c.in-Ok.read.now)
    (tokens_of c.in-Ok-constant.read.1.now) (tokens_of c.in-Ok-need_sign.read.now)
    (tokens_of c.in-Ok-need_sign-2.read.now) c.in-Ok.ensures.taken c.in-Ok-constant.ensures.taken
    c.in-Ok-need_sign.ensures.taken c.in-Ok-need_sign-2.ensures.taken refl
