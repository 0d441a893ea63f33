use Rattle.tm_cparse.specs.View.{tokens_of}
use Rattle.tm_cparse.proofs.Readings.{ok_map, err_map}
use Rattle.tm_struct_parse.specs.View.{draft_tree}
use Rattle.tm_struct_parse.proofs.Programs.{body_no_open, body_no_void, body_no_close, body_no_block, body_read}
use Rattle.tm_struct_parse.proofs.program.body.Goals as goal

pub returns-in-Err-clause-refused : goal.returns-in-Err-clause-refused
returns-in-Err-clause-refused c =
    body_no_open c.args.spots.now _ c.in-Err.ensures.refused

pub returns-in-Err-need-clause-refused : goal.returns-in-Err-need-clause-refused
returns-in-Err-need-clause-refused c =
    body_no_void (tokens_of c.args.spots.now) c.in-Ok.read.now _ c.in-Ok.ensures.taken
    c.in-Err-need.ensures.refused

pub returns-in-Err-need_sign-clause-refused : goal.returns-in-Err-need_sign-clause-refused
returns-in-Err-need_sign-clause-refused c =
    body_no_close (tokens_of c.args.spots.now) (tokens_of c.in-Ok.read.now) c.in-Ok-need.read.now _
    c.in-Ok.ensures.taken c.in-Ok-need.ensures.taken c.in-Err-need_sign.ensures.refused

pub returns-clause-taken : goal.returns-clause-taken
returns-clause-taken c =
    ok_map
    (λ r h.
    body_read (draft_tree r.0) (tokens_of c.args.spots.now) (tokens_of c.in-Ok.read.now)
    (tokens_of c.in-Ok-need.read.now) (tokens_of c.in-Ok-need_sign.read.now) (tokens_of r.1.now) c.in-Ok.ensures.taken
    c.in-Ok-need.ensures.taken c.in-Ok-need_sign.ensures.taken h)
    c.block.result c.block.ensures.taken

pub returns-clause-refused : goal.returns-clause-refused
returns-clause-refused c =
    err_map
    (λ e h.
    body_no_block (tokens_of c.args.spots.now) (tokens_of c.in-Ok.read.now) (tokens_of c.in-Ok-need.read.now)
    (tokens_of c.in-Ok-need_sign.read.now) e c.in-Ok.ensures.taken c.in-Ok-need.ensures.taken
    c.in-Ok-need_sign.ensures.taken h)
    c.block.result c.block.ensures.refused
