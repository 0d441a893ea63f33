use Rattle.tm_cparse.specs.View.{tokens_of}
use Rattle.tm_cparse.proofs.Readings.{ok_map, err_map}
use Rattle.tm_struct_parse.specs.View.{draft_tree}
use Rattle.tm_struct_parse.proofs.Programs.{turn_no_void, turn_no_name, turn_no_body, turn_read}
use Rattle.tm_struct_parse.proofs.program.driver_turn.Goals as goal

pub returns-in-Err-clause-refused : goal.returns-in-Err-clause-refused
returns-in-Err-clause-refused c =
    turn_no_void c.args.spots.now _ c.in-Err.ensures.refused

pub returns-in-Err-need-clause-refused : goal.returns-in-Err-need-clause-refused
returns-in-Err-need-clause-refused c =
    turn_no_name (tokens_of c.args.spots.now) c.in-Ok.read.now _ c.in-Ok.ensures.taken
    c.in-Err-need.ensures.refused

pub returns-clause-taken : goal.returns-clause-taken
returns-clause-taken c =
    ok_map
    (λ r h.
    turn_read (draft_tree r.0) (tokens_of c.args.spots.now) (tokens_of c.in-Ok.read.now)
    (tokens_of c.in-Ok-need.read.now) (tokens_of r.1.now) c.in-Ok.ensures.taken
    c.in-Ok-need.ensures.taken h)
    c.body.result c.body.ensures.taken

pub returns-clause-refused : goal.returns-clause-refused
returns-clause-refused c =
    err_map
    (λ e h.
    turn_no_body (tokens_of c.args.spots.now) (tokens_of c.in-Ok.read.now) (tokens_of c.in-Ok-need.read.now) e
    c.in-Ok.ensures.taken c.in-Ok-need.ensures.taken h)
    c.body.result c.body.ensures.refused
