use Rattle.tm_cparse.specs.View.{tokens_of}
use Rattle.tm_struct_parse.proofs.Programs.{function_no_void, function_no_name, function_no_body, function_read}
use Rattle.tm_struct_parse.proofs.program.function.Goals as goal

pub returns-in-Err-clause-refused : goal.returns-in-Err-clause-refused
returns-in-Err-clause-refused c =
    function_no_void c.args.spots.now _ c.in-Err.ensures.refused

pub returns-in-Err-label-clause-refused : goal.returns-in-Err-label-clause-refused
returns-in-Err-label-clause-refused c =
    function_no_name (tokens_of c.args.spots.now) c.in-Ok.read.now _ c.in-Ok.ensures.taken
    c.in-Err-label.ensures.refused

pub returns-in-Err-body-clause-refused : goal.returns-in-Err-body-clause-refused
returns-in-Err-body-clause-refused c =
    function_no_body c.in-Ok-label.read.0 (tokens_of c.args.spots.now) (tokens_of c.in-Ok.read.now)
    (tokens_of c.in-Ok-label.read.1.now) _ c.in-Ok.ensures.taken c.in-Ok-label.ensures.taken
    c.in-Err-body.ensures.refused

pub returns-clause-taken : goal.returns-clause-taken
returns-clause-taken c =
    function_read _ (tokens_of c.args.spots.now) (tokens_of c.in-Ok.read.now) (tokens_of c.in-Ok-label.read.1.now)
    (tokens_of c.in-Ok-body.read.1.now) c.in-Ok.ensures.taken c.in-Ok-label.ensures.taken
    c.in-Ok-body.ensures.taken
