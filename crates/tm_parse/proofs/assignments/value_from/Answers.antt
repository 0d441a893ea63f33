use Rattle.std.proofs.Common.{rules}
use Rattle.tm_parse.proofs.Values.{taken_call, no_call, taken_rest, no_rest_place, no_rest_from}
use Rattle.tm_parse.proofs.assignments.value_from.Goals as goal

pub returns-in-Err-clause-refused : goal.returns-in-Err-clause-refused
returns-in-Err-clause-refused c =
    no_call c.args.text.now c.args.depth c.args.path.names.items c.args.tokens.now (search rules) _
    c.in-Err.ensures.refused

pub returns-then-eq-clause-taken : goal.returns-then-eq-clause-taken
returns-then-eq-clause-taken c =
    taken_call c.args.path.names.items (search rules) c.in-Ok.ensures.taken

pub returns-in-Err-place_from-clause-refused : goal.returns-in-Err-place_from-clause-refused
returns-in-Err-place_from-clause-refused c =
    no_rest_place c.args.text.now c.args.depth c.args.path.names.items c.args.tokens.now (search rules) _
    c.in-Err-place_from.ensures.refused

pub returns-in-Err-expr_from-clause-refused : goal.returns-in-Err-expr_from-clause-refused
returns-in-Err-expr_from-clause-refused c =
    no_rest_from c.args.path.names.items c.args.tokens.now (search rules) c.in-Ok-place_from.ensures.taken _
    c.in-Err-expr_from.ensures.refused

pub returns-clause-taken : goal.returns-clause-taken
returns-clause-taken c =
    taken_rest c.args.path.names.items c.args.tokens.now (search rules) c.in-Ok-place_from.ensures.taken
    c.in-Ok-expr_from.ensures.taken
