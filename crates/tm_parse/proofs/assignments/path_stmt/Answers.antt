use Rattle.std.proofs.Common.{rules}
use Rattle.tm_parse.proofs.Commands.{taken_path_stmt, no_path_stmt_path, no_path_stmt_from}
use Rattle.tm_parse.proofs.Taking.{ok_map, err_map}
use Rattle.tm_parse.proofs.assignments.path_stmt.Goals as goal

pub returns-in-Err-clause-refused : goal.returns-in-Err-clause-refused
returns-in-Err-clause-refused c =
    no_path_stmt_path c.args.text.now c.args.depth c.args.tokens.now _ c.in-Err.ensures.refused

pub returns-then-eq-clause-taken : goal.returns-then-eq-clause-taken
returns-then-eq-clause-taken c =
    ok_map (λ r h. taken_path_stmt c.in-Ok.ensures.taken h) c.call_from.result c.call_from.ensures.taken

pub returns-then-eq-clause-refused : goal.returns-then-eq-clause-refused
returns-then-eq-clause-refused c =
    err_map (λ e h. no_path_stmt_from c.args.depth c.in-Ok.ensures.taken e h) c.call_from.result
    c.call_from.ensures.refused

pub returns-clause-taken : goal.returns-clause-taken
returns-clause-taken c =
    ok_map (λ r h. taken_path_stmt c.in-Ok.ensures.taken h) c.assignment_from.result
    c.assignment_from.ensures.taken

pub returns-clause-refused : goal.returns-clause-refused
returns-clause-refused c =
    err_map (λ e h. no_path_stmt_from c.args.depth c.in-Ok.ensures.taken e h) c.assignment_from.result
    c.assignment_from.ensures.refused
