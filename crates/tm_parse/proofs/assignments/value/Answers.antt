use Rattle.std.proofs.Common.{is_some, ap, rules}
use Rattle.tm_parse.proofs.Taking.{ok_map, err_map}
use Rattle.tm_parse.proofs.Values.{taken_star, taken_plain, no_plain, taken_named, no_named_path, no_named_from}
use Rattle.tm_parse.proofs.assignments.value.Goals as goal

pub returns-in-Some-clause-taken : goal.returns-in-Some-clause-taken
returns-in-Some-clause-taken c = taken_star c.in-Some.ensures.some c.in-Some.ensures.taken

pub returns-in-Err-clause-refused : goal.returns-in-Err-clause-refused
returns-in-Err-clause-refused c =
    no_named_path c.args.text.now c.args.depth c.args.tokens.now (search rules) _
    c.in-Err.ensures.refused

pub returns-then-eq-clause-taken : goal.returns-then-eq-clause-taken
returns-then-eq-clause-taken c =
    ok_map (λ r h. taken_named (search rules) c.in-Ok.ensures.taken h) c.value_from.result
    c.value_from.ensures.taken

pub returns-then-eq-clause-refused : goal.returns-then-eq-clause-refused
returns-then-eq-clause-refused c =
    err_map (λ e h. no_named_from c.args.depth (search rules) c.in-Ok.ensures.taken e h) c.value_from.result
    c.value_from.ensures.refused

pub returns-in-Err-expr-clause-refused : goal.returns-in-Err-expr-clause-refused
returns-in-Err-expr-clause-refused c =
    no_plain c.args.text.now c.args.depth c.args.tokens.now (c.mark.ensures.none (ap is_some c.in_default.is))
    (search rules) _ c.in-Err-expr.ensures.refused

pub returns-clause-taken : goal.returns-clause-taken
returns-clause-taken c =
    taken_plain c.args.tokens.now (c.mark.ensures.none (ap is_some c.in_default.is)) (search rules)
    c.in-Ok-expr.ensures.taken
