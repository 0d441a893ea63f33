use Rattle.std.proofs.Common.{is_some, ap, rules}
use Rattle.tm_parse.proofs.Literals.{IsNoLiteral, taken_literal_number, no_literal_number, taken_literal_true, taken_literal_false, taken_literal_name, no_literal_name}
use Rattle.tm_parse.proofs.Taking.{ok_map, err_map}
use Rattle.tm_parse.proofs.declarations.literal.Goals as goal

pub returns-in-Err-clause-refused : goal.returns-in-Err-clause-refused
returns-in-Err-clause-refused c =
    no_literal_number c.args.text.now c.args.tokens.now (search rules) _ c.in-Err.ensures.refused

pub returns-then-eq-clause-taken : goal.returns-then-eq-clause-taken
returns-then-eq-clause-taken c = taken_literal_number (search rules) c.in-Ok.ensures.taken

pub returns-in-Some-clause-taken : goal.returns-in-Some-clause-taken
returns-in-Some-clause-taken c = taken_literal_true c.in-Some.ensures.some c.in-Some.ensures.taken

pub returns-in-Some-mark-clause-taken : goal.returns-in-Some-mark-clause-taken
returns-in-Some-mark-clause-taken c = taken_literal_false c.in-Some-mark.ensures.some c.in-Some-mark.ensures.taken

pub returns-clause-taken : goal.returns-clause-taken
returns-clause-taken c =
    let none : IsNoLiteral c.args.tokens.now = record {
      no_number = search rules;
      no_true = c.mark.ensures.none (ap is_some c.in_default.is);
      no_false = c.mark-2.ensures.none (ap is_some c.in_default-mark.is);
    } in
    ok_map (λ r h. taken_literal_name c.args.tokens.now none h.1 h.2) c.constant.result c.constant.ensures.taken

pub returns-clause-refused : goal.returns-clause-refused
returns-clause-refused c =
    let none : IsNoLiteral c.args.tokens.now = record {
      no_number = search rules;
      no_true = c.mark.ensures.none (ap is_some c.in_default.is);
      no_false = c.mark-2.ensures.none (ap is_some c.in_default-mark.is);
    } in
    err_map (λ e h. no_literal_name c.args.text.now c.args.tokens.now none e h) c.constant.result
    c.constant.ensures.refused
