use Rattle.std.proofs.Common.{rules}
use Rattle.tm_parse.proofs.Arguments.{taken_list, no_list_opening, no_list_list, no_list_closing, taken_no_list}
use Rattle.tm_parse.proofs.Instances.{names_listed}
use Rattle.tm_parse.proofs.declarations.port_names.Goals as goal

pub returns-then-ne-clause-taken : goal.returns-then-ne-clause-taken
returns-then-ne-clause-taken c = rw c.new.ensures.items (taken_no_list c.args.tokens.now (search rules))

pub returns-in-Err-clause-refused : goal.returns-in-Err-clause-refused
returns-in-Err-clause-refused c =
    no_list_opening c.args.depth c.args.tokens.now (names_listed c.args.text.now) (search rules) _
    c.in-Err.ensures.refused

pub returns-in-Err-names-clause-refused : goal.returns-in-Err-names-clause-refused
returns-in-Err-names-clause-refused c =
    no_list_list c.args.tokens.now (names_listed c.args.text.now) (search rules) c.in-Ok.ensures.taken _
    c.in-Err-names.ensures.refused

pub returns-in-Err-need-clause-refused : goal.returns-in-Err-need-clause-refused
returns-in-Err-need-clause-refused c =
    no_list_closing c.args.tokens.now (names_listed c.args.text.now) (search rules) c.in-Ok.ensures.taken
    c.in-Ok-names.ensures.taken _ c.in-Err-need.ensures.refused

pub returns-clause-taken : goal.returns-clause-taken
returns-clause-taken c =
    taken_list c.args.tokens.now (names_listed c.args.text.now) (search rules) c.in-Ok.ensures.taken
    c.in-Ok-names.ensures.taken c.in-Ok-need.ensures.taken
