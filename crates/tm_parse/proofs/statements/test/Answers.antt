use Rattle.std.proofs.Common.{rules}
use Rattle.tm_parse.proofs.Commands.{taken_test, no_test_word, no_test_condition, no_test_end}
use Rattle.tm_parse.proofs.statements.test.Goals as goal

pub returns-in-Err-clause-refused : goal.returns-in-Err-clause-refused
returns-in-Err-clause-refused c =
    no_test_word c.args.text.now c.args.word c.args.depth c.args.tokens.now _ c.in-Err.ensures.refused

pub returns-in-Err-condition-clause-refused : goal.returns-in-Err-condition-clause-refused
returns-in-Err-condition-clause-refused c =
    no_test_condition c.args.text.now c.args.word c.args.depth c.in-Ok.ensures.taken _
    c.in-Err-condition.ensures.refused

pub returns-in-Err-need-clause-refused : goal.returns-in-Err-need-clause-refused
returns-in-Err-need-clause-refused c =
    no_test_end c.in-Ok.ensures.taken c.in-Ok-condition.ensures.taken _ c.in-Err-need.ensures.refused

pub returns-clause-taken : goal.returns-clause-taken
returns-clause-taken c = taken_test c.in-Ok.ensures.taken c.in-Ok-condition.ensures.taken c.in-Ok-need.ensures.taken
