use Rattle.std.proofs.Common.{rules}
use Rattle.tm_syntax.proofs.Views.{view-Assert, view-Assume, view-Wait, view-Pause, view-Magic}
use Rattle.tm_parse.proofs.Commands.{assert_is, assume_is, wait_is, pause_is, magic_is, as_flat, taken_flat, no_flat}
use Rattle.tm_parse.proofs.statements.flat_stmt.Goals as goal

pub returns-in-Err-clause-refused : goal.returns-in-Err-clause-refused
returns-in-Err-clause-refused c =
    no_flat (as_flat c.in-Assert.is (assert_is {text = c.args.text.now} {depth = c.args.depth}
    c.args.tokens.now)) _
    c.in-Err.ensures.refused

pub returns-in-Ok-clause-taken : goal.returns-in-Ok-clause-taken
returns-in-Ok-clause-taken c =
    rw (view-Assert c.in-Ok.read.0.0 c.in-Ok.read.0.1)
    (taken_flat (as_flat c.in-Assert.is (assert_is {text = c.args.text.now} {depth = c.args.depth} c.args.tokens.now))
    c.in-Ok.ensures.taken)

pub returns-in-Err-test-clause-refused : goal.returns-in-Err-test-clause-refused
returns-in-Err-test-clause-refused c =
    no_flat (as_flat c.in-Assume.is (assume_is {text = c.args.text.now} {depth = c.args.depth}
    c.args.tokens.now)) _
    c.in-Err-test.ensures.refused

pub returns-in-Ok-test-clause-taken : goal.returns-in-Ok-test-clause-taken
returns-in-Ok-test-clause-taken c =
    rw (view-Assume c.in-Ok-test.read.0.0 c.in-Ok-test.read.0.1)
    (taken_flat (as_flat c.in-Assume.is (assume_is {text = c.args.text.now} {depth = c.args.depth} c.args.tokens.now))
    c.in-Ok-test.ensures.taken)

pub returns-in-Err-test-2-clause-refused : goal.returns-in-Err-test-2-clause-refused
returns-in-Err-test-2-clause-refused c =
    no_flat (as_flat c.in-Wait.is (wait_is {text = c.args.text.now} {depth = c.args.depth} c.args.tokens.now)) _
    c.in-Err-test-2.ensures.refused

pub returns-in-Ok-test-2-clause-taken : goal.returns-in-Ok-test-2-clause-taken
returns-in-Ok-test-2-clause-taken c =
    rw (view-Wait c.in-Ok-test-2.read.0.0 c.in-Ok-test-2.read.0.1)
    (taken_flat (as_flat c.in-Wait.is (wait_is {text = c.args.text.now} {depth = c.args.depth} c.args.tokens.now))
    c.in-Ok-test-2.ensures.taken)

pub returns-in-Err-short-clause-refused : goal.returns-in-Err-short-clause-refused
returns-in-Err-short-clause-refused c =
    no_flat (as_flat c.in-Pause.is (pause_is {text = c.args.text.now} {depth = c.args.depth}
    c.args.tokens.now)) _
    c.in-Err-short.ensures.refused

pub returns-in-Ok-short-clause-taken : goal.returns-in-Ok-short-clause-taken
returns-in-Ok-short-clause-taken c =
    rw (view-Pause c.in-Ok-short.read.0)
    (taken_flat (as_flat c.in-Pause.is (pause_is {text = c.args.text.now} {depth = c.args.depth} c.args.tokens.now))
    c.in-Ok-short.ensures.taken)

pub returns-in-Err-short-2-clause-refused : goal.returns-in-Err-short-2-clause-refused
returns-in-Err-short-2-clause-refused c =
    no_flat (as_flat c.in-Magic.is (magic_is {text = c.args.text.now} {depth = c.args.depth}
    c.args.tokens.now)) _
    c.in-Err-short-2.ensures.refused

pub returns-in-Ok-short-2-clause-taken : goal.returns-in-Ok-short-2-clause-taken
returns-in-Ok-short-2-clause-taken c =
    rw (view-Magic c.in-Ok-short-2.read.0)
    (taken_flat (as_flat c.in-Magic.is (magic_is {text = c.args.text.now} {depth = c.args.depth} c.args.tokens.now))
    c.in-Ok-short-2.ensures.taken)
