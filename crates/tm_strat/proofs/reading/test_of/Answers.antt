use Rattle.tm_strat.proofs.Giving.{no_test, test_read}
use Rattle.tm_strat.proofs.reading.test_of.Goals as goal

pub returns-in-Test : goal.returns-in-Test
returns-in-Test c = λ d g shapes t first second is.
    test_read d g shapes t first second c.args.reply.now c.in-Test.holds c.in-Test.first c.in-Test.second
    c.in-Test.is is

pub returns-in-Move : goal.returns-in-Move
returns-in-Move c = λ d g shapes t first second is.
    absurd (no_test d g shapes t first second c.args.reply.now _ _ _ c.in-Move.is is)
