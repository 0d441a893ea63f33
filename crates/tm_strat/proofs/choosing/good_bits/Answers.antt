use Rattle.tm_strat.proofs.Constants.{apart_is, bits_are, nothing_same}
use Rattle.tm_strat.proofs.choosing.good_bits.Goals as goal

pub returns-then-eq-clause-value : goal.returns-then-eq-clause-value
returns-then-eq-clause-value c =
    apart_is c.args.game.now c.both.new.game c.requires.design c.both.ensures.grows c.args.pairs c.args.set
    c.requires.pairs c.requires.set c.in_ok-here.here
    (c.in_ok-here.ensures.answer c.requires.pairs.known c.requires.set.set.known)
    (nothing_same c.in_ok-here.here c.eq.result c.eq.ensures c.if-eq.true)

pub returns-clause-value : goal.returns-clause-value
returns-clause-value c =
    bits_are c.args.game.now c.both.new.game c.requires.design c.both.ensures.grows c.args.pairs c.args.set
    c.requires.pairs c.requires.set c.in_ok-here.here
    (c.in_ok-here.ensures.answer c.requires.pairs.known c.requires.set.set.known) c.in_ok-bits.bits
    c.in_ok-bits.ensures
