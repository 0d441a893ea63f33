use Rattle.tm_strat.proofs.Carrying.{grown}
use Rattle.tm_strat.proofs.ZonePairs.{no_pairs, pairs_from}
use Rattle.tm_strat.proofs.good.zone_moves.Goals as goal

pub returns-then-not-may_move-clause-pairs : goal.returns-then-not-may_move-clause-pairs
returns-then-not-may_move-clause-pairs c = λ d is.
    no_pairs d c.args.game.now c.args.game.now.diagrams.table c.args.states c.args.target c.args.shape
    (c.may_move.ensures.never c.if-not-may_move.true)

pub returns-clause-pairs : goal.returns-clause-pairs
returns-clause-pairs c = λ d is.
    let may = c.may_move.ensures.may c.if-not-may_move.false in
    pairs_from d c.args.game.now c.legal_move.new.self c.both.new.game c.args.states c.args.target c.in_ok-legal.legal
    c.in_ok-here.here c.args.shape c.legal_move.ensures.grows
    (grown c.legal_move.new.self c.both.new.game c.both.ensures.grows) c.requires.states.known may.1 may.2
    (c.in_ok-legal.ensures.answer d is.ordered.of) c.in_ok-here.ensures.answer
