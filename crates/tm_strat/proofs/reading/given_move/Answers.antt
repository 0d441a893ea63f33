use Rattle.std.proofs.Common.{refl}
use Rattle.tm_strat.proofs.Giving.{move_given}
use Rattle.tm_strat.proofs.reading.given_move.Goals as goal

pub returns-then-not-are_same : goal.returns-then-not-are_same
returns-then-not-are_same c = λ d g b tasks move. c.not_given.ensures d g c.args.shapes.now b

pub returns : goal.returns
returns c = λ d g b tasks move.
    move_given d g c.args.shapes.now c.args.others.now c.args.own c.args.fits c.args.arguments.now b _ tasks move
    (c.are_same.ensures c.if-not-are_same.false) refl c.in_ok-parts.ensures.items
