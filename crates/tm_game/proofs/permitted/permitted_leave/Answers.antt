use Rattle.std.proofs.Common.{◌≡◌, get_or, arith}
use Rattle.std.proofs.lemmas.List.{get_or_default}
use Rattle.tm_game_bits.specs.Diagrams.{game_of}
use Rattle.tm_game.proofs.PermittedMoves.{leave_here}
use Rattle.tm_game.proofs.permitted.permitted_leave.Goals as goal

pub returns-clause-answer : goal.returns-clause-answer
returns-clause-answer c =
    let there = get_or_default c.args.made.now.movers.items c.args.index 0 c.index.result.now c.requires.index in
    let same : get_or c.args.made.now.movers.items c.args.index 0 ≡ c.args.process =
    omega (arith, c.if-index-process.false, c.index.ensures, there) in
    leave_here c.args.dd.now.table c.permitted_step.new.dd.table c.or.new.self.table
    (game_of c.args.dd.now.table c.args.made.now.steps) c.args.made.now.movers.items c.args.first c.args.process
    c.args.index c.args.other c.in_ok-here.here c.in_ok-either.either c.requires.other same
    c.permitted_step.ensures.extends c.or.ensures.grows.extends c.in_ok-here.ensures.answer
    c.in_ok-either.ensures.answer
