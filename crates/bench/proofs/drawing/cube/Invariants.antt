-- The game has grown, and what is drawn so far is a set of it.
use Rattle.tm_game.specs.Game.{Grows, IsSet}
use Rattle.bench.proofs.drawing.cube.Given as goal

abbrev pub invariant-loop-bit : goal.invariant-loop-bit
invariant-loop-bit l = record {
  grows : Grows l.fn.game l.game;
  set : IsSet l.game l.cube;
}
