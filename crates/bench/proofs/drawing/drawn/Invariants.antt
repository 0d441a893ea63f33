-- The game has grown, and what is drawn so far is a set of it.
use Rattle.tm_game.specs.Game.{Grows, IsSet}
use Rattle.bench.proofs.drawing.drawn.Given as goal

abbrev pub invariant-loop-cube : goal.invariant-loop-cube
invariant-loop-cube l = record {
  grows : Grows l.fn.game l.game;
  set : IsSet l.game l.set;
}
