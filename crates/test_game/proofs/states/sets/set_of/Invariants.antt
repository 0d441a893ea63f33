-- The game has grown, and what was made of the parts so far is a set.
use Rattle.tm_game.specs.Game.{Grows, IsSet}
use Rattle.test_game.proofs.states.sets.set_of.Given as goal

abbrev pub invariant-loop-part : goal.invariant-loop-part
invariant-loop-part l = record { grows : Grows l.fn.game l.game; set : IsSet l.game l.set }
