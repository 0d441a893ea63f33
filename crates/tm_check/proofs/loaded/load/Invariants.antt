use Rattle.tm_check.specs.Loaded.{CanLoad}
use Rattle.tm_check.proofs.Rows.{AreFirstRows}
use Rattle.tm_game.specs.Game.{Grows}
use Rattle.tm_verdict.specs.Sets.{driver_sets}
use Rattle.tm_syntax.specs.Design.{DesignTree}
use Rattle.tm_check.proofs.loaded.load.Given as goal

abbrev pub invariant-loop-index : goal.invariant-loop-index
invariant-loop-index l = record {
  grows : Grows l.initial.game l.game;
  rows : (d : DesignTree) → CanLoad d l.fn.game l.cert → AreFirstRows d l.game (driver_sets d l.cert).goals l.index
      l.goals.items;
}
