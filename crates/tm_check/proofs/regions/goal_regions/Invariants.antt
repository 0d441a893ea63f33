use Rattle.std.proofs.Common.{List}
use Rattle.tm_check.specs.Told.{IsTold}
use Rattle.tm_cir.specs.Answer.{Answers}
use Rattle.tm_cir.specs.Tree.{BlockTree}
use Rattle.tm_game.specs.Game.{Grows}
use Rattle.tm_sem.specs.Certificates.{DriverSets}
use Rattle.tm_syntax.specs.Design.{DesignTree}
use Rattle.tm_check.proofs.Looping.{ranks_of}
use Rattle.tm_verdict.specs.Driver.{driver_meaning, region_parts}
use Rattle.tm_verdict.specs.Tried.{AreTriedTo}
use Rattle.tm_check.proofs.regions.goal_regions.Given as goal

abbrev pub invariant-loop-index : goal.invariant-loop-index
invariant-loop-index l = record {
  grows : Grows l.fn.game l.game;
  tried : (d : DesignTree) (bs : List BlockTree) (c : DriverSets) → IsTold d bs c l.fn.game l.told →
      AreTriedTo (driver_meaning d (Answers bs) c) (region_parts l.goal) (ranks_of c l.goal) l.index;
}
