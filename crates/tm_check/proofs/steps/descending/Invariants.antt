use Rattle.std.proofs.Common.{List, [], ◌∷◌, length}
use Rattle.tm_check.specs.Told.{IsTold}
use Rattle.tm_cir.specs.Answer.{Answers}
use Rattle.tm_cir.specs.Tree.{BlockTree}
use Rattle.tm_game.specs.Game.{Grows}
use Rattle.tm_sem.specs.Certificates.{DriverSets}
use Rattle.tm_syntax.specs.Design.{DesignTree}
use Rattle.tm_check.specs.Leaving.{AreLeaving, part_of}
use Rattle.tm_check.specs.Tried.{HavePassed}
use Rattle.tm_verdict.specs.Driver.{driver_meaning}
use Rattle.tm_verdict.specs.Tried.{AreTriedTo}
use Rattle.tm_check.proofs.steps.descending.Given as goal

abbrev pub invariant-loop-goal : goal.invariant-loop-goal
invariant-loop-goal l = record {
  grows : Grows l.fn.game l.game;
  tried : (d : DesignTree) (bs : List BlockTree) (c : DriverSets) → IsTold d bs c l.fn.game l.told →
      AreLeaving d bs c l.fn.game l.leaving → HavePassed d (Answers bs) c →
      AreTriedTo (driver_meaning d (Answers bs) c) (λ goal. part_of l.descent goal ∷ []) (length c.goals) l.goal;
}
