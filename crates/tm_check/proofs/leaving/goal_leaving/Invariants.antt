use Rattle.std.proofs.Common.{◌+◌, ◌-◌, List}
use Rattle.tm_check.specs.Leaving.{AreAnswers}
use Rattle.tm_check.specs.Told.{IsTold}
use Rattle.tm_check.proofs.LeavingRanks.{AreFirstLeaving}
use Rattle.tm_cir.specs.Answer.{Answers}
use Rattle.tm_cir.specs.Tree.{BlockTree}
use Rattle.tm_dd.specs.Table.{Knows}
use Rattle.tm_game.specs.Game.{Grows, IsStates}
use Rattle.tm_sem.specs.Certificates.{AreRanked, DriverSets, RankedSet}
use Rattle.tm_syntax.specs.Design.{DesignTree}
use Rattle.tm_verdict.specs.Found.{MayLeave, within_rank}
use Rattle.tm_check.proofs.leaving.goal_leaving.Given as goal

abbrev pub invariant-loop-passed : goal.invariant-loop-passed
invariant-loop-passed l = record {
  grows : Grows l.fn.game l.game;
  known : Knows l.game.diagrams.table l.leaving;
  last : (d : DesignTree) (bs : List BlockTree) (c : DriverSets) (ranked : List RankedSet) →
      IsTold d bs c l.fn.game l.told → AreAnswers d bs l.fn.game l.answers → AreRanked c l.goal ranked →
      IsStates d l.game.order l.game.diagrams.table
      (MayLeave d (Answers bs) (within_rank ranked (l.count - l.passed)) l.goal) l.leaving;
  sets : (d : DesignTree) (bs : List BlockTree) (c : DriverSets) → IsTold d bs c l.fn.game l.told →
      AreAnswers d bs l.fn.game l.answers →
      AreFirstLeaving d bs c l.game l.goal l.count (l.passed + 1) l.sets.items;
}
