use Rattle.std.proofs.Common.{List}
use Rattle.tm_check.specs.Leaving.{AreLeaving, IsBreakingBelow}
use Rattle.tm_check.specs.Told.{IsTold}
use Rattle.tm_cir.specs.Tree.{BlockTree}
use Rattle.tm_dd.specs.Table.{Knows}
use Rattle.tm_game.specs.Game.{Grows, IsStates}
use Rattle.tm_sem.specs.Certificates.{DriverSets}
use Rattle.tm_syntax.specs.Design.{DesignTree}
use Rattle.tm_verdict.specs.Found.{Awaits}
use Rattle.tm_check.proofs.steps.goal_descending.Given as goal

abbrev pub invariant-loop-index : goal.invariant-loop-index
invariant-loop-index l = record {
  grows : Grows l.fn.game l.game;
  known : Knows l.game.diagrams.table l.failing;
  awaits : (d : DesignTree) (bs : List BlockTree) (c : DriverSets) → IsTold d bs c l.fn.game l.told →
      IsStates d l.game.order l.game.diagrams.table (Awaits d c l.goal) l.awaiting;
  states : (d : DesignTree) (bs : List BlockTree) (c : DriverSets) → IsTold d bs c l.fn.game l.told →
      AreLeaving d bs c l.fn.game l.leaving →
      IsStates d l.game.order l.game.diagrams.table (IsBreakingBelow d bs c l.descent l.goal l.index) l.failing;
}
