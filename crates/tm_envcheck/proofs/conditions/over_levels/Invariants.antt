use Rattle.std.proofs.Common.{ℕ, List, length}
use Rattle.tm_envcheck.specs.Inner.Parts.{Rests, parts_at}
use Rattle.tm_envcheck.specs.Inner.Told.{TellLevels}
use Rattle.tm_envcheck.specs.Verdict.{CanCheck}
use Rattle.tm_game.specs.Game.{Grows}
use Rattle.tm_sem.specs.Certificates.{Level}
use Rattle.tm_syntax.specs.Design.{DesignTree}
use Rattle.tm_verdict.specs.Environment.{level_meaning}
use Rattle.tm_verdict.specs.Tried.{AreTriedTo}
use Rattle.tm_envcheck.proofs.conditions.over_levels.Given as goal

abbrev pub invariant-loop-level : goal.invariant-loop-level
invariant-loop-level l = record {
  grows : Grows l.fn.game l.game;
  tried : (d : DesignTree) (of : List Level) → CanCheck d l.fn.game → TellLevels d l.fn.game of l.levels →
      ((k : ℕ) → Rests d of l.tried k) →
      AreTriedTo (level_meaning d of) (parts_at l.tried of) (length of) l.level-index;
}
