use Rattle.std.proofs.Common.{◌≡◌, ℕ, List, Some, length}
use Rattle.std.specs.Prelude.{slice_get}
use Rattle.tm_envcheck.specs.Inner.Over.{chains_in}
use Rattle.tm_envcheck.specs.Inner.Told.{TellsLevel, chain_told}
use Rattle.tm_envcheck.specs.Verdict.{CanCheck}
use Rattle.tm_game.specs.Game.{Grows, IsSet}
use Rattle.tm_game.specs.Least.{test_of}
use Rattle.tm_sem.specs.Certificates.{Level, set_before}
use Rattle.tm_syntax.specs.Design.{DesignTree}
use Rattle.tm_verdict.specs.Environment.{level_meaning, set_parts}
use Rattle.tm_verdict.specs.Tried.{AreTriedTo}
use Rattle.tm_envcheck.proofs.chains.over_sets.Given as goal

abbrev pub invariant-loop-set : goal.invariant-loop-set
invariant-loop-set l = record {
  grows : Grows l.fn.game l.game;
  before : IsSet l.fn.game l.before;
  lower : (d : DesignTree) →
      set_before (chain_told d l.fn.game l.chain) l.set-index ≡ test_of d l.fn.game l.before;
  tried : (d : DesignTree) (of : List Level) (k i : ℕ) → CanCheck d l.fn.game → TellsLevel d l.fn.game of k l.level →
      slice_get (chains_in l.level) i ≡ Some l.chain →
      AreTriedTo (level_meaning d of) (set_parts k i) (length l.chain) l.set-index;
}
