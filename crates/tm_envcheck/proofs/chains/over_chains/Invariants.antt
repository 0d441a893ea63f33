use Rattle.std.proofs.Common.{ℕ, List, length}
use Rattle.tm_envcheck.specs.Inner.Over.{chains_in}
use Rattle.tm_envcheck.specs.Inner.Parts.{RestsOnChain, chain_parts_at}
use Rattle.tm_envcheck.specs.Inner.Told.{TellsLevel}
use Rattle.tm_envcheck.specs.Verdict.{CanCheck}
use Rattle.tm_game.specs.Game.{Grows}
use Rattle.tm_sem.specs.Certificates.{Level}
use Rattle.tm_syntax.specs.Design.{DesignTree}
use Rattle.tm_verdict.specs.Environment.{level_meaning}
use Rattle.tm_verdict.specs.Tried.{AreTriedTo}
use Rattle.tm_envcheck.proofs.chains.over_chains.Given as goal

abbrev pub invariant-loop-fair : goal.invariant-loop-fair
invariant-loop-fair l = record {
  grows : Grows l.fn.game l.game;
  tried : (d : DesignTree) (of : List Level) (k : ℕ) → CanCheck d l.fn.game → TellsLevel d l.fn.game of k l.level →
      ((i : ℕ) → RestsOnChain d of l.tried k i) →
      AreTriedTo (level_meaning d of) (chain_parts_at l.tried of k) (length (chains_in l.level)) l.fair;
}
