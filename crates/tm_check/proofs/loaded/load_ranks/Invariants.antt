use Rattle.std.proofs.Common.{List, map}
use Rattle.tm_cert.specs.declared.cert.Entry.{Entry}
use Rattle.tm_check.specs.Loaded.{IsLoadedIn}
use Rattle.tm_check.proofs.Ranking.{AreFirstRanks}
use Rattle.tm_game.specs.Game.{Grows}
use Rattle.tm_verdict.specs.Sets.{ranked_set}
use Rattle.tm_syntax.specs.Design.{DesignTree}
use Rattle.tm_check.proofs.loaded.load_ranks.Given as goal

abbrev pub invariant-loop-rank : goal.invariant-loop-rank
invariant-loop-rank l = record {
  grows : Grows l.fn.game l.game;
  ranks : (d : DesignTree) (nodes : List Entry) → IsLoadedIn d l.fn.game nodes l.ids → AreFirstRanks d l.game
      (map (ranked_set d l.fn.game.order nodes) l.ranks) l.rank-index l.told.items l.before;
}
