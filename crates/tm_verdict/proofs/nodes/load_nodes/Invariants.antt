use Rattle.std.proofs.Common.{length}
use Rattle.tm_game.specs.Game.{Grows}
use Rattle.tm_verdict.specs.Inner.Loading.{AreFirst}
use Rattle.tm_verdict.proofs.nodes.load_nodes.Given as goal

abbrev pub invariant-loop-entry : goal.invariant-loop-entry
invariant-loop-entry l = record {
  grows : Grows l.fn.game l.game;
  first : AreFirst l.game.diagrams.table (length l.fn.game.order) l.nodes l.entry-index l.ids.items;
}
