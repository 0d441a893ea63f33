use Rattle.std.specs.Prelude.{ℕ, List, All, map}
use Rattle.std.proofs.lemmas.List.Elements.{All-contains, All-map}
use Rattle.tm_dd.specs.declared.node.NodeId.{NodeId}
use Rattle.tm_dd.specs.Table.{Table, Knows}
use Rattle.tm_game_bits.specs.Diagrams.{KnowsChanges}
use Rattle.test_game.proofs.knowing.knows_changes.Goals as goal

known_changes : (s : Table) (changes : List (ℕ × NodeId)) → All (λ p. Knows s p.1) changes → KnowsChanges s changes
known_changes s changes known id there =
    let second = λ (p : ℕ × NodeId). p.1 in
    All-contains (Knows s) (map second changes) id (All-map (Knows s) second changes known) there

pub returns : goal.returns
returns c = λ passed. known_changes c.args.dd.now.table c.args.changes.now (c.knows_each.ensures passed)
