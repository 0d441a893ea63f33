use Rattle.std.proofs.Common.{ℕ, All, take}
use Rattle.tm_dd.specs.declared.node.NodeId.{NodeId}
use Rattle.tm_dd.specs.Table.{Knows}
use Rattle.test_game.proofs.knowing.knows_each.Given as goal

abbrev pub invariant-loop-change : goal.invariant-loop-change
invariant-loop-change l = All (λ (p : ℕ × NodeId). Knows l.dd.table p.1) (take l.change-index l.changes)
