use Rattle.std.proofs.Common.{◌≡◌, ℕ, ◌+◌, ◌<◌, ◌≤◌, length, get_or}
use Rattle.tm_dd.specs.declared.node.NodeId.{NodeId}
use Rattle.tm_game.proofs.restore.put_changes.Given as goal

abbrev pub invariant-loop-change : goal.invariant-loop-change
invariant-loop-change l = record {
  long : length l.change-items ≡ length l.fn.changes.items;
  behind : l.behind ≡ l.at + l.change-index;
  levels : (k : ℕ) (d : ℕ × NodeId) → k < l.change-index →
      (get_or l.change-items k d).0 ≡ (get_or l.fn.changes.items k d).0;
  ids : (k : ℕ) (d : ℕ × NodeId) → k < l.change-index → (get_or l.change-items k d).1 ≡ get_or l.ids (l.at + k) d.1;
  left : (k : ℕ) (d : ℕ × NodeId) → l.change-index ≤ k → get_or l.change-items k d ≡ get_or l.fn.changes.items k d;
}
