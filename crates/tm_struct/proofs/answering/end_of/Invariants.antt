use Rattle.std.proofs.Common.{ℕ, List}
use Rattle.tm_sem.specs.declared.state.Move.{Move}
use Rattle.tm_struct.specs.Tree.{ActionTree}
use Rattle.tm_struct.specs.View.{action_tree}
use Rattle.tm_struct.specs.Answer.{LeadsTo}
use Rattle.tm_struct.specs.Inner.Answering.{FitsAt}
use Rattle.tm_struct.proofs.answering.end_of.Given as goal

abbrev pub invariant-loop-end : goal.invariant-loop-end
invariant-loop-end l = record {
  fits : (below : ℕ) → FitsAt l.state below (action_tree l.fn.tree) → FitsAt l.state below (action_tree l.end);
  leads : (fs : List ActionTree) (m : Move) → LeadsTo fs l.state l.goal (action_tree l.end) m →
      LeadsTo fs l.state l.goal (action_tree l.fn.tree) m;
}
