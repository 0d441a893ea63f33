use Rattle.std.proofs.Common.{take}
use Rattle.tm_syntax.specs.Design.View.{design_tree}
use Rattle.tm_sem.specs.Play.{goal_expr}
use Rattle.tm_flat_states.specs.Conditions.{AreStated}
use Rattle.tm_flat_states.proofs.marker.Marker.goal_terms.Given as goal

abbrev pub invariant-loop-goal : goal.invariant-loop-goal
invariant-loop-goal l =
    AreStated (design_tree l.self.design.now) (goal_expr (design_tree l.self.design.now))
    (take l.goal-index l.self.design.now.goals.items) l.fn.terms l.terms l.ids.items
