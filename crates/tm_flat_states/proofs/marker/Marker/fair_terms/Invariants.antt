use Rattle.std.proofs.Common.{take}
use Rattle.tm_syntax.specs.Design.View.{design_tree}
use Rattle.tm_sem.specs.Fairness.{fair_expr}
use Rattle.tm_flat_states.specs.Conditions.{AreStated}
use Rattle.tm_flat_states.proofs.marker.Marker.fair_terms.Given as goal

abbrev pub invariant-loop-fair : goal.invariant-loop-fair
invariant-loop-fair l =
    AreStated (design_tree l.self.design.now) (fair_expr (design_tree l.self.design.now))
    (take l.fair-index l.self.design.now.fairs.items) l.fn.terms l.terms l.ids.items
