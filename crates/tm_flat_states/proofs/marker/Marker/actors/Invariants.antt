use Rattle.std.proofs.Common.{◌∷◌, map}
use Rattle.std.specs.List.{AllZip, filter, range_with_len}
use Rattle.tm_syntax.specs.Design.View.{design_tree}
use Rattle.tm_sem.specs.Fairness.{is_owed, of_driver, of_process}
use Rattle.tm_flat_states.specs.Actors.{IsConditionTerm}
use Rattle.tm_flat_states.specs.Marks.{MakesSuch}
use Rattle.tm_flat_states.proofs.marker.Marker.actors.Given as goal

abbrev pub invariant-loop-process : goal.invariant-loop-process
invariant-loop-process l =
    MakesSuch l.fn.terms l.terms (λ u ids. AllZip (IsConditionTerm u (design_tree l.self.design.now))
    (of_driver ∷ map of_process (filter (is_owed (design_tree l.self.design.now)) (range_with_len 0 l.process))) ids)
    l.ids.items
