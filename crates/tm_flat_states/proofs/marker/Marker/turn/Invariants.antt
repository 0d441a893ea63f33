use Rattle.std.proofs.Common.{◌+◌, length, slice_index}
use Rattle.std.specs.List.{list_any, range_with_len}
use Rattle.tm_syntax.specs.Design.Locations.{is_magic_at}
use Rattle.tm_syntax.specs.Design.View.{design_tree}
use Rattle.tm_flat_exprs.specs.Made.{MakesTruth}
use Rattle.tm_flat_states.proofs.marker.Marker.turn.Given as goal

abbrev pub invariant-loop-process : goal.invariant-loop-process
invariant-loop-process l =
    MakesTruth l.fn.terms l.terms l.turn (λ u v. list_any
    (λ p. is_magic_at (design_tree l.self.design.now) p (slice_index v (length l.self.design.now.vars.items + p)))
    (range_with_len 0 l.process))
