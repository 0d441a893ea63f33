use Rattle.std.proofs.Common.{map}
use Rattle.std.specs.Prelude.{All}
use Rattle.std.specs.List.{AllZip, range_with_len}
use Rattle.tm_syntax.specs.Design.View.{design_tree}
use Rattle.tm_flat.specs.IsFlat.{AreWidths}
use Rattle.tm_flat_states.specs.Parameters.{AreNarrow}
use Rattle.tm_flat_states.proofs.marker.Marker.parameters.Given as goal

abbrev pub invariant-loop-number : goal.invariant-loop-number
invariant-loop-number l = record {
  widths : AllZip (AreWidths (design_tree l.self.design.now)) (range_with_len 0 l.number)
      (map (λ widths. widths.items) l.all.items);
  narrow : All AreNarrow (map (λ widths. widths.items) l.all.items);
}
