-- What a design has that a machine runs.
use Rattle.tm_syntax.specs.declared.design.Design.{Design}
use Rattle.tm_syntax.specs.Design.View.{design_tree}
use Rattle.tm_design.specs.Runnable.{HasFewPlaces, HasSizedCalls, HasTypedCells}
use Rattle.tm_design.proofs.FewPlaces.{few_places}
use Rattle.tm_design.proofs.SizedCalls.{sized_calls}
use Rattle.tm_design.proofs.TypedCells as runnable
use Rattle.tm_plain.specs.Machine.{IsRunnable}

module _ (d : Design) (h : IsRunnable d) where
  pub typed_cells : HasTypedCells (design_tree d)
  typed_cells = runnable.typed_cells (design_tree d) h.sound h.read

  pub places_are_few : HasFewPlaces (design_tree d)
  places_are_few = few_places (design_tree d) h.sound h.read

  pub calls_are_sized : HasSizedCalls (design_tree d)
  calls_are_sized = sized_calls (design_tree d) h.sound h.read
