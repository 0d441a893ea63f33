-- Sound designs of texts have what their runs ask for.
use Rattle.tm_syntax.specs.Design.{DesignTree}
use Rattle.tm_syntax.specs.Faults.{IsOfText, IsSound}
use Rattle.tm_design.specs.Runnable.{IsFit}
use Rattle.tm_design.proofs.FewPlaces.{few_places}
use Rattle.tm_design.proofs.SizedCalls.{sized_calls}
use Rattle.tm_design.proofs.TypedCells.{typed_cells}

pub fit_design : (d : DesignTree) → IsSound d → IsOfText d.spec → IsFit d
fit_design d sound of = record {
  typed = typed_cells d sound of;
  few = few_places d sound of;
  sized = sized_calls d sound of;
}
