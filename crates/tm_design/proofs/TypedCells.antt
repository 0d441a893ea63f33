-- The cells of sound designs of texts have the types that the text says.
use Rattle.tm_syntax.specs.Design.{DesignTree}
use Rattle.tm_syntax.specs.Faults.{IsOfText, IsSound}
use Rattle.tm_typing.proofs.Sound.{checked}
use Rattle.tm_design.proofs.ParamCells.{parameters}
use Rattle.tm_design.proofs.SettledDesigns.{settled}
use Rattle.tm_design.specs.Runnable.{HasTypedCells}

pub typed_cells : (d : DesignTree) → IsSound d → IsOfText d.spec → HasTypedCells d
typed_cells d sound of =
    let all = settled d sound of in
    record {
      variables = all.variables;
      elements = all.elements;
      parameters = (parameters d (checked d sound of) sound.numbered).parameters;
    }
