use Rattle.tm_flat_design.proofs.FitsAlike.{items_alike}
use Rattle.tm_flat_design.proofs.walkable_laws.designs_of_one_text_fit_alike.Goals as goal

pub returns : goal.returns
returns c = λ d e text instances vars room items k fits. items_alike d e text instances vars room items k fits
