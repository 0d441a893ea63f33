use Rattle.tm_flat.proofs.InOrder.{are_in_order}
use Rattle.tm_flat.proofs.inputs_are_in_order.Goals as goal

pub returns : goal.returns
returns c = are_in_order
