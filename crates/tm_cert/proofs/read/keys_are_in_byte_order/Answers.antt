use Rattle.tm_cert.proofs.KeyOrders.{read-in_order}
use Rattle.tm_cert.proofs.read.keys_are_in_byte_order.Goals as goal

pub returns : goal.returns
returns c text d is = read-in_order text d is
