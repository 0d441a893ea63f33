use Rattle.tm_sem.proofs.StateOrder.{one_way, worked_order}
use Rattle.tm_sem.proofs.state_bits_are_ordered.Goals as goal

pub returns-clause-one_way : goal.returns-clause-one_way
returns-clause-one_way c = one_way

pub returns-clause-weights : goal.returns-clause-weights
returns-clause-weights c = worked_order
