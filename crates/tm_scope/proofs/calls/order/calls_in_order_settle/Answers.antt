use Rattle.std.proofs.Common.{suc, arith}
use Rattle.tm_scope.proofs.CallOrders.{settled_crosses, settled_pauses}
use Rattle.tm_scope.proofs.calls.order.calls_in_order_settle.Goals as goal

pub returns : goal.returns
returns c = record {
  pauses = λ spec order ordered k d e m t deep deeper at is.
      settled_pauses spec order ordered (suc k) k d e m t (omega arith) deep deeper at is;
  crosses = λ spec order ordered k d e m t deep deeper at is.
      settled_crosses spec order ordered (suc k) k d e m t (omega arith) deep deeper at is;
}
