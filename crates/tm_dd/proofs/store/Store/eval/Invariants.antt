use Rattle.std.proofs.Common.{◌≡◌}
use Rattle.tm_dd.specs.NodeId.{number_of}
use Rattle.tm_dd.specs.Table.{assignment, Knows, means}
use Rattle.tm_dd.proofs.store.Store.eval.Given as goal

abbrev pub invariant-loop-rest : goal.invariant-loop-rest
invariant-loop-rest l = record {
  known : Knows l.self l.rest;
  same : means l.self l.rest (assignment l.values) ≡ means l.self l.fn.id (assignment l.values);
}

abbrev pub decreases-loop-rest : goal.decreases-loop-rest
decreases-loop-rest l = number_of l.rest
