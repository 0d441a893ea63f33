use Rattle.std.proofs.Common.{length, ap}
use Rattle.tm_solve_exact.proofs.exact.Exact.new.Goals as goal

pub invariant_of-result : goal.invariant_of-result
invariant_of-result c = record {
  of = ∣ (c.requires.of.0, c.tell.ensures c.requires.of.0 c.requires.of.1) ∣₁;
  goal_count = ap length c.goals.ensures.value;
  fair_count = ap length c.fairs.ensures.value;
}
