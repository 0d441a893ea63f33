use Rattle.std.proofs.Common.{◌≡◌, ℕ, ◌+◌, ◌<◌, ◌≤◌, length}
use Rattle.std.specs.Prelude.{Contains}
use Rattle.tm_strat.specs.declared.predicates.Predicate.{Predicate}
use Rattle.tm_strat.specs.declared.predicates.Predicate.TheVariants.{Bit}
use Rattle.tm_strat.proofs.tests.push_bits.Given as goal

abbrev pub invariant-loop-passed : goal.invariant-loop-passed
invariant-loop-passed l = record {
  stay : (p : Predicate) → Contains l.fn.found.items p → Contains l.found.items p;
  bits : (weight : ℕ) → weight < l.width → l.width ≤ weight + l.passed →
      Contains l.found.items (Bit l.number weight);
  within : l.passed ≤ l.width;
  count_is : length l.found.items ≡ length l.fn.found.items + l.passed;
}
