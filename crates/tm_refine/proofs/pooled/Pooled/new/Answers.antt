use Rattle.tm_refine.proofs.PoolKeeps.{hint_none}
use Rattle.tm_refine.proofs.pooled.Pooled.new.Goals as goal

pub invariant_of-result : goal.invariant_of-result
invariant_of-result c = record {
  can = ∣ (c.requires.can.0, c.requires.can.1) ∣₁;
  hint_known = hint_none c.args.exact.game;
  remembers = ∣ c.new.ensures c.args.exact.game ∣₁;
}
