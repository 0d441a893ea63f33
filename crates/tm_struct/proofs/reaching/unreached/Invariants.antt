use Rattle.std.proofs.Common.{◌≡◌, ◌-◌, ◌∷◌, replicate}
use Rattle.tm_struct.specs.declared.reaching.Reach.TheVariants.{Never, Once}
use Rattle.tm_struct.proofs.reaching.unreached.Given as goal

abbrev pub invariant-loop-at : goal.invariant-loop-at
invariant-loop-at l = l.reaches.items ≡ Once 0 ∷ replicate (l._at - 1) Never
