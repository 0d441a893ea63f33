use Rattle.std.proofs.Common.{ap, ◌∙◌}
use Rattle.tm_flat.specs.Flat.{FlatTerms}
use Rattle.tm_refine.proofs.PoolKeeps.{first_fits}
use Rattle.tm_refine.proofs.pooled_arena.PooledArena.first.Goals as goal

pub returns-clause-below : goal.returns-clause-below
returns-clause-below c =
    first_fits c.args.self.now.exact.game c.args.self.now.can c.flat.result.now c.flat.ensures

pub returns-clause-claims : goal.returns-clause-claims
returns-clause-claims c = λ d can. ap (λ (t : FlatTerms). t.first) c.flat.ensures ∙ can.pool.first
