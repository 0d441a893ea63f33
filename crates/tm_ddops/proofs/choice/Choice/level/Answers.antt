use Rattle.std.proofs.Common.{◌∙◌}
use Rattle.tm_ddops.specs.Choice.{upper}
use Rattle.tm_ddops.proofs.choice.Choice.level.Goals as goal

pub returns-clause-value : goal.returns-clause-value
returns-clause-value c =
    c.upper.ensures.value
    ∙ (λ i. upper c.args.store.now (c.level-3.ensures.value i)
    ((c.upper-branch.ensures.value
    ∙ (λ j. upper c.args.store.now (c.level.ensures.value j) (c.level-2.ensures.value j))) i))
