use Rattle.std.proofs.Common.{rules}
use Rattle.tm_cparse.specs.Inner.Parts.{opens_complement, opens_negation, opens_first}
use Rattle.tm_cparse.proofs.expression.opening.Goals as goal
use Rattle.tm_cparse.proofs.expression.opening.Goals.{then-eq+in_default-taken, else-eq}

pub returns-in-Some-clause-opens : goal.returns-in-Some-clause-opens
returns-in-Some-clause-opens c = opens_complement c.in-Some.ensures.whole

pub returns-in-Some-taken-clause-opens : goal.returns-in-Some-taken-clause-opens
returns-in-Some-taken-clause-opens c = opens_negation (search rules) c.in-Some-taken.ensures.whole

pub returns-clause-opens : goal.returns-clause-opens
returns-clause-opens c =
    elim c.if-eq.branch [
      | then-eq+in_default-taken w ↦ opens_first c.in_default.ensures.whole (λ wants. w.in_default-taken.ensures.whole)
      | else-eq w ↦ opens_first c.in_default.ensures.whole (λ wants e. search rules)
    ]
