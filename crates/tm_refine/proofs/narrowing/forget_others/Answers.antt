use Rattle.std.proofs.Common.{refl}
use Rattle.tm_refine.proofs.narrowing.forget_others.Goals as goal

pub returns-then-is_full-clause-carried : goal.returns-then-is_full-clause-carried
returns-then-is_full-clause-carried g c = λ d predicates of before.
    c.all_states.ensures d predicates (c.forget.ensures.designs d of)

pub returns-clause-value : goal.returns-clause-value
returns-clause-value g c = record { known = c.requires.known; means = record { same = λ s among. refl } }

pub returns-clause-carried : goal.returns-clause-carried
returns-clause-carried g c = λ d predicates of before. before
