use Rattle.std.proofs.Common.{ℕ, ◌+◌, ap, ◌∙◌}
use Rattle.tm_cparse.specs.View.{token_tree, tokens_of}
use Rattle.tm_cparse.proofs.NameSteps.{closed_at_once, counted}
use Rattle.tm_cparse.proofs.names.argument_count.Goals as goal

pub returns-in-Some-taken : goal.returns-in-Some-taken
returns-in-Some-taken c = λ args rest is.
    closed_at_once args (tokens_of c.args.spots.now) (tokens_of c.in-Some.behind.now)
    (tokens_of c.in-Some-taken.field-0.now) rest (token_tree c.in-Some.field-0-0) c.in-Some.ensures.whole
    c.in-Some-taken.ensures.whole is

pub returns-in-None : goal.returns-in-None
returns-in-None c = λ args rest is.
    ap (λ (n : ℕ). n + 1) c.comma_count.ensures.is
    ∙ counted args (tokens_of c.args.spots.now) (tokens_of c.in-Some.behind.now) rest (token_tree c.in-Some.field-0-0)
    c.in-Some.ensures.whole c.in-None.ensures.whole is
