use Rattle.std.proofs.Common.{is_some, ap, rules}
use Rattle.tm_syntax.specs.Grammar.Declarations.{IsParam}
use Rattle.tm_parse.proofs.Arguments.{taken_empty, taken_filled, no_arguments_opening, no_arguments_list, no_arguments_closing}
use Rattle.tm_parse.proofs.Tasks.{params_listed}
use Rattle.tm_parse.proofs.declarations.params.Goals as goal

pub returns-in-Err-clause-refused : goal.returns-in-Err-clause-refused
returns-in-Err-clause-refused c =
    no_arguments_opening (λ _. IsParam c.args.text.now) c.args.depth c.args.tokens.now _
    c.in-Err.ensures.refused

pub returns-in-Some-clause-taken : goal.returns-in-Some-clause-taken
returns-in-Some-clause-taken c =
    rw c.new.ensures.items
    (taken_empty (params_listed c.args.text.now) c.in-Some.ensures.some c.in-Ok.ensures.taken
    c.in-Some.ensures.taken)

pub returns-in-Err-listed_params-clause-refused : goal.returns-in-Err-listed_params-clause-refused
returns-in-Err-listed_params-clause-refused c =
    no_arguments_list (params_listed c.args.text.now) (c.mark.ensures.none (ap is_some c.in_default.is))
    c.in-Ok.ensures.taken _ c.in-Err-listed_params.ensures.refused

pub returns-in-Err-need-clause-refused : goal.returns-in-Err-need-clause-refused
returns-in-Err-need-clause-refused c =
    no_arguments_closing (params_listed c.args.text.now) (c.mark.ensures.none (ap is_some c.in_default.is))
    c.in-Ok.ensures.taken c.in-Ok-listed_params.ensures.taken _ c.in-Err-need.ensures.refused

pub returns-clause-taken : goal.returns-clause-taken
returns-clause-taken c =
    taken_filled (params_listed c.args.text.now) (c.mark.ensures.none (ap is_some c.in_default.is))
    c.in-Ok.ensures.taken c.in-Ok-listed_params.ensures.taken c.in-Ok-need.ensures.taken
