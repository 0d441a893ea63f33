use Rattle.std.proofs.Common.{rules}
use Rattle.tm_cir.specs.View.{truth_tree}
use Rattle.tm_cparse.specs.declared.statement.TheConstants.{BRANCHES}
use Rattle.tm_cparse.specs.View.{tokens_of}
use Rattle.tm_cparse.proofs.Rows.{refused_row}
use Rattle.tm_cparse.proofs.Statements.{test_of, if_refused, condition_refused, branches_refused}
use Rattle.tm_cparse.proofs.statement.test.Goals as goal

pub returns-in_err-rest-clause-refused : goal.returns-in_err-rest-clause-refused
returns-in_err-rest-clause-refused c =
    let h = if_refused c.args.spots.now _ c.in_err-rest.ensures.refused in search rules

pub returns-in_err-truth-clause-refused : goal.returns-in_err-truth-clause-refused
returns-in_err-truth-clause-refused c =
    let h = condition_refused (tokens_of c.args.spots.now) (tokens_of c.in_ok-rest.rest.now) _
    c.in_ok-rest.ensures.taken c.in_err-truth.ensures.refused in
    search rules

pub returns-in-Err-clause-refused : goal.returns-in-Err-clause-refused
returns-in-Err-clause-refused c =
    let h = branches_refused (truth_tree c.in_ok-truth.truth) (tokens_of c.args.spots.now)
    (tokens_of c.in_ok-rest.rest.now) (tokens_of c.in_ok-truth.rest.now) _ c.in_ok-rest.ensures.taken
    c.in_ok-truth.ensures.taken
    (refused_row BRANCHES (test_of (truth_tree c.in_ok-truth.truth)) (tokens_of c.in_ok-truth.rest.now) _
    c.in-Err.ensures.refused) in
    search rules
