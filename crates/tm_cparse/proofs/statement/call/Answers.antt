use Rattle.std.proofs.Common.{rules, map}
use Rattle.tm_cir.specs.Tree.{call}
use Rattle.tm_cir.specs.View.{num_tree}
use Rattle.tm_cparse.specs.declared.statement.TheConstants.{END}
use Rattle.tm_cparse.specs.View.{tokens_of}
use Rattle.tm_cparse.proofs.Rows.{refused_row}
use Rattle.tm_cparse.proofs.Calls.{call_refused, arguments_stop, end_refused}
use Rattle.tm_cparse.proofs.statement.call.Goals as goal

pub returns-in_err-rest-clause-refused : goal.returns-in_err-rest-clause-refused
returns-in_err-rest-clause-refused c =
    let h = call_refused c.args.number c.args.spots.now _ c.in_err-rest.ensures.refused in search rules

pub returns-in_err-args-clause-refused : goal.returns-in_err-args-clause-refused
returns-in_err-args-clause-refused c =
    let h = arguments_stop c.args.number (tokens_of c.args.spots.now) (tokens_of c.in_ok-rest.rest.now) _
    c.in_ok-rest.ensures.taken c.in_err-args.ensures.refused in
    search rules

pub returns-in_err-rest-2-clause-refused : goal.returns-in_err-rest-2-clause-refused
returns-in_err-rest-2-clause-refused c =
    let h = end_refused c.args.number (map num_tree c.in_ok-args.args.items) (tokens_of c.args.spots.now)
    (tokens_of c.in_ok-rest.rest.now) (tokens_of c.in_ok-args.rest.now) _ c.in_ok-rest.ensures.taken
    c.in_ok-args.ensures.taken
    (refused_row END (λ ns. call c.args.number (map num_tree c.in_ok-args.args.items))
    (tokens_of c.in_ok-args.rest.now) _ c.in_err-rest-2.ensures.refused) in
    search rules
