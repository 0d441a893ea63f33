use Rattle.std.proofs.Common.{rules}
use Rattle.tm_cparse.specs.View.{tokens_of}
use Rattle.tm_cparse.proofs.Blocks.{label_refused, statement_refused}
use Rattle.tm_cparse.proofs.statement.block.Goals as goal

pub returns-in_err-labels-clause-refused : goal.returns-in_err-labels-clause-refused
returns-in_err-labels-clause-refused c =
    let h = label_refused (tokens_of c.args.spots.now) _ c.in_err-labels.ensures.refused in search rules

pub returns-in_err-statement-clause-refused : goal.returns-in_err-statement-clause-refused
returns-in_err-statement-clause-refused c =
    let h = statement_refused c.in_ok-labels.labels.items (tokens_of c.args.spots.now)
    (tokens_of c.in_ok-labels.rest.now) _ c.in_ok-labels.ensures.taken c.in_err-statement.ensures.refused in
    search rules
