use Rattle.std.proofs.Common.{rules}
use Rattle.tm_cparse.specs.View.{tokens_of}
use Rattle.tm_cparse.proofs.Statements.{idle_read, idle_refused}
use Rattle.tm_cparse.proofs.statement.idle.Goals as goal

pub returns-in_err-rest-clause-refused : goal.returns-in_err-rest-clause-refused
returns-in_err-rest-clause-refused c =
    let h = idle_refused c.args.spots.now _ c.in_err-rest.ensures.refused in search rules

pub returns-clause-taken : goal.returns-clause-taken
returns-clause-taken c =
    idle_read (tokens_of c.args.spots.now) (tokens_of c.in_ok-rest.rest.now) c.in_ok-rest.ensures.taken
