use Rattle.std.proofs.Common.{rules}
use Rattle.tm_cparse.specs.declared.statement.TheConstants.{LEAVE}
use Rattle.tm_cparse.specs.View.{tokens_of}
use Rattle.tm_cparse.proofs.Rows.{refused_row}
use Rattle.tm_cparse.proofs.Statements.{leave_of, leave_refused}
use Rattle.tm_cparse.proofs.statement.leave.Goals as goal

pub returns-in_err-processes-clause-refused : goal.returns-in_err-processes-clause-refused
returns-in_err-processes-clause-refused c =
    let h = leave_refused (tokens_of c.args.spots.now) _
    (refused_row LEAVE leave_of (tokens_of c.args.spots.now) _ c.in_err-processes.ensures.refused) in
    search rules
