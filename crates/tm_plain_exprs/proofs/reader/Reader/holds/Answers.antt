use Rattle.tm_syntax.specs.Tree.View.{expr_tree}
use Rattle.tm_plain_exprs.proofs.Leaves.{truth_holds}
use Rattle.tm_plain_exprs.proofs.Stops.{on_err}
use Rattle.tm_plain_exprs.proofs.reader.Reader.holds.Goals as goal

pub returns-clause-holds : goal.returns-clause-holds
returns-clause-holds c =
    truth_holds c.args.self.now c.args.store.now (expr_tree c.args.e.now) c.in_ok-value.value
    c.in_ok-value.ensures.value

pub returns-in_err-value-clause-overrun : goal.returns-in_err-value-clause-overrun
returns-in_err-value-clause-overrun c = on_err c.from_residual.result c.in_err-value.ensures.overrun
