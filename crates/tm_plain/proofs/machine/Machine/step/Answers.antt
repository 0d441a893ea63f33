use Rattle.std.proofs.Common.{subst}
use Rattle.tm_plain.specs.Machine.{IsRunnable}
use Rattle.tm_plain.proofs.Steady.{moved_valid}
use Rattle.tm_plain.proofs.machine.Machine.step.Goals as goal

pub returns-clause-valid : goal.returns-clause-valid
returns-clause-valid c =
    moved_valid c.args.self.now (subst IsRunnable c.self.view_is c.self.invariant.1) c.args.state.now c.args.action.now
    c.args.choices.now c.make_move.result c.make_move.ensures
