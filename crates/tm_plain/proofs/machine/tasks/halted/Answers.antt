use Rattle.std.proofs.Common.{subst}
use Rattle.tm_plain.specs.Ends.{HaltsSo}
use Rattle.tm_plain.proofs.Ending.{call_blocks, call_fails, call_stops}
use Rattle.tm_plain.proofs.machine.tasks.halted.Goals as goal

pub returns-in-Stopped : goal.returns-in-Stopped
returns-in-Stopped c = λ d items m choices counted halts.
    call_stops d c.args.state.now items m choices c.args.course.now counted c.in-Stopped.field-0
    (subst (HaltsSo d items m choices c.args.course.now) c.in-Stopped.is halts) c.driven.result (c.driven.ensures d)

pub returns-in-Failed : goal.returns-in-Failed
returns-in-Failed c = λ d items m choices counted halts.
    call_fails d c.args.state.now items m choices c.args.course.now counted
    (subst (HaltsSo d items m choices c.args.course.now) c.in-Failed.is halts)

pub returns-in-Blocked : goal.returns-in-Blocked
returns-in-Blocked c = λ d items m choices counted halts.
    call_blocks d c.args.state.now items m choices c.args.course.now counted
    (subst (HaltsSo d items m choices c.args.course.now) c.in-Blocked.is halts)
