use Rattle.std.proofs.Common.{subst}
use Rattle.tm_plain.specs.Ends.{Leads}
use Rattle.tm_plain.proofs.Ending.{call_ends, call_leaves_choices, none_left_over, one_left_over}
use Rattle.tm_plain.proofs.machine.tasks.called_outcome.Goals as goal

pub returns-then-is_empty : goal.returns-then-is_empty
returns-then-is_empty c = λ d items m choices counted leads.
    call_ends d c.args.state.now items m choices c.args.course.now counted c.in_default.field-0
    (subst (Leads d items m choices c.args.course.now) c.in_default.is leads)
    (none_left_over c.is_empty.result c.args.course.now.choices c.is_empty.ensures c.if-is_empty.true)
    c.driven.result (c.driven.ensures d)

pub returns-else-is_empty : goal.returns-else-is_empty
returns-else-is_empty c = λ d items m choices counted leads.
    call_leaves_choices d c.args.state.now items m choices c.args.course.now counted c.in_default.field-0
    (subst (Leads d items m choices c.args.course.now) c.in_default.is leads)
    (one_left_over c.is_empty.result c.args.course.now.choices c.is_empty.ensures c.if-is_empty.false)
