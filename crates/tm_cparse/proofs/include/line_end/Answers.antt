use Rattle.tm_cparse.proofs.Fronts.{ends_here, ends_there}
use Rattle.tm_cparse.proofs.include.line_end.Goals as goal

pub returns-then-first-eq10 : goal.returns-then-first-eq10
returns-then-first-eq10 c =
    ends_here c.args.text.now c.in_ok-first.behind.now c.in_ok-first.first.now c.in_ok-first.ensures.cases.0
    c.if-first-eq10.true

pub returns-then-second-eq10 : goal.returns-then-second-eq10
returns-then-second-eq10 c =
    ends_there c.args.text.now c.in_ok-first.behind.now c.in_ok-second.behind.now c.in_ok-first.first.now
    c.in_ok-second.second.now c.in_ok-first.ensures.cases.0 c.in_ok-second.ensures.cases.0
    c.if-first-eq13.true c.if-second-eq10.true
