use Rattle.std.proofs.Common.{◌<◌, ◌≤◌, true, false, arith}
use Rattle.tm_refine.proofs.NarrowSteps.{chosen_at, cut_within, spent_at}
use Rattle.tm_refine.proofs.deciding.finish.Goals as goal

pub returns-then-allowed-best-clause-decided : goal.returns-then-allowed-best-clause-decided
returns-then-allowed-best-clause-decided g c = λ d tracked claims other s best.
    let less : c.in-Some.allowed < c.args.best.count = let t = c.if-allowed-best.true in omega arith in
    spent_at d c.args.first c.args.added.items c.args.sided.now.upper other
    (g.A.Arena.ids c.args.sided.now.arena) c.args.best.it c.args.best.count best tracked s claims c.in-Some.allowed less
    c.truncate.new.self c.truncate.ensures.items c.args.budget c.in-Some.is

pub returns-then-sided-clause-decided : goal.returns-then-sided-clause-decided
returns-then-sided-clause-decided g c = λ d tracked claims other s best.
    chosen_at d c.args.first c.args.added.items c.args.sided.now.upper other
    (g.A.Arena.ids c.args.sided.now.arena) c.args.best.it c.args.best.count best tracked s claims c.truncate-2.new.self
    c.truncate-2.ensures.items true c.if-sided.true

pub returns-clause-decided : goal.returns-clause-decided
returns-clause-decided g c = λ d tracked claims other s best.
    chosen_at d c.args.first c.args.added.items c.args.sided.now.upper other
    (g.A.Arena.ids c.args.sided.now.arena) c.args.best.it c.args.best.count best tracked s claims c.truncate-2.new.self
    c.truncate-2.ensures.items false c.if-sided.false

pub returns-then-allowed-best-clause-within : goal.returns-then-allowed-best-clause-within
returns-then-allowed-best-clause-within g c =
    let same : c.in-Some.allowed ≤ c.in-Some.allowed = omega arith in
    cut_within c.in-Some.allowed c.in-Some.allowed same c.args.first c.args.added.items c.truncate.new.self
    c.truncate.ensures.items c.args.budget c.in-Some.is
