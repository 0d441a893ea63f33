use Rattle.std.proofs.Common.{rules}
use Rattle.tm_cparse.proofs.Fronts.{alike_behind}
use Rattle.tm_cparse.proofs.include.behind_spaces.Goals as goal

pub loop-first-preserved : goal.loop-first-preserved
loop-first-preserved c =
    alike_behind c.args.text.now c.loop-first.rest.now c.in-Some.behind.now c.in-Some.first.now c.loop-first.invariant
    c.in-Some.ensures.cases.0 (search rules)
