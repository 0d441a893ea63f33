use Rattle.std.proofs.lemmas.Result.{IfOk-weaker}
use Rattle.tm_refine.proofs.SidedSteps.{part_sided}
use Rattle.tm_refine.proofs.sided.SidedPre.part.Goals as goal

pub returns-clause-value : goal.returns-clause-value
returns-clause-value g c =
    IfOk-weaker c.side.result _ _ (λ id made.
    part_sided c.args.self.now.upper c.args.self.now.tracked.items c.as_slice.result.now
    (g.A.Arena.tests c.args.self.now.arena) (g.A.Arena.tests c.part.new.self) (g.A.Arena.tests c.side.new.self)
    (g.A.Arena.game c.args.self.now.arena) (g.A.Arena.game c.part.new.self) (g.A.Arena.game c.side.new.self)
    (g.A.Arena.ids c.part.new.self) (g.A.Arena.ids c.side.new.self) c.in_ok-exact.exact id _ c.part.ensures.tests
    c.side.ensures.tests c.part.ensures.follows.game c.side.ensures.follows.game c.as_slice.ensures.value
    c.in_ok-exact.ensures.value made) c.side.ensures.value
