use Rattle.std.proofs.Common.{sym, subst}
use Rattle.tm_refine.specs.Pooled.{CanDecide}
use Rattle.tm_syntax.specs.Design.View.{design_tree}
use Rattle.bench.proofs.refining.refined.Goals as goal

pub new-pooled-requires : goal.new-pooled-requires
new-pooled-requires c = record { can = (design_tree c.args.design.now, c.in_ok-exact.ensures) }

pub decide-requires : goal.decide-requires
decide-requires c =
    let d = design_tree c.args.design.now in
    record { of = (d, subst (CanDecide d) (sym c.new-pooled.ensures.game) c.in_ok-exact.ensures) }
