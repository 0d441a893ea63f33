use Rattle.std.proofs.Common.{sym, subst}
use Rattle.tm_syntax.specs.Design.View.{design_tree}
use Rattle.tm_struct_parse.specs.declared.names.TokenPlace.{TokenPlace}
use Rattle.tm_struct_parse.proofs.NameSteps.{IsSoFar, goes_on, step_few}
use Rattle.tm_struct_parse.proofs.names.fault_within.Goals as goal

pub loop-first-preserved : goal.loop-first-preserved
loop-first-preserved c = (
  subst
      (λ (p : TokenPlace).
      IsSoFar (design_tree c.args.design.now) c.args.count c.args.spots.now p c.in-Some.behind.now)
      (sym c.place_behind-place.ensures)
      (goes_on (design_tree c.args.design.now) c.args.count c.args.spots.now c.loop-first.place c.loop-first.rest.now
      c.in-Some.behind.now c.in-Some.first.now c.loop-first.invariant.0 c.in-Some.ensures.cases.0
      c.in_default-fault_at.ensures),
  step_few c.args.spots.now c.loop-first.rest.now c.in-Some.behind.now c.in-Some.first.now c.loop-first.place
      c.place_behind-place.result c.in-Some.ensures.cases.0 c.place_behind-place.ensures c.loop-first.invariant.1,
)
