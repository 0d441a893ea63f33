use Rattle.std.proofs.Common.{rules, arith, Option, None, Some, option_map, List, sym, subst}
use Rattle.tm_cir.specs.declared.block.Truth.{Truth}
use Rattle.tm_cir.specs.View.{truth_tree}
use Rattle.tm_cparse.specs.declared.part.Part.{Part}
use Rattle.tm_cparse.specs.View.{tokens_of}
use Rattle.tm_cparse.specs.Inner.Parts.{part_trees}
use Rattle.tm_cparse.proofs.Loop.{SoFar, cost_small, so_far_begins, so_far_then}
use Rattle.tm_cparse.proofs.Readings.{refused_behind, expression_read, expression_stops}
use Rattle.tm_cparse.proofs.expression.expression.Goals as goal
use Rattle.tm_cparse.proofs.expression.expression.Goals.{in-None+in_ok-step-in-None, in-Some+in-Some-pop+in_ok-step-in-Some-pop}

pub loop-operand-init : goal.loop-operand-init
loop-operand-init c = (
  subst
      (λ (l : List Part).
      SoFar c.args.sort (tokens_of c.args.spots.now) (part_trees l) None (tokens_of c.args.spots.now))
      (sym c.new-parts.ensures) (so_far_begins c.args.sort (tokens_of c.args.spots.now)),
  omega arith,
)

pub loop-operand-preserved : goal.loop-operand-preserved
loop-operand-preserved c =
    elim c.match-operand.branch [
      | in-None+in_ok-step-in-None w ↦
          let so_far = subst
          (λ (o : Option Truth).
          SoFar c.args.sort (tokens_of c.args.spots.now) (part_trees c.loop-operand.parts) (option_map truth_tree o)
          (tokens_of c.loop-operand.rest.now)) w.in-None.is c.loop-operand.invariant.0 in
          rw (w.step-is, w.parts-is) (
            so_far_then so_far w.in_ok-step-in-None.ensures.moved w.in_ok-step-in-None.ensures.fit
                w.in_ok-step-in-None.ensures.operand,
            omega (arith, w.in_ok-step-in-None.ensures.shorter, cost_small),
          )
      | in-Some+in-Some-pop+in_ok-step-in-Some-pop w ↦
          let so_far = subst
          (λ (o : Option Truth).
          SoFar c.args.sort (tokens_of c.args.spots.now) (part_trees c.loop-operand.parts) (option_map truth_tree o)
          (tokens_of c.loop-operand.rest.now)) w.in-Some.is c.loop-operand.invariant.0 in
          let popped = subst
          (λ (l : List Part).
          SoFar c.args.sort (tokens_of c.args.spots.now) (part_trees l) (Some (truth_tree w.in-Some.truth))
          (tokens_of c.loop-operand.rest.now)) w.in-Some-pop.ensures so_far in
          rw (w.step-is, w.parts-is) (
            so_far_then popped w.in_ok-step-in-Some-pop.ensures.moved
                w.in_ok-step-in-Some-pop.ensures.fit w.in_ok-step-in-Some-pop.ensures.operand,
            omega (arith, w.in_ok-step-in-Some-pop.ensures.shorter, cost_small),
          )
    ]

pub loop-operand-smaller : goal.loop-operand-smaller
loop-operand-smaller c =
    elim c.match-operand.branch [
      | in-None+in_ok-step-in-None w ↦
          rw (w.step-is, w.in-None.is) (omega (arith, w.in_ok-step-in-None.ensures.shorter, cost_small))
      | in-Some+in-Some-pop+in_ok-step-in-Some-pop w ↦
          rw (w.step-is, w.in-Some.is)
          (omega (arith, w.in_ok-step-in-Some-pop.ensures.shorter, cost_small))
    ]

pub returns-in_err-step-in-None-clause-refused : goal.returns-in_err-step-in-None-clause-refused
returns-in_err-step-in-None-clause-refused c =
    let so_far = subst
    (λ (o : Option Truth).
    SoFar c.args.sort (tokens_of c.args.spots.now) (part_trees c.loop-operand.parts) (option_map truth_tree o)
    (tokens_of c.loop-operand.rest.now)) c.in-None.is c.loop-operand.invariant.0 in
    let h = expression_stops c.args.sort (tokens_of c.args.spots.now) _
    (refused_behind so_far.moved _ c.in_err-step-in-None.ensures.refused) in
    search rules

pub returns-in-None-pop-clause-taken : goal.returns-in-None-pop-clause-taken
returns-in-None-pop-clause-taken c =
    let so_far = subst
    (λ (o : Option Truth).
    SoFar c.args.sort (tokens_of c.args.spots.now) (part_trees c.loop-operand.parts) (option_map truth_tree o)
    (tokens_of c.loop-operand.rest.now)) c.in-Some.is c.loop-operand.invariant.0 in
    let popped = subst
    (λ (l : List Part).
    SoFar c.args.sort (tokens_of c.args.spots.now) (part_trees l) (Some (truth_tree c.in-Some.truth))
    (tokens_of c.loop-operand.rest.now)) c.in-None-pop.ensures so_far in
    expression_read c.args.sort (truth_tree c.in-Some.truth) (tokens_of c.args.spots.now)
    (tokens_of c.loop-operand.rest.now) popped.moved

pub returns-in_err-step-in-Some-pop-clause-refused :
    goal.returns-in_err-step-in-Some-pop-clause-refused
returns-in_err-step-in-Some-pop-clause-refused c =
    let so_far = subst
    (λ (o : Option Truth).
    SoFar c.args.sort (tokens_of c.args.spots.now) (part_trees c.loop-operand.parts) (option_map truth_tree o)
    (tokens_of c.loop-operand.rest.now)) c.in-Some.is c.loop-operand.invariant.0 in
    let popped = subst
    (λ (l : List Part).
    SoFar c.args.sort (tokens_of c.args.spots.now) (part_trees l) (Some (truth_tree c.in-Some.truth))
    (tokens_of c.loop-operand.rest.now)) c.in-Some-pop.ensures so_far in
    let h = expression_stops c.args.sort (tokens_of c.args.spots.now) _
    (refused_behind popped.moved _ c.in_err-step-in-Some-pop.ensures.refused) in
    search rules
