-- The block at hand fits the state, and an answer from it on is one from the first block on.
use Rattle.std.proofs.Common.{◌≡◌, map, Some, length, slice_get, arith, sym, ap, subst, ◌∙◌}
use Rattle.std.proofs.lemmas.List.{length-map}
use mathlib.Core.List.{map-map}
use Rattle.tm_sem.specs.declared.state.Move.TheVariants as moves
use Rattle.tm_cir.specs.View.{num_tree, truth_tree, trees_of}
use Rattle.tm_cir.specs.Meaning.{num_value}
use Rattle.tm_cir.specs.Tree.{test, call, leave, idle}
use Rattle.tm_cir.specs.Answer.{Answers, goes_first, goes_second, calls, leaves, idles}
use Rattle.tm_cir.proofs.Following.{FitsAt, same_answer, block_at, fits_at, All-trees}
use Rattle.tm_cir.proofs.answering.answer.Goals as goal
use Rattle.tm_cir.proofs.answering.answer.Goals.{In-Test, In-Call, In-Leave, In-Idle}

here-Test : (c : In-Test) →
    slice_get (trees_of c.args.blocks.now) c.loop-at.at
    ≡ Some (test (truth_tree c.in-Test.truth) c.in-Test.first c.in-Test.second)
here-Test c = block_at c.blocks-list.result.now _ c.loop-at.at c.index-list-at.result _ c.blocks-list.ensures
    c.loop-at.invariant.in_range c.index-list-at.is c.in-Test.is

here-Call : (c : In-Call) →
    slice_get (trees_of c.args.blocks.now) c.loop-at.at ≡ Some (call c.in-Call.task (map num_tree c.in-Call.args.items))
here-Call c = block_at c.blocks-list.result.now _ c.loop-at.at c.index-list-at.result _ c.blocks-list.ensures
    c.loop-at.invariant.in_range c.index-list-at.is c.in-Call.is

here-Leave : (c : In-Leave) → slice_get (trees_of c.args.blocks.now) c.loop-at.at ≡ Some (leave c.in-Leave.process)
here-Leave c = block_at c.blocks-list.result.now _ c.loop-at.at c.index-list-at.result _ c.blocks-list.ensures
    c.loop-at.invariant.in_range c.index-list-at.is c.in-Leave.is

here-Idle : (c : In-Idle) → slice_get (trees_of c.args.blocks.now) c.loop-at.at ≡ Some (idle)
here-Idle c = block_at c.blocks-list.result.now _ c.loop-at.at c.index-list-at.result _ c.blocks-list.ensures
    c.loop-at.invariant.in_range c.index-list-at.is c.in-Idle.is

fits-Test : (c : In-Test) →
    FitsAt c.args.state.now (length c.blocks-list.result.now) c.loop-at.at
    (test (truth_tree c.in-Test.truth) c.in-Test.first c.in-Test.second)
fits-Test c = fits_at c.blocks-list.result.now _ c.args.state.now c.loop-at.at c.index-list-at.result _ c.requires
    c.blocks-list.ensures c.loop-at.invariant.in_range c.index-list-at.is c.in-Test.is

fits-Call : (c : In-Call) →
    FitsAt c.args.state.now (length c.blocks-list.result.now) c.loop-at.at
    (call c.in-Call.task (map num_tree c.in-Call.args.items))
fits-Call c = fits_at c.blocks-list.result.now _ c.args.state.now c.loop-at.at c.index-list-at.result _ c.requires
    c.blocks-list.ensures c.loop-at.invariant.in_range c.index-list-at.is c.in-Call.is

pub is_so-requires : goal.is_so-requires
is_so-requires c = (fits-Test c).0

pub loop-at-smaller-then-is_so : goal.loop-at-smaller-then-is_so
loop-at-smaller-then-is_so c = omega (arith, (fits-Test (goal.at.loop-at-smaller-then-is_so c).In-Test).1)

pub loop-at-preserved-then-is_so : goal.loop-at-preserved-then-is_so
loop-at-preserved-then-is_so c =
    let here = (goal.at.loop-at-preserved-then-is_so c).In-Test in
    record {
      in_range = (fits-Test here).1.1;
      leads = λ m follows. c.loop-at.invariant.leads m
          (goes_first (here-Test here) (sym c.is_so.ensures ∙ c.if-is_so.true) follows);
    }

pub loop-at-smaller : goal.loop-at-smaller
loop-at-smaller c = omega (arith, (fits-Test (goal.at.loop-at-smaller c).In-Test).2)

pub loop-at-preserved : goal.loop-at-preserved
loop-at-preserved c =
    let here = (goal.at.loop-at-preserved c).In-Test in
    record {
      in_range = (fits-Test here).2.1;
      leads = λ m follows. c.loop-at.invariant.leads m
          (goes_second (here-Test here) (sym c.is_so.ensures ∙ c.if-is_so.false) follows);
    }

pub arguments-requires-clause-few : goal.arguments-requires-clause-few
arguments-requires-clause-few c =
    omega (
      arith,
      (fits-Call (goal.at.arguments-requires-clause-few c).In-Call).0,
      length-map c.in-Call.args.items num_tree,
      ap length c.deref.ensures.value,
    )

pub arguments-requires-clause-fits : goal.arguments-requires-clause-fits
arguments-requires-clause-fits c =
    rw c.deref.ensures.value
    (All-trees _ _ c.in-Call.args.items (fits-Call (goal.at.arguments-requires-clause-fits c).In-Call).1)

answer-Call : (c : goal.After-arguments) →
    Answers (trees_of c.args.blocks.now) c.args.state.now c.args.goal (moves.Call c.in-Call.task c.arguments.result)
answer-Call c =
    let values : c.arguments.result ≡ map (num_value c.args.state.now c.args.goal) (map num_tree c.in-Call.args.items) =
    c.arguments.ensures
    ∙ ap (map (λ n. num_value c.args.state.now c.args.goal (num_tree n))) c.deref.ensures.value
    ∙ sym (map-map (num_value c.args.state.now c.args.goal) num_tree c.in-Call.args.items) in
    subst (λ args. Answers (trees_of c.args.blocks.now) c.args.state.now c.args.goal (moves.Call c.in-Call.task args))
    (sym values)
    (c.loop-at.invariant.leads _ (calls (here-Call (goal.at.returns-in-Call-clause-follows c).In-Call)))

pub returns-in-Call-clause-follows : goal.returns-in-Call-clause-follows
returns-in-Call-clause-follows c = answer-Call c

pub returns-in-Call-clause-only : goal.returns-in-Call-clause-only
returns-in-Call-clause-only c = λ other also. same_answer _ _ _ also (answer-Call c)

pub returns-in-Leave-clause-follows : goal.returns-in-Leave-clause-follows
returns-in-Leave-clause-follows c =
    c.loop-at.invariant.leads _ (leaves (here-Leave (goal.at.returns-in-Leave-clause-follows c).In-Leave))

pub returns-in-Leave-clause-only : goal.returns-in-Leave-clause-only
returns-in-Leave-clause-only c = λ other also.
    same_answer _ _ _ also (c.loop-at.invariant.leads _
    (leaves (here-Leave (goal.at.returns-in-Leave-clause-only c).In-Leave)))

pub returns-in-Idle-clause-follows : goal.returns-in-Idle-clause-follows
returns-in-Idle-clause-follows c =
    c.loop-at.invariant.leads _ (idles (here-Idle (goal.at.returns-in-Idle-clause-follows c).In-Idle))

pub returns-in-Idle-clause-only : goal.returns-in-Idle-clause-only
returns-in-Idle-clause-only c = λ other also.
    same_answer _ _ _ also (c.loop-at.invariant.leads _
    (idles (here-Idle (goal.at.returns-in-Idle-clause-only c).In-Idle)))
