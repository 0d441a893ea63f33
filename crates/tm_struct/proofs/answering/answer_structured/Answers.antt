-- What the tests lead to fits the state, and an answer from there is one of the driver.
use Rattle.std.proofs.Common.{◌≡◌, ℕ, ◌<◌, List, map, length, arith, sym, ap, subst, ◌∙◌}
use Rattle.std.proofs.lemmas.List.{length-map}
use mathlib.Core.List.{map-map}
use Rattle.tm_sem.specs.declared.state.Move.{Move}
use Rattle.tm_sem.specs.declared.state.Move.TheVariants as moves
use Rattle.tm_cir.specs.View.{num_tree}
use Rattle.tm_cir.specs.Meaning.{num_value}
use Rattle.tm_cir.proofs.Following.{All-trees}
use Rattle.tm_struct.specs.Tree.{ActionTree, call, leave, go, idle}
use Rattle.tm_struct.specs.View.{action_tree, program_tree}
use Rattle.tm_struct.specs.Answer.{LeadsTo, calls, leaves, idles, AnswersSo}
use Rattle.tm_struct.specs.Inner.Answering.{FitsAt, IsNoTest}
use Rattle.tm_struct.proofs.Leading.{fits_body, goes_there, same_move}
use Rattle.tm_struct.proofs.answering.answer_structured.Goals as goal
use Rattle.tm_struct.proofs.answering.answer_structured.Goals.{After-end_of, In-Call, After-arguments}

fits : (c : After-end_of) → FitsAt c.args.state.now c.loop-task.at (action_tree c.end_of.result.now)
fits c =
    c.end_of.ensures.fits c.loop-task.at
    (subst (FitsAt c.args.state.now c.loop-task.at) (sym c.function.ensures)
    (fits_body (program_tree c.args.program.now) c.args.state.now c.requires c.loop-task.at
    c.loop-task.invariant.within))

answers : (c : After-end_of) (a : ActionTree) (m : Move) → action_tree c.end_of.result.now ≡ a →
    LeadsTo (program_tree c.args.program.now).functions c.args.state.now c.args.goal a m →
    AnswersSo (program_tree c.args.program.now) c.args.state.now c.args.goal m
answers c a m is leads =
    let fs : List ActionTree = (program_tree c.args.program.now).functions in
    c.loop-task.invariant.leads m
    (subst (λ x. LeadsTo fs c.args.state.now c.args.goal x m) c.function.ensures
    (c.end_of.ensures.leads fs m (subst (λ x. LeadsTo fs c.args.state.now c.args.goal x m) (sym is) leads)))

pub end_of-requires : goal.end_of-requires
end_of-requires c = (
  c.loop-task.at,
  subst (FitsAt c.args.state.now c.loop-task.at) (sym c.function.ensures)
      (fits_body (program_tree c.args.program.now) c.args.state.now c.requires c.loop-task.at
      c.loop-task.invariant.within),
)

ends-Call : (c : In-Call) →
    action_tree c.end_of.result.now ≡ call c.in-Call.task (map num_tree c.in-Call.args.items)
ends-Call c = ap action_tree c.in-Call.is

pub arguments-requires-clause-few : goal.arguments-requires-clause-few
arguments-requires-clause-few c =
    let here = goal.at.arguments-requires-clause-few c in
    omega (
      arith,
      (subst (FitsAt c.args.state.now c.loop-task.at) (ends-Call here.In-Call) (fits here.After-end_of)).0,
      length-map c.in-Call.args.items num_tree,
      ap length c.deref.ensures.value,
    )

pub arguments-requires-clause-fits : goal.arguments-requires-clause-fits
arguments-requires-clause-fits c =
    let here = goal.at.arguments-requires-clause-fits c in
    rw c.deref.ensures.value
    (All-trees _ _ c.in-Call.args.items
    (subst (FitsAt c.args.state.now c.loop-task.at) (ends-Call here.In-Call) (fits here.After-end_of)).1)

answer-Call : (c : After-arguments) →
    AnswersSo (program_tree c.args.program.now) c.args.state.now c.args.goal
    (moves.Call c.in-Call.task (map (num_value c.args.state.now c.args.goal) (map num_tree c.in-Call.args.items))) →
    AnswersSo (program_tree c.args.program.now) c.args.state.now c.args.goal
    (moves.Call c.in-Call.task c.arguments.result)
answer-Call c told =
    let values : c.arguments.result ≡ map (num_value c.args.state.now c.args.goal) (map num_tree c.in-Call.args.items) =
    c.arguments.ensures
    ∙ ap (map (λ n. num_value c.args.state.now c.args.goal (num_tree n))) c.deref.ensures.value
    ∙ sym (map-map (num_value c.args.state.now c.args.goal) num_tree c.in-Call.args.items) in
    subst
    (λ args.
    AnswersSo (program_tree c.args.program.now) c.args.state.now c.args.goal (moves.Call c.in-Call.task args))
    (sym values) told

pub returns-in-Call-clause-follows : goal.returns-in-Call-clause-follows
returns-in-Call-clause-follows c =
    let here = goal.at.returns-in-Call-clause-follows c in
    answer-Call here.After-arguments (answers here.After-end_of _ _ (ends-Call here.In-Call) calls)

pub returns-in-Call-clause-only : goal.returns-in-Call-clause-only
returns-in-Call-clause-only c = λ other also.
    let here = goal.at.returns-in-Call-clause-only c in
    same_move _ _ _ also (answer-Call here.After-arguments (answers here.After-end_of _ _ (ends-Call here.In-Call)
    calls))

pub returns-in-Leave-clause-follows : goal.returns-in-Leave-clause-follows
returns-in-Leave-clause-follows c =
    answers (goal.at.returns-in-Leave-clause-follows c).After-end_of (leave c.in-Leave.process) _
    (ap action_tree c.in-Leave.is) leaves

pub returns-in-Leave-clause-only : goal.returns-in-Leave-clause-only
returns-in-Leave-clause-only c = λ other also.
    same_move _ _ _ also
    (answers (goal.at.returns-in-Leave-clause-only c).After-end_of (leave c.in-Leave.process) _
    (ap action_tree c.in-Leave.is) leaves)

pub returns-in-Idle-clause-follows : goal.returns-in-Idle-clause-follows
returns-in-Idle-clause-follows c =
    answers (goal.at.returns-in-Idle-clause-follows c).After-end_of idle _ (ap action_tree c.in-Idle.is) idles

pub returns-in-Idle-clause-only : goal.returns-in-Idle-clause-only
returns-in-Idle-clause-only c = λ other also.
    same_move _ _ _ also
    (answers (goal.at.returns-in-Idle-clause-only c).After-end_of idle _ (ap action_tree c.in-Idle.is) idles)

pub loop-task-smaller : goal.loop-task-smaller
loop-task-smaller c =
    subst (FitsAt c.args.state.now c.loop-task.at) (ap action_tree c.in-Go.is)
    (fits (goal.at.loop-task-smaller c).After-end_of)

pub loop-task-preserved : goal.loop-task-preserved
loop-task-preserved c =
    let here = (goal.at.loop-task-preserved c).After-end_of in
    let low = subst (FitsAt c.args.state.now c.loop-task.at) (ap action_tree c.in-Go.is) (fits here) in
    let within : c.in-Go.number < length (program_tree c.args.program.now).functions =
    omega (arith, low, c.loop-task.invariant.within) in
    record {
      within = omega (arith, within);
      leads = λ m follows.
          answers here (go c.in-Go.number) m (ap action_tree c.in-Go.is)
          (goes_there (program_tree c.args.program.now) c.args.state.now c.args.goal c.in-Go.number m within follows);
    }
