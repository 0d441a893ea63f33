-- Answers that are good moves. Here c are the sets of a certificate in its move form.
use Rattle.std.specs.Prelude.{◌≡◌, ℕ, ◌+◌, ◌<◌, ◌≤◌, true, List, Some, length, slice_get, sum}
use Rattle.tm_check.specs.Replies.{move_of}
use Rattle.tm_cir.specs.Fit.{parameter_count}
use Rattle.tm_cir.specs.Meaning.{holds}
use Rattle.tm_dd.specs.declared.node.NodeId.{NodeId}
use Rattle.tm_game.specs.Game.{GameData}
use Rattle.tm_sem.specs.Certificates.{DriverSets, IsGoodMove, IsIn}
use Rattle.tm_sem.specs.State.{StateData}
use Rattle.tm_sem.specs.StateBits.{state_widths}
use Rattle.tm_sem.specs.Step.{IsState, Step, is_driver_move, is_driver_turn, task_of}
use Rattle.tm_sem.specs.declared.state.Move.{Move}
use Rattle.tm_sem.specs.declared.state.Outcome.TheVariants.{Next}
use Rattle.tm_solve_exact.specs.Exact.{IsExactOf, set_of}
use Rattle.tm_strat.specs.Choice.{care_in, good_in, id_in}
use Rattle.tm_strat.specs.Chosen.{AreCounted}
use Rattle.tm_strat.specs.Spelled.{choice_tree, test_tree}
use Rattle.tm_strat.specs.declared.choosing.GoalMoves.{GoalMoves}
use Rattle.tm_strat.specs.declared.spelling.Spelling.{Spelling}
use Rattle.tm_strat_drafts.specs.declared.drafts.MoveChoice.{MoveChoice}
use Rattle.tm_syntax.specs.Design.{DesignTree}
use Rattle.tm_syntax.specs.Design.Cells.{Called}
use Rattle.tm_syntax.specs.Faults.Limits.{limit_of}
use Rattle.tm_syntax.specs.declared.fault.Quantity.TheVariants as quantity

-- 32 bits number the driver's moves but for their arguments, and 65,536 tests of the state with its bits and the goals;
-- each controllable task has the parameters that it declares, no more than a call can have arguments
pub record CanCall (d : DesignTree) : Type 0 where
  pub few : 1 + length d.processes + length d.tasks ≤ 4294967295
  pub counted : 65536 + sum (state_widths d) + length d.goals ≤ 4294967295
  pub declared : (n : ℕ) (callee : Called) → task_of d n ≡ Some callee →
      parameter_count d n ≡ Some (length callee.params)
  pub fits : (n : ℕ) (callee : Called) → task_of d n ≡ Some callee →
      length callee.params ≤ limit_of quantity.Arguments

-- at each turn in the region each answer is a good move
pub record AnswerWell (d : DesignTree) (answers : StateData → ℕ → Move → Type 0) (c : DriverSets) : Type 0 where
  pub each : (s : StateData) (goal : ℕ) (move : Move) → IsIn d c.region s → goal < length d.goals →
      is_driver_turn d s ≡ true → answers s goal move → IsGoodMove d c goal s move

-- a driver's move steps on at its turn alone
abbrev pub StepsAtTurn : DesignTree → Type 0
StepsAtTurn d =
    (s t : StateData) (move : Move) (choices : List ℕ) → is_driver_move move ≡ true → Step d s move choices (Next t) →
    is_driver_turn d s ≡ true

-- what blocks are chosen from serves a certificate in its move form: tests are those that are spelled, a move is good
-- where it is said to be, and at each turn of the region some move is
pub record Serves (d : DesignTree) (c : DriverSets) (g : GameData) (sp : Spelling) (tests : List NodeId)
    (goals : List GoalMoves) : Type 0 where
  pub exact : IsExactOf d g
  pub count : length sp.predicates.items ≡ length tests
  pub goal_count : length goals ≡ length d.goals
  pub counted : AreCounted tests goals
  pub tests_are : (k j : ℕ) (s : StateData) → k < length tests → IsState d s →
      set_of g (id_in tests k) s ≡ holds s j (test_tree sp k)
  pub good : (j : ℕ) (m : MoveChoice) (s : StateData) → j < length goals → IsState d s →
      good_in g (slice_get goals j) m s ≡ true → IsGoodMove d c j s (move_of j (choice_tree d sp m) s)
  pub region : (j : ℕ) (s : StateData) → j < length goals → IsIn d c.region s → is_driver_turn d s ≡ true →
      set_of g (care_in (slice_get goals j)) s ≡ true
