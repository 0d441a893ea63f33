-- The states from which not every step stays in a set.
use Rattle.std.proofs.Common.{◌≡◌, ℕ, Bool, true, List}
use Rattle.tm_check.specs.Good.{IsAnsweredWell}
use Rattle.tm_check.specs.Reads.{IsSized}
use Rattle.tm_check.proofs.States.{states_same, test_all, test_only}
use Rattle.tm_cir.specs.Answer.{Answers}
use Rattle.tm_cir.specs.Tree.{BlockTree}
use Rattle.tm_dd.specs.declared.node.NodeId.{NodeId}
use Rattle.tm_dd.specs.Table.{Table}
use Rattle.tm_verdict.specs.Found.{AnswerKeeps}
use Rattle.tm_verdict.specs.Regular.{IsRegular}
use Rattle.tm_game.specs.Game.{GameData, IsOf, IsStates, in_set}
use Rattle.tm_sem.specs.declared.state.Move.{Move}
use Rattle.tm_sem.specs.declared.state.Outcome.TheVariants.{Next}
use Rattle.tm_sem.specs.Forcing.{IsCalm, Keeps}
use Rattle.tm_sem.specs.State.{StateData}
use Rattle.tm_sem.specs.Step.{IsState}
use Rattle.tm_syntax.specs.Design.{DesignTree}

module _ (d : DesignTree) (regular : IsRegular d) (P Q : StateData → Type 0)
    (to : (st : StateData) → IsState d st → P st → Q st) where
  -- what stays in one set stays in another one that holds its valid states
  pub keeps_along : (s : StateData) (move : Move) → IsState d s → Keeps d P s move → Keeps d Q s move
  keeps_along s move valid keeps = record {
    no_error = keeps.no_error;
    ends_within = λ choices t step.
        to t (regular.steady s move choices (Next t) valid step) (keeps.ends_within choices t step);
  }

module _ (d : DesignTree) (g : GameData) (of : IsOf d g) (sized : IsSized g) (regular : IsRegular d) (set : NodeId)
    (test : StateData → Bool) (set_is : IsStates d g.order g.diagrams.table (λ s. test s ≡ true) set) where
  to_test : (st : StateData) → IsState d st → in_set d g set st → test st ≡ true
  to_test = test_only d g of sized g.diagrams.table (λ s. test s ≡ true) set set_is

  from_test : (st : StateData) → IsState d st → test st ≡ true → in_set d g set st
  from_test = test_all d g of sized g.diagrams.table (λ s. test s ≡ true) set set_is

  pub calm_same : (s : Table) (id : NodeId) → IsStates d g.order s (IsCalm d (in_set d g set)) id →
      IsStates d g.order s (IsCalm d (λ t. test t ≡ true)) id
  calm_same s id is =
      states_same d g.order s (IsCalm d (in_set d g set)) (IsCalm d (λ t. test t ≡ true)) id
      (λ st valid calm move others.
      keeps_along d regular (in_set d g set) (λ t. test t ≡ true) to_test st move valid (calm move others))
      (λ st valid calm move others.
      keeps_along d regular (λ t. test t ≡ true) (in_set d g set) from_test st move valid (calm move others)) is

  pub answered_same : (bs : List BlockTree) (goal : ℕ) (s : Table) (id : NodeId) →
      IsStates d g.order s (IsAnsweredWell d bs goal (in_set d g set)) id →
      IsStates d g.order s (AnswerKeeps d (Answers bs) test goal) id
  answered_same bs goal s id is =
      states_same d g.order s (IsAnsweredWell d bs goal (in_set d g set)) (AnswerKeeps d (Answers bs) test goal) id
      (λ st valid good move answers.
      let this = good move answers in (
        this.allowed,
        keeps_along d regular (in_set d g set) (λ t. test t ≡ true) to_test st move valid this.keeps,
      ))
      (λ st valid good move answers.
      let this = good move answers in
      record {
        state = valid;
        allowed = this.0;
        keeps = keeps_along d regular (λ t. test t ≡ true) (in_set d g set) from_test st move valid this.1;
      }) is
