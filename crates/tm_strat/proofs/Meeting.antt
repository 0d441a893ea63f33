-- Where each answer is a good move, the sets are a certificate of the strategy.
use Rattle.std.proofs.Common.{◌≡◌, inl, inr, ℕ, ◌<◌, ◌≤◌, true, false, List, length, refl, arith}
use Rattle.std.proofs.lemmas.Option.{slice_get_within}
use Rattle.tm_sem.specs.Certificates.{AreRanked, DriverSets, IsFairAtRank, IsGoodMove, IsIn, IsMade, MeetsDriver}
use Rattle.tm_sem.specs.Certificates.{MeetsMoveForm, RankedSet, rank}
use Rattle.tm_sem.specs.Play.{goal_holds}
use Rattle.tm_sem.specs.State.{StateData}
use Rattle.tm_sem.specs.Step.{Step, is_driver_move}
use Rattle.tm_sem.specs.declared.state.Move.{Move}
use Rattle.tm_sem.specs.declared.state.Outcome.TheVariants.{Next}
use Rattle.tm_strat.specs.Meeting.{AnswerWell, StepsAtTurn}
use Rattle.tm_syntax.specs.Design.{DesignTree}

module _ (d : DesignTree) (answers : StateData → ℕ → Move → Type 0) (c : DriverSets) (form : MeetsMoveForm d c)
    (well : AnswerWell d answers c) (turns : StepsAtTurn d) where
  is_goal : (goal : ℕ) (ranked : List RankedSet) → AreRanked c goal ranked → goal < length d.goals
  is_goal goal ranked are =
      let within = slice_get_within c.goals goal ranked are in
      let count = form.goals in
      omega (arith, within, count)

  module _ (s t : StateData) (goal : ℕ) (ranked : List RankedSet) (move : Move) (choices : List ℕ)
      (here : IsIn d c.region s) (are : AreRanked c goal ranked) (fails : goal_holds d s goal ≡ false)
      (step : Step d s move choices (Next t)) where
    good : is_driver_move move ≡ true → answers s goal move → IsGoodMove d c goal s move
    good own answer =
        well.each s goal move here (is_goal goal ranked are) (turns s t move choices own step) answer

    by_mover : (P : Type 0) → (is_driver_move move ≡ false → P) → (IsGoodMove d c goal s move → P) →
        IsMade answers goal s move → P
    by_mover P others own (inl other) = others other
    by_mover P others own (inr answer) =
        elim (is_driver_move move) as (λ b. is_driver_move move ≡ b → P) [
          | true ↦ λ is. own (good is answer)
          | false ↦ λ is. others is
        ] refl

    no_higher : IsMade answers goal s move → rank ranked t ≤ rank ranked s
    no_higher =
        by_mover (rank ranked t ≤ rank ranked s)
        (λ other. form.c5 s t goal ranked move choices here are fails (inl other) step)
        (λ is. (is.no_higher ranked are fails).ends_within choices t step)

    lower : IsFairAtRank d ranked s → IsMade answers goal s move → rank ranked t < rank ranked s
    lower fair =
        by_mover (rank ranked t < rank ranked s)
        (λ other. form.c6 s t goal ranked move choices here are fails fair (inl other) step)
        (λ is. (is.lower ranked are fails fair).ends_within choices t step)

  pub answered : MeetsDriver d answers c
  answered = record {
    goals = form.goals;
    fairs = form.fairs;
    c0 = form.c0;
    c1 = form.c1;
    c2 = form.c2;
    c3 = form.c3;
    c4 = λ s goal move here below turn answer.
        let is = well.each s goal move here below turn answer in (is.allowed, is.keeps);
    c5 = λ s t goal ranked move choices here are fails made step.
        no_higher s t goal ranked move choices here are fails step made;
    c6 = λ s t goal ranked move choices here are fails fair made step.
        lower s t goal ranked move choices here are fails step fair made;
  }
