-- No design has both a good driver and is lost: whatever the environment forces, a good driver answers.
use Rattle.std.proofs.Common.{◌≡◌, ℕ, zero, suc, ◌+◌, ◌<◌, true, false, List, [], ◌∷◌, ◌++◌, inl, inr, length, refl, sym, ap, ◌∙◌, subst}
use Rattle.std.specs.List.{fold}
use Rattle.tm_syntax.specs.Design.{DesignTree, IsDesign}
use Rattle.tm_sem.specs.declared.state.Move.{Move}
use Rattle.tm_sem.specs.declared.state.Outcome.TheVariants.{Next}
use Rattle.tm_sem.specs.State.{StateData}
use Rattle.tm_sem.specs.Step.{Step, is_driver_move}
use Rattle.tm_sem.specs.Play.{Entry, StepsAlong, last_state, pending_at, pending}
use Rattle.tm_sem.specs.Forcing.{Leads, errs, lands, Forced, by_environment, by_driver}
use Rattle.tm_sem.specs.Strategy.{AreAnswered, IsDriven, states_of, Good}
use Rattle.tm_sem.specs.Loss.{IsStarved, Beats, Lost}
use Rattle.tm_sem.proofs.Certified.{has_goal}
use Rattle.tm_sem.proofs.Starving.{patience, never_starves}

-- an entry of a play
abbrev pub entry : Move → List ℕ → StateData → Entry
entry move choices state = record { move = move; choices = choices; state = state }

module _ (d : DesignTree) (answers : StateData → ℕ → Move → Type 0) where
  steps_on : (s : StateData) (entries : List Entry) (e : Entry) → StepsAlong d s entries →
      Step d (last_state s entries) e.move e.choices (Next e.state) → StepsAlong d s (entries ++ e ∷ [])
  steps_on s [] e steps step = (step, tt)
  steps_on s (x ∷ xs) e steps step = (steps.0, steps_on x.state xs e steps.1 step)

  answered_on : (g : ℕ) (s : StateData) (entries : List Entry) (e : Entry) → AreAnswered d answers g s entries →
      (is_driver_move e.move ≡ true →
      answers (last_state s entries) (fold (pending_at d) g (states_of s entries)) e.move) →
      AreAnswered d answers g s (entries ++ e ∷ [])
  answered_on g s [] e answered last = (last, tt)
  answered_on g s (x ∷ xs) e answered last =
      (answered.0, answered_on (pending_at d g s) x.state xs e answered.1 last)

  states_on : (s : StateData) (entries : List Entry) (e : Entry) →
      states_of s (entries ++ e ∷ []) ≡ states_of s entries ++ e.state ∷ []
  states_on s [] e = refl
  states_on s (x ∷ xs) e = ap (λ l. s ∷ l) (states_on x.state xs e)

  last_on : (s : StateData) (entries : List Entry) (e : Entry) → last_state s (entries ++ e ∷ []) ≡ e.state
  last_on s [] e = refl
  last_on s (x ∷ xs) e = last_on x.state xs e

  driven_on : (first : StateData) (entries : List Entry) (e : Entry) → IsDriven d answers first entries →
      Step d (last_state first entries) e.move e.choices (Next e.state) →
      (is_driver_move e.move ≡ true → answers (last_state first entries) (pending d (states_of first entries)) e.move) →
      IsDriven d answers first (entries ++ e ∷ [])
  driven_on first entries e driven step given = record {
    play = record {
      initial = driven.play.initial;
      steps = steps_on first entries e driven.play.steps step;
    };
    answered = answered_on 0 first entries e driven.answered given;
  }

  module _ (ranks : List ℕ) (good : Good d answers ranks) (some : 0 < length d.goals) where
    -- in no number of steps does the environment win against the answers
    no_win : (t : ℕ) (first : StateData) (entries : List Entry) (before : List StateData) →
        IsDriven d answers first entries → states_of first entries ≡ before ++ last_state first entries ∷ [] →
        Beats d t before (last_state first entries) (patience d ranks) → ⊥
    no_win zero first entries before driven states won =
        never_starves d ranks (states_of first entries) some (good.bounded first entries driven)
        (subst (λ l. IsStarved d l (patience d ranks)) (sym states) won)
    no_win (suc t) first entries before driven states (inl won) =
        never_starves d ranks (states_of first entries) some (good.bounded first entries driven)
        (subst (λ l. IsStarved d l (patience d ranks)) (sym states) won)
    no_win (suc t) first entries before driven states (inr forced) =
        of_forced
        (λ e driven won. no_win t first (entries ++ e ∷ []) (before ++ last_state first entries ∷ []) driven
        (subst
        (λ u. states_of first (entries ++ e ∷ []) ≡ (before ++ last_state first entries ∷ []) ++ u ∷ [])
        (sym (last_on first entries e))
        (states_on first entries e ∙ ap (λ l. l ++ e.state ∷ []) states))
        (subst (λ u. Beats d t (before ++ last_state first entries ∷ []) u (patience d ranks))
        (sym (last_on first entries e)) won))
        forced
      where
        of_forced : ((e : Entry) → IsDriven d answers first (entries ++ e ∷ []) →
            Beats d t (before ++ last_state first entries ∷ []) e.state (patience d ranks) → ⊥) →
            Forced d (λ next. Beats d t (before ++ last_state first entries ∷ []) next (patience d ranks))
            (last_state first entries) → ⊥
        of_forced next (by_environment move is (errs choices step)) =
            (good.safe first entries driven).environment move choices is step
        of_forced next (by_environment move is (lands choices u step won)) =
            next (entry move choices u)
            (driven_on first entries (entry move choices u) driven step
            (λ drives. absurd (let wrong : false ≡ true = sym is ∙ drives in cc))) won
        of_forced next (by_driver turn all) =
            let safe = good.safe first entries driven in
            let answer = safe.answered turn in
            of_answer answer.0 answer.1 (all answer.0 (safe.allowed turn answer.0 answer.1))
          where
            of_answer : (move : Move) → answers (last_state first entries) (pending d (states_of first entries)) move →
                Leads d (λ next. Beats d t (before ++ last_state first entries ∷ []) next (patience d ranks))
                (last_state first entries) move → ⊥
            of_answer move given (errs choices step) = (good.safe first entries driven).driver move choices given step
            of_answer move given (lands choices u step won) =
                next (entry move choices u)
                (driven_on first entries (entry move choices u) driven step (λ drives. given)) won

-- a design with a good driver is not lost
pub good_is_not_lost : (d : DesignTree) → IsDesign d → (answers : StateData → ℕ → Move → Type 0) (ranks : List ℕ) →
    Good d answers ranks → Lost d → ⊥
good_is_not_lost d is answers ranks good lost =
    let win = lost (patience d ranks) in
    no_win d answers ranks good (has_goal d is) win.1 win.0 [] []
    (record { play = record { initial = win.2; steps = tt }; answered = tt }) refl win.3
