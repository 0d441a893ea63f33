-- A driver with a certificate stays in its region, errs nowhere, and makes allowed moves alone.
use Rattle.std.proofs.Common.{◌≡◌, ℕ, ◌+◌, ◌<◌, Bool, true, false, List, [], ◌∷◌, inl, ⊎_elim, refl, arith, length}
use Rattle.std.specs.Prelude.{nat_lt, if◌then◌else◌}
use Rattle.std.specs.List.{fold}
use Rattle.std.proofs.lemmas.Bool.Decides.{nat_tests}
use Rattle.tm_syntax.specs.declared.design.Item.{Item}
use Rattle.tm_syntax.specs.Design.{DesignTree, IsDesign, with_goal}
use Rattle.tm_sem.specs.declared.state.Move.{Move}
use Rattle.tm_sem.specs.declared.state.Outcome.TheVariants.{Next, Error}
use Rattle.tm_sem.specs.State.{StateData}
use Rattle.tm_sem.specs.Step.{Step, is_driver_move, is_driver_turn}
use Rattle.tm_sem.specs.Play.{Entry, StepsAlong, last_state, goal_holds, next_goal, pending_at}
use Rattle.tm_sem.specs.Strategy.{AreAnswered, states_of, IsSafeAt}
use Rattle.tm_sem.specs.Certificates.{DriverSets, IsIn, IsGoodMove, MeetsDriver, MeetsMoveForm}
use Rattle.tm_sem.proofs.Turns.{at_turn}

-- a design has a goal
some_goal : (items : List Item) → 0 < length (with_goal items)
some_goal [] = omega arith
some_goal (x ∷ xs) = omega arith

pub has_goal : (d : DesignTree) → IsDesign d → 0 < length d.goals
has_goal d is = rw is.goals (some_goal _)

-- the pending goal is one of the design's
next_below : (d : DesignTree) (g : ℕ) → 0 < length d.goals → next_goal d g < length d.goals
next_below d g some = of_test (nat_lt (g + 1) (length d.goals)) refl
  where
    of_test : (b : Bool) → nat_lt (g + 1) (length d.goals) ≡ b → (if b then g + 1 else 0) < length d.goals
    of_test true is = grind (arith, nat_tests, is)
    of_test false is = some

pub pending_below : (d : DesignTree) (g : ℕ) (s : StateData) → 0 < length d.goals → g < length d.goals →
    pending_at d g s < length d.goals
pending_below d g s some below = of_test (goal_holds d s g)
  where
    of_test : (b : Bool) → (if b then next_goal d g else g) < length d.goals
    of_test true = next_below d g some
    of_test false = below

module _ (d : DesignTree) (answers : StateData → ℕ → Move → Type 0) (c : DriverSets)
    (meets : MeetsDriver d answers c) (some : 0 < length d.goals) where
  -- a step of a driven play stays in the region
  pub stays : (s t : StateData) (g : ℕ) (move : Move) (choices : List ℕ) → g < length d.goals → IsIn d c.region s →
      (is_driver_move move ≡ true → answers s g move) → Step d s move choices (Next t) → IsIn d c.region t
  stays s t g move choices below here answered step = of_mover (is_driver_move move) refl
    where
      of_mover : (b : Bool) → is_driver_move move ≡ b → IsIn d c.region t
      of_mover true is =
          let kept = (meets.c4 s g move here below (at_turn d s choices (Next t) (λ same. cc) move is step)
          (answered is)).1 in
          kept.ends_within choices t step
      of_mover false is = (meets.c3 s here move is).ends_within choices t step

  -- at each state of the region the strategy's answers are safe
  safe_here : ((s : StateData) (g : ℕ) → is_driver_turn d s ≡ true → (move : Move) × answers s g move) →
      (s : StateData) (g : ℕ) → g < length d.goals → IsIn d c.region s → IsSafeAt d answers s g
  safe_here answer s g below here = record {
    environment = λ move choices is. (meets.c3 s here move is).no_error choices;
    answered = answer s g;
    allowed = λ turn move given. (meets.c4 s g move here below turn given).0;
    driver = λ move choices given step. of_mover move choices given step (is_driver_move move) refl;
  }
    where
      of_mover : (move : Move) (choices : List ℕ) → answers s g move → Step d s move choices Error → (b : Bool) →
          is_driver_move move ≡ b → ⊥
      of_mover move choices given step true is =
          let kept = (meets.c4 s g move here below (at_turn d s choices Error (λ same. cc) move is step) given).1 in
          kept.no_error choices step
      of_mover move choices given step false is = (meets.c3 s here move is).no_error choices step

  -- after further steps of a driven play the state is in the region, and the pending goal is one of the design's
  pub safe_along : ((s : StateData) (g : ℕ) → is_driver_turn d s ≡ true → (move : Move) × answers s g move) →
      (g : ℕ) (s : StateData) (entries : List Entry) → g < length d.goals → IsIn d c.region s →
      StepsAlong d s entries → AreAnswered d answers g s entries →
      IsSafeAt d answers (last_state s entries) (fold (pending_at d) g (states_of s entries))
  safe_along answer g s [] below here steps answered =
      safe_here answer s (pending_at d g s) (pending_below d g s some below) here
  safe_along answer g s (e ∷ es) below here steps answered =
      safe_along answer (pending_at d g s) e.state es (pending_below d g s some below)
      (stays s e.state (pending_at d g s) e.move e.choices (pending_below d g s some below) here answered.0 steps.0)
      steps.1 answered.1

-- good moves are a strategy with a certificate
pub good_moves_are_certified : (d : DesignTree) (c : DriverSets) → MeetsMoveForm d c →
    MeetsDriver d (λ s g move. IsGoodMove d c g s move) c
good_moves_are_certified d c meets = record {
  goals = meets.goals;
  fairs = meets.fairs;
  c0 = meets.c0;
  c1 = meets.c1;
  c2 = meets.c2;
  c3 = meets.c3;
  c4 = λ s goal move here below turn good. (good.allowed, good.keeps);
  c5 = λ s t goal ranked move choices here are fails made step. ⊎_elim
      (λ is. meets.c5 s t goal ranked move choices here are fails (inl is) step)
      (λ good. (good.no_higher ranked are fails).ends_within choices t step) made;
  c6 = λ s t goal ranked move choices here are fails fair made step. ⊎_elim
      (λ is. meets.c6 s t goal ranked move choices here are fails fair (inl is) step)
      (λ good. (good.lower ranked are fails fair).ends_within choices t step) made;
}
