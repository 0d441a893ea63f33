-- The predecessors of a game over bits that is a design's are those of the design.
use Rattle.std.proofs.Common.{◌≡◌, ◌≢◌, ℕ, ◌<◌, ◌≤◌, true, List, length, get_or, refl, sym, ap, ◌∙◌, subst, arith}
use Rattle.std.specs.Prelude.{◌↔◌, All}
use Rattle.tm_game_bits.specs.Forcing as bits
use Rattle.tm_game_bits.specs.Functions.{Assignment, Function, StepFunctions, GameFunctions, after}
use Rattle.tm_game_bits.specs.States.{ReadsState}
use Rattle.tm_sem.specs.Forcing.{Leads, errs, lands, Forced, by_environment, by_driver, Keeps, IsCalm, Stays}
use Rattle.tm_sem.specs.declared.state.Move.{Move}
use Rattle.tm_sem.specs.declared.state.Move.TheVariants as moves
use Rattle.tm_sem.specs.declared.state.Outcome.TheVariants.{Next, Error, NoOutcome}
use Rattle.tm_sem.specs.State.{StateData}
use Rattle.tm_sem.specs.Step.{IsAllowed, IsEnabled, IsState, is_driver_move, is_driver_turn}
use Rattle.tm_sem.proofs.Turns.{at_turn}
use Rattle.tm_syntax.specs.Design.{DesignTree}
use Rattle.tm_game_bits.specs.Coding.{Coding, IsCoding, IsIn}
use Rattle.tm_game_bits.specs.GameOf.{outcome_in, HasArgumentsBehind, IsDriverMove, IsEnvironmentMove, IsGameOf, IsMoveAt, IsMoveForSome, IsSomewhere}
use Rattle.tm_game_bits.proofs.Moves.{keeps_back, keeps_told, leads_back, leads_told, legal_some, some_legal, stutter_into, stutter_keeps, stutter_kept, stutter_lands}

module _ (d : DesignTree) (c : Coding) (g : GameFunctions) (coding : IsCoding d c) (game : IsGameOf d c g)
    (set : Function) (reads : ReadsState c.count set) where
  -- what holds of each step of a list holds of one that stands there
  at_step : (P : StepFunctions → Type 0) (steps : List StepFunctions) (k : ℕ) (step : StepFunctions) →
      k < length steps → get_or steps k step ≡ step → All P steps → P step
  at_step P steps k step below is all = subst P is (all k step below)

  -- ---- the environment
  -- a process of the environment keeps to the set
  process_keeps : (v : Assignment) (p : ℕ) → IsState d (c.state_of v) →
      All (λ (step : StepFunctions). bits.Keeps step set v) g.environment →
      Keeps d (IsIn c set) (c.state_of v) (moves.Process p)
  process_keeps v p valid keeps = record {
    no_error = λ choices step. (kept (choices, Error, step, λ none. cc)).no_error choices step;
    ends_within = λ choices t step. (kept (choices, Next t, step, λ none. cc)).ends_within choices t step;
  }
    where
      kept : IsEnabled d (c.state_of v) p → Keeps d (IsIn c set) (c.state_of v) (moves.Process p)
      kept enabled =
          let found = game.processes v p valid enabled in
          keeps_told d c coding set reads found.1 (moves.Process p) v found.4
          (at_step (λ (step : StepFunctions). bits.Keeps step set v) g.environment found.0 found.1 found.2 found.3
          keeps)

  calm_told : (v : Assignment) → bits.IsCalm g set v →
      IsState d (c.state_of v) × IsCalm d (IsIn c set) (c.state_of v)
  calm_told v calm = (valid, keeps)
    where
      valid : IsState d (c.state_of v)
      valid = (game.valid v).0 calm.valid

      keeps : IsCalm d (IsIn c set) (c.state_of v)
      keeps moves.Stutter is =
          stutter_keeps d c coding set reads (c.state_of v) (after g.stutter v) (game.stutter v valid) calm.stutter
      keeps (moves.Process p) is = process_keeps v p valid calm.environment
      keeps moves.Idle is = cc
      keeps (moves.Leave p) is = cc
      keeps (moves.Call t args) is = cc

  calm_back : (v : Assignment) → IsState d (c.state_of v) → IsCalm d (IsIn c set) (c.state_of v) →
      bits.IsCalm g set v
  calm_back v valid calm = record {
    valid = (game.valid v).1 valid;
    stutter =
        stutter_kept d c coding set reads (c.state_of v) (after g.stutter v) (game.stutter v valid)
        (calm moves.Stutter refl);
    environment = λ k other below.
        let step = get_or g.environment k other in
        record {
          no_error = λ w chosen legal.
              (kept (get_or g.environment k other) (game.environment v valid k other below)
              (w, chosen, legal)).no_error w chosen legal;
          ends_within = λ w chosen legal no_error.
              (kept (get_or g.environment k other) (game.environment v valid k other below)
              (w, chosen, legal)).ends_within w chosen legal no_error;
        };
  }
    where
      kept : (step : StepFunctions) → IsEnvironmentMove d c v step → IsSomewhere step v → bits.Keeps step set v
      kept step is some =
          let found = is some in
          keeps_back d c coding set reads step found.0 v found.2 (calm found.0 found.1)

  pub calm_is : (v : Assignment) →
      bits.IsCalm g set v ↔ (IsState d (c.state_of v) × IsCalm d (IsIn c set) (c.state_of v))
  calm_is v = (calm_told v, λ both. calm_back v both.0 both.1)

  -- ---- the driver
  -- with other arguments the state is the same
  one_state : (step : StepFunctions) (v w : Assignment) → HasArgumentsBehind c.count step →
      bits.WithArguments step v w → c.state_of w ≡ c.state_of v
  one_state step v w behind others =
      coding.same w v (λ k below. others k (λ there. let above : c.count ≤ k = behind k there in omega arith))

  -- a move that is made somewhere is allowed
  allowed_told : (step : StepFunctions) (move : Move) (v : Assignment) → is_driver_move move ≡ true →
      IsMoveAt d c step move v → bits.IsAllowed g.turn step v → IsAllowed d (c.state_of v) move
  allowed_told step move v drives is allowed =
      let w = allowed.some.0 in
      let some : outcome_in c step allowed.some.0 ≢ NoOutcome =
      legal_some c step allowed.some.0 allowed.some.2 in
      let led = is.outcomes allowed.some.0 allowed.some.1 some in
      (drives, led.0, outcome_in c step allowed.some.0, led.1, some)

  allowed_back : (step : StepFunctions) (move : Move) (v : Assignment) → g.turn v ≡ true →
      IsMoveAt d c step move v → IsAllowed d (c.state_of v) move → bits.IsAllowed g.turn step v
  allowed_back step move v turn is allowed =
      let led = is.all allowed.1 allowed.2 allowed.4 allowed.3 in
      record {
        at_turn = turn;
        some = (
          led.0,
          led.1,
          some_legal c step led.0 (λ none. allowed.4 (sym led.2 ∙ none)),
        );
      }

  stays_told : (v : Assignment) → bits.Stays g set v → Stays d (IsIn c set) (c.state_of v)
  stays_told v stays = record {
    valid = valid;
    calm = (calm_told v stays.calm).1;
    driver = λ turn.
        let found = stays.driver (game.turn v valid ∙ turn) in
        good found.1 (at_step (HasArgumentsBehind c.count) g.driver found.0 found.1 found.2 found.3 game.arguments)
        (λ w here. at_step (IsDriverMove d c w) g.driver found.0 found.1 found.2 found.3 (game.driver w here)) found.4;
  }
    where
      valid : IsState d (c.state_of v)
      valid = (calm_told v stays.calm).0

      good : (step : StepFunctions) → HasArgumentsBehind c.count step →
          ((w : Assignment) → IsState d (c.state_of w) → IsDriverMove d c w step) →
          bits.IsGoodForSome g.turn set v step →
          (move : Move) × IsAllowed d (c.state_of v) move × Keeps d (IsIn c set) (c.state_of v) move
      good step behind is some =
          let w = some.0 in
          let same : c.state_of some.0 ≡ c.state_of v = one_state step v some.0 behind some.1 in
          let made = is some.0 (subst (λ (s : StateData). IsState d s) (sym same) valid) some.2.allowed.some in (
            made.0,
            subst (λ (s : StateData). IsAllowed d s made.0) same
                (allowed_told step made.0 some.0 made.1 made.2 some.2.allowed),
            subst (λ (s : StateData). Keeps d (IsIn c set) s made.0) same
                (keeps_told d c coding set reads step made.0 some.0 made.2 some.2.keeps),
          )

  stays_back : (v : Assignment) → Stays d (IsIn c set) (c.state_of v) → bits.Stays g set v
  stays_back v stays = record {
    calm = calm_back v stays.valid stays.calm;
    driver = λ turn.
        let answer = stays.driver (sym (game.turn v stays.valid) ∙ turn) in
        let found = game.moves v answer.0 stays.valid answer.1 in (
          found.0,
          found.1,
          found.2,
          found.3,
          good turn answer.0 answer.1 answer.2 found.1
              (at_step (HasArgumentsBehind c.count) g.driver found.0 found.1 found.2 found.3 game.arguments) found.4,
        );
  }
    where
      good : g.turn v ≡ true → (move : Move) → IsAllowed d (c.state_of v) move →
          Keeps d (IsIn c set) (c.state_of v) move → (step : StepFunctions) → HasArgumentsBehind c.count step →
          IsMoveForSome d c move v step → bits.IsGoodForSome g.turn set v step
      good turn move allowed keeps step behind some =
          let same : c.state_of some.0 ≡ c.state_of v = one_state step v some.0 behind some.1 in
          let valid : IsState d (c.state_of some.0) =
          subst (λ (s : StateData). IsState d s) (sym same) stays.valid in
          let here : g.turn some.0 ≡ true =
          game.turn some.0 valid ∙ ap (λ (s : StateData). is_driver_turn d s) same
          ∙ sym (game.turn v stays.valid) ∙ turn in (
            some.0,
            some.1,
            record {
              allowed = allowed_back step move some.0 here some.2
                  (subst (λ (s : StateData). IsAllowed d s move) (sym same) allowed);
              keeps = keeps_back d c coding set reads step move some.0 some.2
                  (subst (λ (s : StateData). Keeps d (IsIn c set) s move) (sym same) keeps);
            },
          )

  pub stays_is : (v : Assignment) → bits.Stays g set v ↔ Stays d (IsIn c set) (c.state_of v)
  stays_is v = (stays_told v, stays_back v)

  -- ---- what the environment forces
  -- a step that leads somewhere has an outcome
  somewhere : (step : StepFunctions) (v : Assignment) → bits.Leads step set v → IsSomewhere step v
  somewhere step v (bits.errs w chosen legal error) = (w, chosen, legal)
  somewhere step v (bits.lands w chosen legal no_error there) = (w, chosen, legal)

  -- a move that leads somewhere has an outcome
  enabled : (s : StateData) (p : ℕ) → Leads d (IsIn c set) s (moves.Process p) → IsEnabled d s p
  enabled s p (errs choices step) = (choices, Error, step, λ none. cc)
  enabled s p (lands choices t step there) = (choices, Next t, step, λ none. cc)

  forced_told : (v : Assignment) → bits.Forced g set v →
      IsState d (c.state_of v) × Forced d (IsIn c set) (c.state_of v)
  forced_told v (bits.by_stutter holds into) =
      let valid = (game.valid v).0 holds in (
        valid,
        by_environment moves.Stutter refl
            (stutter_lands d c coding set reads (c.state_of v) (after g.stutter v) (game.stutter v valid) into),
      )
  forced_told v (bits.by_environment holds found) =
      let valid = (game.valid v).0 holds in
      let made = at_step (IsEnvironmentMove d c v) g.environment found.0 found.1 found.2 found.3
      (game.environment v valid) (somewhere found.1 v found.4) in (
        valid,
        by_environment made.0 made.1 (leads_told d c coding set reads found.1 made.0 v made.2 found.4),
      )
  forced_told v (bits.by_driver holds turn all) =
      let valid = (game.valid v).0 holds in
      (valid, by_driver (sym (game.turn v valid) ∙ turn) (λ move allowed. each valid turn all move allowed))
    where
      each : IsState d (c.state_of v) → g.turn v ≡ true →
          All (λ (step : StepFunctions).
          (w : Assignment) → bits.WithArguments step v w → bits.IsAllowed g.turn step w → bits.Leads step set w)
          g.driver → (move : Move) → IsAllowed d (c.state_of v) move → Leads d (IsIn c set) (c.state_of v) move
      each valid turn all move allowed =
          let found = game.moves v move valid allowed in
          let some = found.4 in
          let behind = at_step (HasArgumentsBehind c.count) g.driver found.0 found.1 found.2 found.3 game.arguments in
          let same : c.state_of found.4.0 ≡ c.state_of v = one_state found.1 v found.4.0 behind found.4.1 in
          let here : g.turn found.4.0 ≡ true =
          game.turn found.4.0 (subst (λ (s : StateData). IsState d s) (sym same) valid)
          ∙ ap (λ (s : StateData). is_driver_turn d s) same ∙ sym (game.turn v valid) ∙ turn in
          let permitted = allowed_back found.1 move found.4.0 here found.4.2
          (subst (λ (s : StateData). IsAllowed d s move) (sym same) allowed) in
          let leads = at_step (λ (step : StepFunctions).
          (w : Assignment) → bits.WithArguments step v w → bits.IsAllowed g.turn step w → bits.Leads step set w)
          g.driver found.0 found.1 found.2 found.3 all found.4.0 found.4.1 permitted in
          subst (λ (s : StateData). Leads d (IsIn c set) s move) same
          (leads_told d c coding set reads found.1 move found.4.0 found.4.2 leads)

  forced_back : (v : Assignment) → IsState d (c.state_of v) → Forced d (IsIn c set) (c.state_of v) →
      bits.Forced g set v
  forced_back v valid (by_environment moves.Stutter is leads) =
      bits.by_stutter ((game.valid v).1 valid)
      (stutter_into d c coding set reads (c.state_of v) (after g.stutter v) (game.stutter v valid) leads)
  forced_back v valid (by_environment (moves.Process p) is leads) =
      let found = game.processes v p valid (enabled (c.state_of v) p leads) in
      bits.by_environment ((game.valid v).1 valid) (
        found.0,
        found.1,
        found.2,
        found.3,
        leads_back d c coding set reads found.1 (moves.Process p) v found.4 leads,
      )
  forced_back v valid (by_environment moves.Idle is leads) = cc
  forced_back v valid (by_environment (moves.Leave p) is leads) = cc
  forced_back v valid (by_environment (moves.Call t args) is leads) = cc
  forced_back v valid (by_driver turn all) =
      bits.by_driver ((game.valid v).1 valid) (game.turn v valid ∙ turn)
      (λ k other below w others allowed.
      each (get_or g.driver k other) w (game.arguments k other below) (λ here. game.driver w here k other below) others
      allowed)
    where
      each : (step : StepFunctions) (w : Assignment) → HasArgumentsBehind c.count step →
          (IsState d (c.state_of w) → IsDriverMove d c w step) → bits.WithArguments step v w →
          bits.IsAllowed g.turn step w → bits.Leads step set w
      each step w behind is others allowed =
          let same : c.state_of w ≡ c.state_of v = one_state step v w behind others in
          let made = is (subst (λ (s : StateData). IsState d s) (sym same) valid) allowed.some in
          let permitted = allowed_told step made.0 w made.1 made.2 allowed in
          leads_back d c coding set reads step made.0 w made.2
          (subst (λ (s : StateData). Leads d (IsIn c set) s made.0) (sym same)
          (all made.0 (subst (λ (s : StateData). IsAllowed d s made.0) same permitted)))

  pub forced_is : (v : Assignment) →
      bits.Forced g set v ↔ (IsState d (c.state_of v) × Forced d (IsIn c set) (c.state_of v))
  forced_is v = (forced_told v, λ both. forced_back v both.0 both.1)

  -- ---- a move of the driver with its arguments
  pub legal_is : (v : Assignment) (step : StepFunctions) (move : Move) → is_driver_move move ≡ true →
      IsMoveAt d c step move v → bits.IsLegalMove g set step v
      ↔ (IsState d (c.state_of v) × IsAllowed d (c.state_of v) move × Keeps d (IsIn c set) (c.state_of v) move)
  legal_is v step move drives is = (told, back)
    where
      told : bits.IsLegalMove g set step v →
          IsState d (c.state_of v) × IsAllowed d (c.state_of v) move × Keeps d (IsIn c set) (c.state_of v) move
      told legal = (
        (game.valid v).0 legal.valid,
        allowed_told step move v drives is legal.good.allowed,
        keeps_told d c coding set reads step move v is legal.good.keeps,
      )

      back : IsState d (c.state_of v) × IsAllowed d (c.state_of v) move × Keeps d (IsIn c set) (c.state_of v) move →
          bits.IsLegalMove g set step v
      back both =
          let allowed = both.1 in
          let turn = at_turn d (c.state_of v) both.1.1 both.1.2 both.1.4 move drives both.1.3 in
          record {
            valid = (game.valid v).1 both.0;
            good = record {
              allowed = allowed_back step move v (game.turn v both.0 ∙ turn) is both.1;
              keeps = keeps_back d c coding set reads step move v is both.2;
            };
          }
