-- A move of the driver has an outcome at its turn alone.
use Rattle.std.proofs.Common.{◌≡◌, ◌≢◌, ℕ, ◌+◌, ◌<◌, Bool, true, false, Option, None, Some, List, refl, arith, length}
use Rattle.std.specs.Prelude.{◌&&◌, nat_lt, MatchOption}
use Rattle.std.specs.Bool.{then_some}
use Rattle.std.specs.Option.{option_and_then}
use Rattle.std.specs.List.{range_with_len}
use Rattle.std.proofs.lemmas.Bool.Decides.{nat_tests}
use Rattle.std.proofs.lemmas.List.Folds.{list_any_at}
use Rattle.std.proofs.lemmas.List.FromFn.{length-range_with_len, get_or-range_with_len}
use Rattle.tm_syntax.specs.Design.{DesignTree}
use Rattle.tm_syntax.specs.Design.Cells.{Called}
use Rattle.tm_sem.specs.declared.state.Move.{Move}
use Rattle.tm_sem.specs.declared.state.Move.TheVariants as moves
use Rattle.tm_sem.specs.declared.state.Outcome.{Outcome}
use Rattle.tm_sem.specs.declared.state.Outcome.TheVariants.{NoOutcome}
use Rattle.tm_sem.specs.State.{StateData}
use Rattle.tm_sem.specs.Step.{Work, Comes, Step, stands_at_magic, is_driver_turn, is_driver_move, arguments_fit, task_of}

-- a process that stands at a magic block makes it the driver's turn
turn_of_magic : (d : DesignTree) (s : StateData) (p : ℕ) → p < length d.processes → stands_at_magic d s p ≡ true →
    is_driver_turn d s ≡ true
turn_of_magic d s p below stands =
    let there : 0 + p ≡ p = omega arith in
    list_any_at (stands_at_magic d s) (range_with_len 0 (length d.processes)) p 0
    (rw (length-range_with_len 0 (length d.processes)) below)
    (rw (get_or-range_with_len 0 (length d.processes) p 0 below, there) stands)

both : (a b : Bool) → (a && b) ≡ true → (a ≡ true) × (b ≡ true)
both true b h = (refl, h)
both false b h = absurd (cc)

module _ (d : DesignTree) (s : StateData) (cs : List ℕ) (o : Outcome) (comes : o ≢ NoOutcome) where
  -- work that is there under a test, and leads to an outcome, passes the test
  tested : (test : Bool) (w : Work) → MatchOption (then_some test w) (o ≡ NoOutcome) (λ w. Comes d s w cs o) →
      test ≡ true
  tested true w h = refl
  tested false w h = absurd (comes h)

  called_at_turn : (k : Option Called) (fits : Called → Bool) (does : Called → Work) →
      MatchOption (option_and_then (λ c. then_some (is_driver_turn d s && fits c) (does c)) k) (o ≡ NoOutcome)
      (λ w. Comes d s w cs o) →
      is_driver_turn d s ≡ true
  called_at_turn None fits does h = absurd (comes h)
  called_at_turn (Some c) fits does h =
      (both (is_driver_turn d s) (fits c) (tested (is_driver_turn d s && fits c) (does c) h)).0

  left_at_turn : (p : ℕ) (w : Work) →
      MatchOption (then_some (nat_lt p (length d.processes) && stands_at_magic d s p) w) (o ≡ NoOutcome)
      (λ w. Comes d s w cs o) →
      is_driver_turn d s ≡ true
  left_at_turn p w h =
      let found = both (nat_lt p (length d.processes)) (stands_at_magic d s p)
      (tested (nat_lt p (length d.processes) && stands_at_magic d s p) w h) in
      let below : p < length d.processes = grind (arith, nat_tests, found.0) in
      turn_of_magic d s p below found.1

  -- a driver move with an outcome is made at the driver's turn
  pub at_turn : (move : Move) → is_driver_move move ≡ true → Step d s move cs o → is_driver_turn d s ≡ true
  at_turn moves.Stutter is step = absurd (cc)
  at_turn (moves.Process p) is step = absurd (cc)
  at_turn moves.Idle is step = tested (is_driver_turn d s) _ step
  at_turn (moves.Leave p) is step = left_at_turn p _ step
  at_turn (moves.Call t args) is step = called_at_turn (task_of d t) (λ c. arguments_fit d c.params args) _ step
