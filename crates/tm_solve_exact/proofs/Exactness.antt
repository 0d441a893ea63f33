-- The exact operator over a game is that of each design of the game.
use Rattle.std.proofs.Common.{◌≡◌, inl, inr, ℕ, ◌<◌, true, false, ◌&&◌, not, length, get_or, refl, sym, ap, ◌∙◌, subst, arith}
use Rattle.std.specs.Prelude.{◌↔◌, None, slice_get}
use Rattle.std.proofs.lemmas.Bool.{cases_lt}
use Rattle.std.proofs.lemmas.List.{get_or_past}
use Rattle.std.proofs.lemmas.Option.{slice_get_past}
use Rattle.tm_game_bits.specs.Coding.{IsIn}
use Rattle.tm_dd.specs.declared.node.TheConstants.{FALSE, TRUE}
use Rattle.tm_dd.proofs.CallerLaws.{means-TRUE}
use Rattle.tm_game_bits.specs.Functions.{outside}
use Rattle.tm_game.specs.Game.{GameData}
use Rattle.tm_sem.specs.Certificates as sets
use Rattle.tm_sem.specs.declared.state.Move.{Move}
use Rattle.tm_sem.specs.declared.state.Outcome.TheVariants.{Next}
use Rattle.tm_sem.specs.Fairness.{IsFair, conditions}
use Rattle.tm_sem.specs.Forcing.{Forced, Keeps, Leads, Stays, by_driver, by_environment, errs, lands}
use Rattle.tm_sem.specs.Play.{goal_holds}
use Rattle.tm_sem.specs.State.{StateData}
use Rattle.tm_sem.specs.Step.{IsState}
use Rattle.tm_solve.specs.Exact.{IsGameOf}
use Rattle.tm_solve.specs.Sets.{StateSet}
use Rattle.tm_solve.specs.Sets as states
use Rattle.tm_syntax.specs.Design.{DesignTree}
use Rattle.tm_solve_exact.specs.Exact.{IsExactOf, bit_set, coding, exact_game, exact_operator, functions, set_of, valid_set}
use Rattle.tm_solve_exact.specs.Solving.{CanSolve, IsSteady}
use Rattle.tm_solve_exact.proofs.Growing.{coding_told, game_told, set_tells, valid_told}
use Rattle.tm_solve_exact.proofs.Staying.{among_valid, bit_set_is, bit_set_reads, forced_told, iff_same, stays_told, valid_among}

module _ (d : DesignTree) (g : GameData) (is : IsExactOf d g) (steady : IsSteady d) (a : StateSet) where
  -- a valid state is in a set of states where it is in the set of values of levels
  set_is : (t : StateData) → IsState d t →
      bit_set (coding g) (valid_set g) a ((coding g).assignment_of t) ≡ a t
  set_is t state =
      let back = (coding_told d g is).back t state in
      let there = (valid_told d g is ((coding g).assignment_of t)).1 (subst (IsState d) (sym back) state) in
      bit_set_is d (coding g) (coding_told d g is) (valid_set g) (valid_told d g is) a ((coding g).assignment_of t)
      ∙ (λ i. there i && a (back i))

  module _ (s : StateData) (state : IsState d s) where
    keeps : (move : Move) → Keeps d (IsIn (coding g) (bit_set (coding g) (valid_set g) a)) s move →
        Keeps d (sets.IsIn d a) s move
    keeps move kept = record {
      no_error = kept.no_error;
      ends_within = λ choices t step.
          let valid = steady s move choices (Next t) state step in
          (valid, sym (set_is t valid) ∙ kept.ends_within choices t step);
    }

    stays : Stays d (IsIn (coding g) (bit_set (coding g) (valid_set g) a)) s → Stays d (sets.IsIn d a) s
    stays h = record {
      valid = h.valid;
      calm = λ move other. keeps move (h.calm move other);
      driver = λ turn. let found = h.driver turn in (found.0, found.1, keeps found.0 found.2);
    }

    leads : (move : Move) → Leads d (IsIn (coding g) (outside (bit_set (coding g) (valid_set g) a))) s move →
        Leads d (sets.IsIn d (states.outside a)) s move
    leads move (errs choices step) = errs choices step
    leads move (lands choices t step into) =
        let valid = steady s move choices (Next t) state step in
        lands choices t step (valid, ap not (sym (set_is t valid)) ∙ into)

    forced : Forced d (IsIn (coding g) (outside (bit_set (coding g) (valid_set g) a))) s →
        Forced d (sets.IsIn d (states.outside a)) s
    forced (by_environment move other h) = by_environment move other (leads move h)
    forced (by_driver turn all) = by_driver turn (λ move allowed. leads move (all move allowed))

    stay : (exact_operator g).stay a s ≡ true → Stays d (sets.IsIn d a) s
    stay h =
        let back = (coding_told d g is).back s state in
        stays
        (subst (Stays d (IsIn (coding g) (bit_set (coding g) (valid_set g) a))) back
        (stays_told d (coding g) (coding_told d g is) (valid_set g) (valid_told d g is) (functions g)
        (game_told d g is) (bit_set (coding g) (valid_set g) a)
        (bit_set_reads d (coding g) (coding_told d g is) (valid_set g) (valid_told d g is) a)
        ((coding g).assignment_of s) h))

    leave : (exact_operator g).stay a s ≡ false → Forced d (sets.IsIn d (states.outside a)) s
    leave h =
        let back = (coding_told d g is).back s state in
        forced
        (subst (Forced d (IsIn (coding g) (outside (bit_set (coding g) (valid_set g) a)))) back
        (forced_told d (coding g) (coding_told d g is) (valid_set g) (valid_told d g is) (functions g)
        (game_told d g is) (bit_set (coding g) (valid_set g) a)
        (bit_set_reads d (coding g) (coding_told d g is) (valid_set g) (valid_told d g is) a)
        ((coding g).assignment_of s) (subst (IsState d) (sym back) state) h))

pub exact_is : (d : DesignTree) (g : GameData) → CanSolve d g → IsGameOf d (exact_operator g) (exact_game g)
exact_is d g can = record {
  listed = among_valid d (coding g) (coding_told d g is) (valid_set g) (valid_told d g is);
  all = valid_among d (coding g) (coding_told d g is) (valid_set g) (valid_told d g is);
  some_goal = can.some_goal;
  goals = is.ordered.goals;
  fairs = is.ordered.fairs;
  part = λ z y x j i s among. refl;
  goal = λ j s state. goal j s state;
  fair = λ i s below state h. (fair_iff i s below state).0 h;
  unfair = λ i s below state h fair. let there = (fair_iff i s below state).1 fair in cc;
  stay = λ a s state. stay d g is steady a s state;
  leave = λ a s state. leave d g is steady a s state;
}
  where
    is : IsExactOf d g
    is = can.exact

    steady : IsSteady d
    steady = can.steady

    goal_past : (j : ℕ) (s : StateData) → slice_get d.goals j ≡ None → goal_holds d s j ≡ true
    goal_past j s none = rw none refl

    fair_iff : (i : ℕ) (s : StateData) → i < length (conditions d) → IsState d s →
        (set_of g (get_or g.fairs i FALSE) s ≡ true) ↔ IsFair d s i
    fair_iff i s below state =
        set_tells d g is (λ t. IsFair d t i) (get_or g.fairs i FALSE)
        (is.sets.fairs i FALSE (omega (arith, below, is.ordered.fairs))) s state

    goal : (j : ℕ) (s : StateData) → IsState d s → set_of g (get_or g.goals j TRUE) s ≡ goal_holds d s j
    goal j s state =
        elim (cases_lt j (length g.goals)) as (λ _. set_of g (get_or g.goals j TRUE) s ≡ goal_holds d s j) [
          | inl below ↦
              let iff = set_tells d g is (λ t. goal_holds d t j ≡ true) (get_or g.goals j TRUE)
              (is.sets.goals j TRUE below) s state in
              iff_same (set_of g (get_or g.goals j TRUE) s) (goal_holds d s j) iff.0 iff.1
          | inr past ↦
              ap (λ id. set_of g id s) (get_or_past g.goals j TRUE past)
              ∙ means-TRUE g.diagrams.table ((coding g).assignment_of s)
              ∙ sym (goal_past j s (slice_get_past d.goals j (omega (arith, past, is.ordered.goals))))
        ]
