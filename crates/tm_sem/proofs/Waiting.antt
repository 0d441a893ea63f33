-- What a play carries along in a level of an environment's certificate: rounds in which the level's goal never holds.
use Rattle.std.proofs.Common.{◌≡◌, ℕ, suc, ◌<◌, ◌⊎◌, inl, inr, false, List, [], ◌∷◌, ◌++◌, length, refl, sym, ap, ◌∙◌, subst, arith, append_assoc, append-nil}
use Rattle.std.specs.List.{AllByRecursion}
use Rattle.tm_syntax.specs.Design.{DesignTree}
use Rattle.tm_sem.specs.State.{StateData}
use Rattle.tm_sem.specs.Play.{goal_holds}
use Rattle.tm_sem.specs.Fairness.{conditions, IsFair, IsMetAmong, HasRounds, no_round, one_more}
use Rattle.tm_sem.specs.Loss.{IsStarved}
use Rattle.tm_sem.proofs.Counting.{met_behind, met_before}

-- a goal fails at each of these states
abbrev pub Fail : DesignTree → ℕ → List StateData → Type 0
Fail d goal states = AllByRecursion (λ s. goal_holds d s goal ≡ false) states

fail_both : (d : DesignTree) (goal : ℕ) (a b : List StateData) → Fail d goal a → Fail d goal b → Fail d goal (a ++ b)
fail_both d goal [] b fa fb = fb
fail_both d goal (s ∷ ss) b fa fb = (fa.0, fail_both d goal ss b fa.1 fb)

-- some earlier states, then q whole rounds, then a part in which the first i conditions are met; the goal fails from
-- the rounds on
pub record Carried (d : DesignTree) (goal q i : ℕ) (before : List StateData) : Type 0 where
  pub earlier : List StateData
  pub done : List StateData
  pub part : List StateData
  pub whole : before ≡ earlier ++ (done ++ part)
  pub done_fails : Fail d goal done
  pub part_fails : Fail d goal part
  pub rounds : HasRounds d q done
  pub met : (c : ℕ) → c < i → IsMetAmong d part c

-- some earlier states, then q whole rounds, then a part which with a further state meets the first i conditions; the
-- goal fails from the rounds on, at the further state too
pub record CarriedAt (d : DesignTree) (goal q i : ℕ) (before : List StateData) (s : StateData) : Type 0 where
  pub earlier : List StateData
  pub done : List StateData
  pub part : List StateData
  pub whole : before ≡ earlier ++ (done ++ part)
  pub done_fails : Fail d goal done
  pub part_fails : Fail d goal part
  pub fails : goal_holds d s goal ≡ false
  pub rounds : HasRounds d q done
  pub met : (c : ℕ) → c < i → IsMetAmong d (part ++ s ∷ []) c

module _ (d : DesignTree) (goal q : ℕ) (before : List StateData) (s : StateData) where
  -- a play comes to a further state
  pub arrives : (i : ℕ) → Carried d goal q i before → goal_holds d s goal ≡ false → CarriedAt d goal q i before s
  arrives i c fails = record {
    earlier = c.earlier;
    done = c.done;
    part = c.part;
    whole = c.whole;
    done_fails = c.done_fails;
    part_fails = c.part_fails;
    fails = fails;
    rounds = c.rounds;
    met = λ k below. met_before d k c.part (s ∷ []) (c.met k below);
  }

  -- one condition more is met at the state
  pub meets_one_more : (i : ℕ) → CarriedAt d goal q i before s → IsFair d s i → CarriedAt d goal q (suc i) before s
  meets_one_more i c fair = record {
    earlier = c.earlier;
    done = c.done;
    part = c.part;
    whole = c.whole;
    done_fails = c.done_fails;
    part_fails = c.part_fails;
    fails = c.fails;
    rounds = c.rounds;
    met = λ k below. of_case k (cases k below);
  }
    where
      cases : (k : ℕ) → k < suc i → (k < i) ⊎ (k ≡ i)
      cases k below = grind arith

      of_case : (k : ℕ) → (k < i) ⊎ (k ≡ i) → IsMetAmong d (c.part ++ s ∷ []) k
      of_case k (inl below) = c.met k below
      of_case k (inr same) = met_behind d k c.part (s ∷ []) ([], [], s, refl, subst (IsFair d s) (sym same) fair)

  -- all states so far, with this one behind them
  with_last : (c_earlier c_done c_part : List StateData) → before ≡ c_earlier ++ (c_done ++ c_part) →
      before ++ s ∷ [] ≡ c_earlier ++ (c_done ++ (c_part ++ s ∷ []))
  with_last c_earlier c_done c_part whole =
      ap (λ l. l ++ s ∷ []) whole ∙ append_assoc c_earlier (c_done ++ c_part) (s ∷ [])
      ∙ ap (λ l. c_earlier ++ l) (append_assoc c_done c_part (s ∷ []))

  -- the play goes on behind the state
  pub leaves : (i : ℕ) → CarriedAt d goal q i before s → Carried d goal q i (before ++ s ∷ [])
  leaves i c = record {
    earlier = c.earlier;
    done = c.done;
    part = c.part ++ s ∷ [];
    whole = with_last c.earlier c.done c.part c.whole;
    done_fails = c.done_fails;
    part_fails = fail_both d goal c.part (s ∷ []) c.part_fails (c.fails, tt);
    rounds = c.rounds;
    met = c.met;
  }

  -- where all conditions are met the round is whole
  pub ends_round : CarriedAt d goal q (length (conditions d)) before s → Carried d goal (suc q) 0 (before ++ s ∷ [])
  ends_round c = record {
    earlier = c.earlier;
    done = c.done ++ (c.part ++ s ∷ []);
    part = [];
    whole = with_last c.earlier c.done c.part c.whole
        ∙ ap (λ l. c.earlier ++ l) (sym (append-nil (c.done ++ (c.part ++ s ∷ []))));
    done_fails = fail_both d goal c.done (c.part ++ s ∷ []) c.done_fails
        (fail_both d goal c.part (s ∷ []) c.part_fails (c.fails, tt));
    part_fails = tt;
    rounds = one_more (c.part ++ s ∷ []) c.rounds c.met;
    met = λ k below. absurd (omega arith);
  }

-- nothing is carried when a level is entered
pub enters : (d : DesignTree) (goal : ℕ) (before : List StateData) → Carried d goal 0 0 before
enters d goal before = record {
  earlier = before;
  done = [];
  part = [];
  whole = sym (append-nil before);
  done_fails = tt;
  part_fails = tt;
  rounds = no_round [];
  met = λ k below. absurd (omega arith);
}

-- enough rounds are a win
pub is_starved : (d : DesignTree) (goal q i : ℕ) (states : List StateData) → goal < length d.goals →
    Carried d goal q i states → IsStarved d states q
is_starved d goal q i states is_goal c = record {
  goal = goal;
  is_goal = is_goal;
  before = c.earlier;
  stretch = c.done;
  after = c.part;
  whole = c.whole;
  fails = c.done_fails;
  rounds = c.rounds;
}
