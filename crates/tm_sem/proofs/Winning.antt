-- What the environment forces in some steps it forces in more.
use Rattle.std.proofs.Common.{◌≡◌, ℕ, zero, suc, ◌+◌, ◌-◌, ◌≤◌, List, [], ◌∷◌, ◌++◌, inl, inr, subst, arith}
use Rattle.tm_syntax.specs.Design.{DesignTree}
use Rattle.tm_sem.specs.declared.state.Move.{Move}
use Rattle.tm_sem.specs.State.{StateData}
use Rattle.tm_sem.specs.Forcing.{Leads, errs, lands, Forced, by_environment, by_driver}
use Rattle.tm_sem.specs.Loss.{IsStarved, Beats}

module _ (d : DesignTree) (a b : StateData → Type 0) (wider : (s : StateData) → a s → b s) (s : StateData) where
  leads_wider : (move : Move) → Leads d a s move → Leads d b s move
  leads_wider move (errs choices step) = errs choices step
  leads_wider move (lands choices t step there) = lands choices t step (wider t there)

  -- what is forced into a set is forced into a larger one
  pub forced_wider : Forced d a s → Forced d b s
  forced_wider (by_environment move is leads) = by_environment move is (leads_wider move leads)
  forced_wider (by_driver turn all) = by_driver turn (λ move allowed. leads_wider move (all move allowed))

-- a win in some steps is one in more
pub one_step_more : (d : DesignTree) (t : ℕ) (before : List StateData) (s : StateData) (n : ℕ) →
    Beats d t before s n → Beats d (suc t) before s n
one_step_more d zero before s n won = inl won
one_step_more d (suc t) before s n (inl won) = inl won
one_step_more d (suc t) before s n (inr forced) =
    inr (forced_wider d (λ next. Beats d t (before ++ s ∷ []) next n)
    (λ next. Beats d (suc t) (before ++ s ∷ []) next n)
    (λ next won. one_step_more d t (before ++ s ∷ []) next n won) s forced)

more_by : (gap t u : ℕ) → u ≡ t + gap → (d : DesignTree) (before : List StateData) (s : StateData) (n : ℕ) →
    Beats d t before s n → Beats d u before s n
more_by zero t u is d before s n won =
    let same : t ≡ u = omega arith in subst (λ x. Beats d x before s n) same won
more_by (suc gap) t u is d before s n won =
    more_by gap (suc t) u (omega arith) d before s n (one_step_more d t before s n won)

-- a win in some steps is one in any larger number of them
pub more_steps : (d : DesignTree) (t u : ℕ) (before : List StateData) (s : StateData) (n : ℕ) → t ≤ u →
    Beats d t before s n → Beats d u before s n
more_steps d t u before s n le won = more_by (u - t) t u (omega arith) d before s n won

-- a starved play is won, in any number of steps
pub starved_beats : (d : DesignTree) (t : ℕ) (before : List StateData) (s : StateData) (n : ℕ) →
    IsStarved d (before ++ s ∷ []) n → Beats d t before s n
starved_beats d zero before s n starved = starved
starved_beats d (suc t) before s n starved = inl starved
