-- What the exact step operator of a design says at a state.
use Rattle.std.proofs.Common.{◌≡◌, ◌⊎◌, inl, inr, ℕ, ◌<◌, Bool, true, false, ◌||◌, ◌&&◌, not, refl, sym, ◌∙◌, subst}
use Rattle.tm_syntax.specs.Design.{DesignTree}
use Rattle.tm_sem.specs.declared.state.Move.{Move}
use Rattle.tm_sem.specs.State.{StateData}
use Rattle.tm_sem.specs.Step.{IsState}
use Rattle.tm_sem.specs.Play.{goal_holds}
use Rattle.tm_sem.specs.Fairness.{IsFair}
use Rattle.tm_sem.specs.Forcing.{Leads, errs, lands, Forced, by_environment, by_driver, Keeps, Stays}
use Rattle.tm_sem.specs.Certificates.{IsIn}
use Rattle.tm_solve.specs.Sets.{StateSet, outside}
use Rattle.tm_solve.specs.Game.{Game}
use Rattle.tm_solve.specs.Operator.{Operator}
use Rattle.tm_solve.specs.Exact.{IsGameOf}
use Rattle.tm_solve.proofs.Sets.{not_false}

-- a move that keeps to a set keeps to a greater one
pub keeps_more : {d : DesignTree} {s : StateData} {move : Move} (P Q : StateData → Type 0) →
    ((t : StateData) → P t → Q t) →
    Keeps d P s move → Keeps d Q s move
keeps_more P Q f keeps = record {
  no_error = keeps.no_error;
  ends_within = λ choices t step. f t (keeps.ends_within choices t step);
}

leads_more : {d : DesignTree} {s : StateData} {move : Move} (P Q : StateData → Type 0) → ((t : StateData) → P t → Q t) →
    Leads d P s move → Leads d Q s move
leads_more P Q f (errs choices step) = errs choices step
leads_more P Q f (lands choices t step here) = lands choices t step (f t here)

-- what is forced into a set is forced into a greater one
pub forced_more : {d : DesignTree} {s : StateData} (P Q : StateData → Type 0) → ((t : StateData) → P t → Q t) →
    Forced d P s → Forced d Q s
forced_more P Q f (by_environment move is leads) = by_environment move is (leads_more P Q f leads)
forced_more P Q f (by_driver turn all) = by_driver turn (λ move allowed. leads_more P Q f (all move allowed))

-- the three ways in which the operator holds
pub data Ways (d : DesignTree) (z y x : StateSet) (j i : ℕ) (s : StateData) : Type 0 where
  by_goal : goal_holds d s j ≡ true → Stays d (IsIn d z) s → Ways d z y x j i s
  by_step : Stays d (IsIn d y) s → Ways d z y x j i s
  by_wait : ¬ IsFair d s i → Stays d (IsIn d x) s → Ways d z y x j i s

-- what is known where it does not hold
pub record Fails (d : DesignTree) (z y x : StateSet) (j i : ℕ) (s : StateData) : Type 0 where
  pub goal : goal_holds d s j ≡ true → Forced d (IsIn d z) s
  pub step : Forced d (IsIn d y) s
  pub wait : IsFair d s i ⊎ Forced d (IsIn d x) s

or_three : (a b c : Bool) → ((a || b) || c) ≡ true → (a ≡ true) ⊎ ((b ≡ true) ⊎ (c ≡ true))
or_three true b c e = inl refl
or_three false true c e = inr (inl refl)
or_three false false c e = inr (inr e)

first_true : (a b : Bool) → (a && b) ≡ true → (a ≡ true) × (b ≡ true)
first_true true b e = (refl, e)
first_true false b e = cc

none : (a b c : Bool) → ((a || b) || c) ≡ false → (a ≡ false) × (b ≡ false) × (c ≡ false)
none true b c e = cc
none false true c e = cc
none false false c e = (refl, refl, e)

second_false : (a b : Bool) → (a && b) ≡ false → a ≡ true → b ≡ false
second_false true b e h = e
second_false false b e h = cc

one_false : (a b : Bool) → (not a && b) ≡ false → (a ≡ true) ⊎ (b ≡ false)
one_false true b e = inl refl
one_false false b e = inr e

module _ {d : DesignTree} {op : Operator} {g : Game} (exact : IsGameOf d op g) where
  pub part_ways : (z y x : StateSet) (j i : ℕ) (s : StateData) → IsState d s → i < g.fairs → g.part z y x j i s ≡ true →
      Ways d z y x j i s
  part_ways z y x j i s valid below holds =
      at (or_three _ _ _ (sym (exact.part z y x j i s (exact.all s valid)) ∙ holds))
    where
      at : ((op.goal j s && op.stay z s) ≡ true) ⊎ ((op.stay y s ≡ true) ⊎ ((not (op.fair i s) && op.stay x s) ≡ true))
          →
          Ways d z y x j i s
      at (inl e) =
          let h = first_true _ _ e in
          by_goal (sym (exact.goal j s valid) ∙ h.0) (exact.stay z s valid h.1)
      at (inr (inl e)) = by_step (exact.stay y s valid e)
      at (inr (inr e)) =
          let h = first_true _ _ e in
          by_wait (exact.unfair i s (subst (λ (n : ℕ). i < n) exact.fairs below) valid (not_false _ h.0))
          (exact.stay x s valid h.1)

  -- what is forced out of all that is outside a set is forced into it
  forced_in : (a : StateSet) (s : StateData) → Forced d (IsIn d (outside (outside a))) s → Forced d (IsIn d a) s
  forced_in a s forced =
      forced_more (IsIn d (outside (outside a))) (IsIn d a) (λ t here. (here.0, at (a t) here.1)) forced
    where
      at : (b : Bool) → not (not b) ≡ true → b ≡ true
      at true e = refl
      at false e = e

  pub part_fails : (z y kept x : StateSet) → ((t : StateData) → outside kept t ≡ true → x t ≡ true) →
      (j i : ℕ) (s : StateData) → IsState d s → i < g.fairs →
      g.part (outside z) (outside y) kept j i s ≡ false → Fails d z y x j i s
  part_fails z y kept x out j i s valid below fails =
      let no = none _ _ _ (sym (exact.part (outside z) (outside y) kept j i s (exact.all s valid)) ∙ fails) in
      record {
        goal = λ holds. forced_in z s (exact.leave (outside z) s valid
            (second_false _ _ no.0 (exact.goal j s valid ∙ holds)));
        step = forced_in y s (exact.leave (outside y) s valid no.1);
        wait = at (one_false _ _ no.2);
      }
    where
      at : (op.fair i s ≡ true) ⊎ (op.stay kept s ≡ false) → IsFair d s i ⊎ Forced d (IsIn d x) s
      at (inl e) = inl (exact.fair i s (subst (λ (n : ℕ). i < n) exact.fairs below) valid e)
      at (inr e) = inr (forced_more (IsIn d (outside kept)) (IsIn d x) (λ t here. (here.0, out t here.1))
          (exact.leave kept s valid e))
