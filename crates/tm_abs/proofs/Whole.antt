-- With the whole pool tracked each cell has one state, and both parts of a set are the set.
use Rattle.std.proofs.Common.{◌≡◌, true, Bool, refl, sym, subst}
use Rattle.std.specs.Prelude.{◌↔◌}
use Rattle.tm_flat.specs.Inputs.{AreSmall}
use Rattle.tm_flat_pool.specs.Cells.{IsInLower, IsInUpper}
use Rattle.tm_flat_pool.specs.Predicates.{pool}
use Rattle.tm_game_pool.proofs.Separated.{pool_separates}
use Rattle.tm_sem.specs.State.{StateData}
use Rattle.tm_sem.specs.Step.{IsState}
use Rattle.tm_syntax.specs.Design.{DesignTree}

pub lower_is_set : (d : DesignTree) → AreSmall d → (set : StateData → Bool) (s : StateData) → IsState d s →
    IsInLower d (pool d) set s ↔ (set s ≡ true)
lower_is_set d small set s valid = (
  λ h. h.within s valid (λ k p below. refl),
  λ here. record {
    valid = valid;
    within = λ t there same.
        subst (λ (u : StateData). set u ≡ true) (pool_separates d small s t valid there same) here;
  },
)

pub upper_is_set : (d : DesignTree) → AreSmall d → (set : StateData → Bool) (s : StateData) → IsState d s →
    IsInUpper d (pool d) set s ↔ (set s ≡ true)
upper_is_set d small set s valid = (
  λ h. subst (λ (u : StateData). set u ≡ true)
      (sym (pool_separates d small s h.meets.0 valid h.meets.1 h.meets.2)) h.meets.3,
  λ here. record { valid = valid; meets = (s, valid, λ k p below. refl, here) },
)
