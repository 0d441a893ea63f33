-- Steps of the driver that are good, as diagrams.
use Rattle.std.proofs.Common.{◌≡◌, ◌⊎◌, ℕ, ◌+◌, ◌<◌, true, ◌||◌, List, length, get_or, map, inl, inr, sym, ap, ◌∙◌, subst, arith}
use Rattle.std.proofs.lemmas.Bool.{cases_lt}
use Rattle.std.proofs.lemmas.List.{get_or-map}
use Rattle.tm_dd.specs.declared.node.NodeId.{NodeId}
use Rattle.tm_dd.specs.declared.node.TheConstants.{FALSE}
use Rattle.tm_dd.specs.Reduced.{Extends}
use Rattle.tm_dd.specs.Table.{Table, Knows, means}
use Rattle.tm_dd.proofs.CallerLaws.{means-FALSE}
use Rattle.tm_ddops.specs.Manager.{IsFunction}
use Rattle.tm_game_bits.specs.declared.game.GameDiagrams.{GameDiagrams}
use Rattle.tm_game_bits.specs.declared.step.StepDiagrams.{StepDiagrams}
use Rattle.tm_game_bits.specs.Diagrams.{IsSetOf, game_of, step_of}
use Rattle.tm_game_bits.specs.Forcing.{IsLegalMove}
use Rattle.tm_game_bits.specs.Functions.{Assignment, Function, GameFunctions, StepFunctions}
use Rattle.tm_game_bits.proofs.Extended.{Knows-Extends}
use Rattle.tm_game_bits.proofs.Sets.{IsSetOf-same, some_true, true_first, true_second}
use Rattle.tm_game.specs.Inner.Good.{HasGoodLeaveBelow, IsGoodLeave, IsGoodStep}

-- the step of a number
pub good_step_is : (s t : Table) (g : GameDiagrams) (index : ℕ) (step : StepDiagrams) (set id : NodeId) →
    index < length g.driver.items → step ≡ get_or g.driver.items index step →
    IsSetOf t (IsLegalMove (game_of s g) (means s set) (step_of s step)) id →
    IsSetOf t (IsGoodStep (game_of s g) (means s set) index) id
good_step_is s t g index step set id below here is =
    IsSetOf-same t (IsLegalMove (game_of s g) (means s set) (step_of s step))
    (IsGoodStep (game_of s g) (means s set) index) id
    (λ v h d. subst (λ (f : StepFunctions). IsLegalMove (game_of s g) (means s set) f v) (sym (at d)) h)
    (λ v h.
    subst (λ (f : StepFunctions). IsLegalMove (game_of s g) (means s set) f v) (at (step_of s step))
    (h (step_of s step)))
    is
  where
    at : (d : StepFunctions) → get_or (map (step_of s) g.driver.items) index d ≡ step_of s step
    at d = get_or-map (step_of s) g.driver.items index step d below ∙ ap (step_of s) (sym here)

-- a step by which the process leaves
pub leave_here : (s t u : Table) (g : GameFunctions) (within : Function) (movers : List ℕ) (first p index : ℕ)
    (other here id : NodeId) → Knows s other → get_or movers index 0 ≡ p → Extends s t → Extends t u →
    IsSetOf t (IsGoodStep g within (first + index)) here →
    IsFunction u id (λ v. means u other v || means u here v) →
    IsSetOf u (λ v. (means s other v ≡ true) ⊎ IsGoodLeave g within movers first p index v) id
leave_here s t u g within movers first p index other here id known same one two good is =
    record { known = is.known; only = only; all = all }
  where
    other_same : (v : Assignment) → means u other v ≡ means s other v
    other_same v = two.same_meaning other (Knows-Extends s t one other known) v ∙ one.same_meaning other known v

    only : (v : Assignment) → means u id v ≡ true →
        (means s other v ≡ true) ⊎ IsGoodLeave g within movers first p index v
    only v h =
        elim (some_true (means u other v) (means u here v) (sym (is.meaning v) ∙ h)) [
          | inl earlier ↦ inl (sym (other_same v) ∙ earlier)
          | inr there ↦ inr (same, good.only v (sym (two.same_meaning here good.known v) ∙ there))
        ]

    all : (v : Assignment) → (means s other v ≡ true) ⊎ IsGoodLeave g within movers first p index v →
        means u id v ≡ true
    all v (inl h) = is.meaning v ∙ true_first (means u other v) (means u here v) (other_same v ∙ h)
    all v (inr at) =
        is.meaning v
        ∙ true_second (means u other v) (means u here v) (two.same_meaning here good.known v ∙ good.all v at.1)

-- ---- all of them
pub leaves_none : (s : Table) (g : GameFunctions) (within : Function) (movers : List ℕ) (first p : ℕ) →
    IsSetOf s (HasGoodLeaveBelow g within movers first p 0) FALSE
leaves_none s g within movers first p = record {
  known = omega arith;
  only = λ v h. let never = means-FALSE s v in absurd (cc);
  all = λ v h. absurd (omega (arith, h.1));
}

pub leaves_more : (t u : Table) (g : GameFunctions) (within : Function) (movers : List ℕ) (first p index : ℕ)
    (good id : NodeId) → IsSetOf t (HasGoodLeaveBelow g within movers first p index) good →
    IsSetOf u (λ v. (means t good v ≡ true) ⊎ IsGoodLeave g within movers first p index v) id →
    IsSetOf u (HasGoodLeaveBelow g within movers first p (index + 1)) id
leaves_more t u g within movers first p index good id so_far is =
    IsSetOf-same u (λ v. (means t good v ≡ true) ⊎ IsGoodLeave g within movers first p index v)
    (HasGoodLeaveBelow g within movers first p (index + 1)) id to from is
  where
    to : (v : Assignment) → (means t good v ≡ true) ⊎ IsGoodLeave g within movers first p index v →
        HasGoodLeaveBelow g within movers first p (index + 1) v
    to v (inl earlier) = let found = so_far.only v earlier in (found.0, omega (arith, found.1), found.2)
    to v (inr at) = (index, omega arith, at)

    from : (v : Assignment) → HasGoodLeaveBelow g within movers first p (index + 1) v →
        (means t good v ≡ true) ⊎ IsGoodLeave g within movers first p index v
    from v found =
        elim (cases_lt found.0 index)
        as (λ _. (means t good v ≡ true) ⊎ IsGoodLeave g within movers first p index v) [
          | inl before ↦ inl (so_far.all v (found.0, before, found.2))
          | inr behind ↦
              let at : found.0 ≡ index = omega (arith, found.1) in
              inr (subst (λ (i : ℕ). IsGoodLeave g within movers first p i v) at found.2)
        ]
