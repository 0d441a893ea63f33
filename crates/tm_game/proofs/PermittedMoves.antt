-- Steps of the driver that are allowed, as diagrams.
use Rattle.std.proofs.Common.{◌≡◌, ◌⊎◌, ℕ, ◌+◌, ◌<◌, true, ◌&&◌, ◌||◌, List, length, get_or, map, inl, inr, sym, ap, ◌∙◌, subst, arith}
use Rattle.std.proofs.lemmas.Bool.{cases_lt}
use Rattle.std.proofs.lemmas.List.{get_or-map}
use Rattle.tm_dd.specs.declared.node.NodeId.{NodeId}
use Rattle.tm_dd.specs.declared.node.TheConstants.{FALSE}
use Rattle.tm_dd.specs.Reduced.{Extends}
use Rattle.tm_dd.specs.Table.{Table, Knows, means}
use Rattle.tm_dd.proofs.CallerLaws.{means-FALSE}
use Rattle.tm_ddops.specs.Manager.{IsFunction}
use Rattle.tm_ddops.specs.Quantified.{IsExists}
use Rattle.tm_game_bits.specs.declared.game.GameDiagrams.{GameDiagrams}
use Rattle.tm_game_bits.specs.declared.step.StepDiagrams.{StepDiagrams}
use Rattle.tm_game_bits.specs.Diagrams.{IsSetOf, KnowsStep, game_of, step_of}
use Rattle.tm_game_bits.specs.Forcing.{IsAllowed}
use Rattle.tm_game_bits.specs.Functions.{Assignment, GameFunctions, StepFunctions}
use Rattle.tm_game_bits.proofs.Extended.{Knows-Extends}
use Rattle.tm_game_bits.proofs.Sets.{IsSetOf-same, some_true, true_first, true_second}
use Rattle.tm_game_bits.proofs.StepSets.{allowed_is}
use Rattle.tm_game.specs.Inner.Permitted.{HasPermittedLeaveBelow, IsPermitted, IsPermittedLeave}

-- the step of a number
pub permitted_step_is : (s t u : Table) → Extends s t → Extends t u → (g : GameDiagrams) (index : ℕ)
    (step : StepDiagrams) (outcomes id : NodeId) → index < length g.driver.items →
    step ≡ get_or g.driver.items index step → KnowsStep s step → Knows s g.turn →
    IsExists t step.choices.items step.legal outcomes →
    IsFunction u id (λ v. means u g.turn v && means u outcomes v) → IsSetOf u (IsPermitted (game_of s g) index) id
permitted_step_is s t u one two g index step outcomes id below here known turn some both =
    IsSetOf-same u (IsAllowed (means s g.turn) (step_of s step)) (IsPermitted (game_of s g) index) id
    (λ v h d. subst (λ (f : StepFunctions). IsAllowed (means s g.turn) f v) (sym (at d)) h)
    (λ v h.
    subst (λ (f : StepFunctions). IsAllowed (means s g.turn) f v) (at (step_of s step)) (h (step_of s step)))
    (allowed_is s t u one two step known g.turn outcomes id turn some both)
  where
    at : (d : StepFunctions) → get_or (map (step_of s) g.driver.items) index d ≡ step_of s step
    at d = get_or-map (step_of s) g.driver.items index step d below ∙ ap (step_of s) (sym here)

-- a step by which the process leaves
pub leave_here : (s t u : Table) (g : GameFunctions) (movers : List ℕ) (first p index : ℕ)
    (other here id : NodeId) → Knows s other → get_or movers index 0 ≡ p → Extends s t → Extends t u →
    IsSetOf t (IsPermitted g (first + index)) here →
    IsFunction u id (λ v. means u other v || means u here v) →
    IsSetOf u (λ v. (means s other v ≡ true) ⊎ IsPermittedLeave g movers first p index v) id
leave_here s t u g movers first p index other here id known same one two may is =
    record { known = is.known; only = only; all = all }
  where
    other_same : (v : Assignment) → means u other v ≡ means s other v
    other_same v = two.same_meaning other (Knows-Extends s t one other known) v ∙ one.same_meaning other known v

    only : (v : Assignment) → means u id v ≡ true →
        (means s other v ≡ true) ⊎ IsPermittedLeave g movers first p index v
    only v h =
        elim (some_true (means u other v) (means u here v) (sym (is.meaning v) ∙ h)) [
          | inl earlier ↦ inl (sym (other_same v) ∙ earlier)
          | inr there ↦ inr (same, may.only v (sym (two.same_meaning here may.known v) ∙ there))
        ]

    all : (v : Assignment) → (means s other v ≡ true) ⊎ IsPermittedLeave g movers first p index v →
        means u id v ≡ true
    all v (inl h) = is.meaning v ∙ true_first (means u other v) (means u here v) (other_same v ∙ h)
    all v (inr at) =
        is.meaning v
        ∙ true_second (means u other v) (means u here v) (two.same_meaning here may.known v ∙ may.all v at.1)

-- ---- all of them
pub leaves_none : (s : Table) (g : GameFunctions) (movers : List ℕ) (first p : ℕ) →
    IsSetOf s (HasPermittedLeaveBelow g movers first p 0) FALSE
leaves_none s g movers first p = record {
  known = omega arith;
  only = λ v h. let never = means-FALSE s v in absurd (cc);
  all = λ v h. absurd (omega (arith, h.1));
}

pub leaves_more : (t u : Table) (g : GameFunctions) (movers : List ℕ) (first p index : ℕ)
    (so_far id : NodeId) → IsSetOf t (HasPermittedLeaveBelow g movers first p index) so_far →
    IsSetOf u (λ v. (means t so_far v ≡ true) ⊎ IsPermittedLeave g movers first p index v) id →
    IsSetOf u (HasPermittedLeaveBelow g movers first p (index + 1)) id
leaves_more t u g movers first p index so_far id earlier is =
    IsSetOf-same u (λ v. (means t so_far v ≡ true) ⊎ IsPermittedLeave g movers first p index v)
    (HasPermittedLeaveBelow g movers first p (index + 1)) id to from is
  where
    to : (v : Assignment) → (means t so_far v ≡ true) ⊎ IsPermittedLeave g movers first p index v →
        HasPermittedLeaveBelow g movers first p (index + 1) v
    to v (inl before) = let found = earlier.only v before in (found.0, omega (arith, found.1), found.2)
    to v (inr at) = (index, omega arith, at)

    from : (v : Assignment) → HasPermittedLeaveBelow g movers first p (index + 1) v →
        (means t so_far v ≡ true) ⊎ IsPermittedLeave g movers first p index v
    from v found =
        elim (cases_lt found.0 index)
        as (λ _. (means t so_far v ≡ true) ⊎ IsPermittedLeave g movers first p index v) [
          | inl before ↦ inl (earlier.all v (found.0, before, found.2))
          | inr behind ↦
              let at : found.0 ≡ index = omega (arith, found.1) in
              inr (subst (λ (i : ℕ). IsPermittedLeave g movers first p i v) at found.2)
        ]
