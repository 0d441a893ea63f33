-- The sets of a solution stay while a game grows, so blocks that were made once it had grown meet them.
use Rattle.std.proofs.Common.{◌≡◌, true, List, [], ◌∷◌, length, map, refl, sym, ◌∙◌, subst}
use Rattle.std.specs.List.{range_with_len}
use Rattle.std.proofs.lemmas.List.FromFn.{length-range_with_len}
use Rattle.std.proofs.lemmas.Slice.Zip.{AllZip-long}
use Rattle.tm_dd.specs.declared.node.NodeId.{NodeId}
use Rattle.tm_flat.specs.Steps.{IsTaskStep}
use Rattle.tm_game.proofs.Growing.{states_kept}
use Rattle.tm_game.specs.Game.{GameData, Grows, IsStates}
use Rattle.tm_sem.specs.Certificates.{DriverSets, MeetsMoveForm}
use Rattle.tm_sem.specs.Step.{is_driver_turn}
use Rattle.tm_solve.specs.Iterates.{Each, KnowsAll, KnowsRanks, driver_sets, ranked_set, ranked_sets}
use Rattle.tm_solve.specs.declared.iterates.Iterates.{Iterates}
use Rattle.tm_solve.specs.declared.iterates.RankSet.{RankSet}
use Rattle.tm_solve.specs.declared.iterates.Ranking.{Ranking}
use Rattle.tm_solve_exact.proofs.Growing.{kept_exact}
use Rattle.tm_solve_exact.specs.Exact.{HasDesign, IsExactOf, exact_ids}
use Rattle.tm_strat.proofs.Carrying.{grown}
use Rattle.tm_strat.proofs.Choices.{means_kept}
use Rattle.tm_strat.proofs.MeetingPrepared.{serves}
use Rattle.tm_strat.specs.Meeting.{CanCall, Serves}
use Rattle.tm_strat.specs.Prepared.{IsPrepared}
use Rattle.tm_strat.specs.declared.choosing.GoalMoves.{GoalMoves}
use Rattle.tm_strat.specs.declared.spelling.Spelling.{Spelling}
use Rattle.tm_strat_drafts.specs.Growth.{Carried}
use Rattle.tm_syntax.specs.Design.{DesignTree}
use Rattle.tm_verdict.specs.Regular.{IsRegular}

module _ (g h : GameData) (of : HasDesign g) (carried : Carried g h) where
  ranks_same : (rs : List RankSet) → KnowsRanks (exact_ids g) rs →
      map (ranked_set (exact_ids h)) rs ≡ map (ranked_set (exact_ids g)) rs
  ranks_same [] known = refl
  ranks_same (r ∷ rs) known =
      λ i. record { fair = r.fair; set = means_kept g h of carried r.set known.0 i } ∷ ranks_same rs known.1 i

  rankings_same : (rs : List Ranking) → Each (λ (r : Ranking). KnowsRanks (exact_ids g) r.sets.items) rs →
      map (ranked_sets (exact_ids h)) rs ≡ map (ranked_sets (exact_ids g)) rs
  rankings_same [] known = refl
  rankings_same (r ∷ rs) known = λ i. ranks_same r.sets.items known.0 i ∷ rankings_same rs known.1 i

  sets_same : (it : Iterates) → KnowsAll (exact_ids g) it → driver_sets (exact_ids h) it ≡ driver_sets (exact_ids g) it
  sets_same it known = λ i. record {
    region = means_kept g h of carried it.region known.region i;
    goals = rankings_same it.ranks.items known.ranks i;
  }

-- what holds of each certificate that is served holds of the sets of the solution
pub driver_told : (d : DesignTree) (g h : GameData) → IsExactOf d g → Carried g h → IsRegular d → CanCall d →
    (it : Iterates) → KnowsAll (exact_ids g) it → (turn : NodeId) → turn ≡ g.turn →
    IsStates d g.order g.diagrams.table (λ s. is_driver_turn d s ≡ true) turn → (sp : Spelling)
    (tests : List NodeId) (goals : List GoalMoves) → IsPrepared d h it sp tests goals → (P : DriverSets → Type 0) →
    ((c : DriverSets) → Serves d c h sp tests goals → MeetsMoveForm d c → P c) →
    MeetsMoveForm d (driver_sets (exact_ids g) it) → P (driver_sets (exact_ids g) it)
driver_told d g h is carried regular can it known turn turn_same turn_is sp tests goals prepared P by form =
    subst P same
    (by (driver_sets (exact_ids h) it)
    (serves d h exact regular can it turns form_there sp tests goals tasks_long prepared) form_there)
  where
    grows : Grows g h
    grows = grown g h carried

    same : driver_sets (exact_ids h) it ≡ driver_sets (exact_ids g) it
    same = sets_same g h ∣ (d, is) ∣₁ carried it known

    exact : IsExactOf d h
    exact = kept_exact d g is h grows

    form_there : MeetsMoveForm d (driver_sets (exact_ids h) it)
    form_there = subst (MeetsMoveForm d) (sym same) form

    turns : IsStates d h.order h.diagrams.table (λ s. is_driver_turn d s ≡ true) h.turn
    turns =
        subst (λ (id : NodeId). IsStates d h.order h.diagrams.table (λ s. is_driver_turn d s ≡ true) id)
        (turn_same ∙ sym grows.turn)
        (states_kept g h grows d (λ s. is_driver_turn d s ≡ true) turn turn_is)

    tasks_long : length h.flat.tasks ≡ length d.tasks
    tasks_long =
        AllZip-long (IsTaskStep h.terms d) (range_with_len 0 (length d.tasks)) h.flat.tasks
        exact.ordered.of.flat.tasks
        ∙ length-range_with_len 0 (length d.tasks)
