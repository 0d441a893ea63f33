-- What was prepared is something to choose blocks from.
use Rattle.std.proofs.Common.{◌≡◌, inl, inr, ℕ, zero, suc, ◌<◌, ◌≤◌, true, List, [], ◌∷◌, None, Some}
use Rattle.std.proofs.Common.{length, slice_get, refl, sym, ◌∙◌, subst, arith}
use Rattle.std.proofs.lemmas.Bool.{cases_lt, true≢false}
use Rattle.std.proofs.lemmas.List.{get_or_past}
use Rattle.std.specs.Prelude.{All}
use Rattle.tm_cir.specs.Meaning.{holds}
use Rattle.tm_cir.specs.Tree.{BlockTree}
use Rattle.tm_dd.specs.declared.node.NodeId.{NodeId}
use Rattle.tm_dd.specs.declared.node.TheConstants.{FALSE}
use Rattle.tm_dd.proofs.CallerLaws.{means-FALSE}
use Rattle.tm_game.specs.Game.{GameData}
use Rattle.tm_game.specs.declared.moves.MoveShape.{MoveShape}
use Rattle.tm_sem.specs.State.{StateData}
use Rattle.tm_sem.specs.StateBits.{state_widths}
use Rattle.tm_solve.specs.declared.iterates.Iterates.{Iterates}
use Rattle.tm_solve.specs.declared.iterates.RankSet.{RankSet}
use Rattle.tm_solve_exact.specs.Exact.{IsExactOf, IsStateSet}
use Rattle.tm_solve_exact.proofs.Growing.{states_set}
use Rattle.tm_strat.proofs.Choices.{empty_known}
use Rattle.tm_strat.proofs.Distinct.{told}
use Rattle.tm_strat.proofs.Goods.{are_pairs, care_set, no_pairs}
use Rattle.tm_strat.specs.Choice.{AreGoalMoves, IsChoice, id_in}
use Rattle.tm_strat.specs.Fitting.{FitsCounts}
use Rattle.tm_strat.specs.Goods.{ranks_in}
use Rattle.tm_strat.specs.Served.{AreMadeFor, IsMadeFor}
use Rattle.tm_strat.specs.Tested.{AreTestSets, HasAllBits}
use Rattle.tm_strat.specs.Trees.{predicate_tree}
use Rattle.tm_strat.specs.declared.choosing.GoalMoves.{GoalMoves}
use Rattle.tm_strat.specs.declared.numbers.Counts.{Counts}
use Rattle.tm_strat.specs.declared.predicates.Predicate.{Predicate}
use Rattle.tm_syntax.specs.Design.{DesignTree}

item : {A : Type 0} (xs : List A) (k : ℕ) → k < length xs → (x : A) × (slice_get xs k ≡ Some x)
item [] k below = absurd (omega (arith, below))
item (x ∷ xs) zero below = (x, refl)
item (x ∷ xs) (suc k) below = item xs k (omega (arith, below))

module _ (d : DesignTree) (g : GameData) (is : IsExactOf d g) where
  -- no moves at all
  none_made : AreGoalMoves g None
  none_made = record {
    few = omega arith;
    pairs = λ shape. no_pairs g;
    candidates = λ n. empty_known g;
    care = empty_known g;
    some = λ v held. absurd (true≢false (sym held ∙ means-FALSE g.diagrams.table v));
  }

  module _ (shapes : List MoveShape) (few : length shapes ≤ 4294967295) (blocks : List BlockTree) where
    goal_made : (region : NodeId) (ranks : List RankSet) (j : ℕ) (m : GoalMoves) →
        IsMadeFor d g region ranks j shapes blocks m → AreGoalMoves g (Some m)
    goal_made region ranks j m made = record {
      few = let count = made.pairs.count_is in omega (arith, count, few);
      pairs = are_pairs d g is made.zones made.targets shapes m.pairs.items made.pairs;
      candidates = λ n. candidate n;
      care = care_set d g is made.zones made.targets shapes m.pairs.items made.pairs m.care made.care;
      some = λ v held. ∣ made.care.only v held ∣₁;
    }
      where
        candidate : (n : ℕ) → IsStateSet g (id_in m.candidates.items n)
        candidate n =
            elim (cases_lt n (length blocks)) as (λ _. IsStateSet g (id_in m.candidates.items n)) [
              | inl below ↦
                  let found = item blocks n below in
                  (made.served.each n found.0 below found.1).set
              | inr past ↦
                  let count = made.served.count_is in
                  subst (IsStateSet g)
                  (sym (get_or_past m.candidates.items n FALSE (omega (arith, past, count)))) (empty_known g)
            ]

    module _ (it : Iterates) (goals : List GoalMoves) (made : AreMadeFor d g it shapes blocks goals) where
      moves_made : (j : ℕ) → AreGoalMoves g (slice_get goals j)
      moves_made j =
          elim (slice_get goals j) as (λ o. slice_get goals j ≡ o → AreGoalMoves g o) [
            | None ↦ λ here. none_made
            | Some m ↦ λ here. goal_made it.region (ranks_in it j) j m (made.each j m here)
          ] refl

      module _ (c : Counts) (fits : FitsCounts d c) (predicates : List Predicate) (tests : List NodeId)
          (sets : AreTestSets d g c predicates tests) (all : HasAllBits d c predicates)
          (wide : All (λ w. w ≤ 64) (state_widths d)) where
        test_there : (k : ℕ) → IsStateSet g (id_in tests k)
        test_there k =
            elim (cases_lt k (length predicates)) as (λ _. IsStateSet g (id_in tests k)) [
              | inl below ↦
                  let found = item predicates k below in
                  states_set d g is (λ (s : StateData). holds s 0 (predicate_tree c found.0) ≡ true) (id_in tests k)
                  (sets.each k found.0 found.1)
              | inr past ↦
                  let count = sets.count_is in
                  subst (IsStateSet g) (sym (get_or_past tests k FALSE (omega (arith, past, count)))) (empty_known g)
            ]

        pub choice_made : IsChoice g tests goals
        choice_made = record {
          design = ∣ (d, is) ∣₁;
          sets = test_there;
          moves = moves_made;
          told = told d g is c fits predicates tests sets all wide;
        }
