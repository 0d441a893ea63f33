-- What is left of what blocks are chosen from where the game has grown.
use Rattle.std.proofs.Common.{◌≡◌, ℕ, ◌+◌, true, false, List, Option, length, sym, ap, ◌∙◌, subst}
use Rattle.std.proofs.Math.Logic.{∥∥₁_elim}
use Rattle.std.proofs.Props.{props}
use Rattle.std.proofs.lemmas.Bool.{true≢false}
use Rattle.std.specs.Prelude.{slice_get}
use Rattle.tm_dd.specs.declared.node.NodeId.{NodeId}
use Rattle.tm_dd.specs.declared.node.TheConstants.{FALSE}
use Rattle.tm_dd.specs.Table.{means}
use Rattle.tm_dd.proofs.CallerLaws.{means-FALSE}
use Rattle.tm_flat.specs.Inputs.{room}
use Rattle.tm_game.specs.Game.{GameData, Grows}
use Rattle.tm_game.proofs.MadeSets.{false_set}
use Rattle.tm_game_bits.proofs.Extended.{Knows-Extends, means-Extends}
use Rattle.tm_game_bits.specs.Functions.{Assignment}
use Rattle.tm_game_bits.specs.States.{AreOneState, ReadsState}
use Rattle.tm_solve.specs.Ids.{Extends}
use Rattle.tm_solve_exact.specs.Coding.{coding_in}
use Rattle.tm_solve_exact.specs.Exact.{HasDesign, IsStateSet, exact_game, exact_ids, exact_side, set_of, valid_set}
use Rattle.tm_solve_exact.proofs.Growing.{game_kept, kept_exact, kept_set, same_told, same_valid}
use Rattle.tm_solve_exact.proofs.Truncated.{game_prop, of_grown, set_prop}
use Rattle.tm_strat.proofs.Carrying.{grown}
use Rattle.tm_strat.specs.Choice.{AreGoalMoves, IsChoice, IsPairs, PairAt, candidates_of, care_in, choice, constant_set}
use Rattle.tm_strat.specs.Choice.{good_in, id_in, pairs_of, setting_of}
use Rattle.tm_strat.specs.declared.choosing.GoalMoves.{GoalMoves}
use Rattle.tm_strat_drafts.specs.Growth.{Carried, Follows}
use Rattle.tm_strat_drafts.specs.Moves.{IsTold}
use Rattle.tm_strat_drafts.specs.declared.drafts.MoveChoice.{MoveChoice}
use Rattle.tm_strat_drafts.specs.declared.drafts.MoveChoice.TheVariants.{Candidate, Constant}

-- the empty set is known
pub empty_known : (g : GameData) → IsStateSet g FALSE
empty_known g = record {
  set = false_set g;
  valid = λ v there. absurd (true≢false (sym there ∙ means-FALSE g.diagrams.table v));
}

module _ (g h : GameData) (of : HasDesign g) (carried : Carried g h) where
  grows : Grows g h
  grows = grown g h carried

  pub game_same : exact_game h ≡ exact_game g
  game_same = ∥∥₁_elim of (game_prop g h) (λ x. game_kept x.0 g x.1 h grows (same_told x.0 g x.1 h grows))

  pub means_kept : (id : NodeId) → IsStateSet g id → set_of h id ≡ set_of g id
  means_kept id set = λ i s.
      means-Extends g.diagrams.table h.diagrams.table grows.diagrams id set.set.known i
      ((coding_in (grows.flat i) (grows.order i)).assignment_of s)

  pub design_kept : HasDesign h
  design_kept = of_grown g h of grows

  pub known_kept : (id : NodeId) → IsStateSet g id → IsStateSet h id
  known_kept id set = ∥∥₁_elim of (set_prop h id) (λ x. kept_set x.0 g x.1 h grows id set)

  extends : Extends (exact_ids g) (exact_ids h)
  extends = record {
    known = known_kept;
    same = means_kept;
    kept = λ id set. (known_kept id set, means_kept id set);
    of = λ d is. kept_exact d g is h grows;
    side = ap exact_side game_same;
  }

  valid_kept : (v : Assignment) → valid_set g v ≡ true → valid_set h v ≡ true
  valid_kept v there =
      ∥∥₁_elim of (hlevel props) (λ x. ap (λ f. f v) (same_valid x.0 g x.1 h grows) ∙ there)

  pub pairs_kept : (id : NodeId) → IsPairs g id → IsPairs h id
  pairs_kept id pairs =
      let same = means-Extends g.diagrams.table h.diagrams.table grows.diagrams id pairs.known in
      record {
        known = Knows-Extends g.diagrams.table h.diagrams.table grows.diagrams id pairs.known;
        reads = subst (λ (o : List ℕ). ReadsState (length o + room) (means h.diagrams.table id)) (sym grows.order)
            (subst (ReadsState (length g.order + room)) (sym same) pairs.reads);
        valid = λ v there. valid_kept v (pairs.valid v (sym (ap (λ f. f v) same) ∙ there));
      }

  pub constant_kept : (id : NodeId) → IsPairs g id → (bits : ℕ) → constant_set h id bits ≡ constant_set g id bits
  constant_kept id pairs bits = λ i s.
      means-Extends g.diagrams.table h.diagrams.table grows.diagrams id pairs.known i
      (Rattle.tm_strat.specs.Choice.with_bits (length (grows.order i)) bits
      ((coding_in (grows.flat i) (grows.order i)).assignment_of s))

  good_kept : (o : Option GoalMoves) → AreGoalMoves g o → (m : MoveChoice) → good_in h o m ≡ good_in g o m
  good_kept o moves (Candidate n) =
      means_kept (id_in (candidates_of o) n) (moves.candidates n)
  good_kept o moves (Constant shape bits) = constant_kept (id_in (pairs_of o) shape) (moves.pairs shape) bits

  pair_kept : (o : Option GoalMoves) → AreGoalMoves g o → (v : Assignment) → PairAt g o v → PairAt h o v
  pair_kept o moves v pair = record {
    shape = pair.shape;
    values = pair.values;
    below = pair.below;
    same = subst (λ (l : List ℕ). AreOneState (length l) pair.values v) (sym grows.order) pair.same;
    good = ap (λ f. f pair.values)
        (means-Extends g.diagrams.table h.diagrams.table grows.diagrams (id_in (pairs_of o) pair.shape)
        (moves.pairs pair.shape).known)
        ∙ pair.good;
  }

  moves_kept : (o : Option GoalMoves) → AreGoalMoves g o → AreGoalMoves h o
  moves_kept o moves = record {
    few = moves.few;
    pairs = λ shape. pairs_kept (id_in (pairs_of o) shape) (moves.pairs shape);
    candidates = λ n. known_kept (id_in (candidates_of o) n) (moves.candidates n);
    care = known_kept (care_in o) moves.care;
    some = λ v there.
        ∥∥₁_elim
        (moves.some v
        (sym (ap (λ f. f v)
        (means-Extends g.diagrams.table h.diagrams.table grows.diagrams (care_in o) moves.care.set.known)) ∙ there))
        (squash₁) (λ pair. ∣ pair_kept o moves v pair ∣₁);
  }

  module _ (tests : List NodeId) (goals : List GoalMoves) (is : IsChoice g tests goals) where
    holds_kept : (k : ℕ) → set_of h (id_in tests k) ≡ set_of g (id_in tests k)
    holds_kept k = means_kept (id_in tests k) (is.sets k)

    region_kept : (j : ℕ) → set_of h (care_in (slice_get goals j)) ≡ set_of g (care_in (slice_get goals j))
    region_kept j = means_kept (care_in (slice_get goals j)) (is.moves j).care

    pub choice_kept : (pending : ℕ) → choice h tests goals pending ≡ choice g tests goals pending
    choice_kept pending = λ i. record {
      states = (game_same i).states;
      tests = length tests;
      holds = λ k. holds_kept k i;
      goals = length goals;
      good = λ j m. good_kept (slice_get goals j) (is.moves j) m i;
      region = λ j. region_kept j i;
      pending = pending;
    }

    told_kept : IsTold (choice h tests goals 0)
    told_kept = subst IsTold (sym (choice_kept 0)) (record { told = is.told })

    pub is_kept : IsChoice h tests goals
    is_kept = record {
      design = design_kept;
      sets = λ k. known_kept (id_in tests k) (is.sets k);
      moves = λ j. moves_kept (slice_get goals j) (is.moves j);
      told = told_kept.told;
    }

    pub follows_kept : (pending : ℕ) → Follows (setting_of g tests goals pending) (setting_of h tests goals pending)
    follows_kept pending = record { grows = carried; game = choice_kept pending; extends = extends }
