-- Blocks that are chosen from what serves a certificate answer good moves.
use Rattle.std.proofs.Common.{◌≡◌, inl, inr, ℕ, zero, suc, ◌+◌, ◌-◌, ◌<◌, ◌≤◌, ◌==◌, Bool, true, false, List, [], ◌∷◌}
use Rattle.std.proofs.Common.{Option, None, length, map, slice_get, nat_lt, refl, sym, ap, ◌∙◌, subst, arith}
use Rattle.std.proofs.lemmas.Bool.{cases_lt, eqb-true}
use Rattle.std.proofs.lemmas.Bool.Decides.{nat_tests}
use Rattle.std.specs.Option.{option_map_or}
use Rattle.std.specs.Prelude.{if◌then◌else◌}
use Rattle.tm_base.specs.Arithmetic as bits
use Rattle.tm_check.specs.Replies.{move_of}
use Rattle.tm_cir.proofs.Determined.{one_answer}
use Rattle.tm_cir.specs.Answer.{Answers}
use Rattle.tm_cir.specs.Meaning.{holds}
use Rattle.tm_cir.specs.Tree.{BlockTree, compare, constant, goal}
use Rattle.tm_cir.specs.declared.block.Comparison.TheVariants as comparisons
use Rattle.tm_dd.specs.declared.node.NodeId.{NodeId}
use Rattle.tm_game.specs.Game.{GameData}
use Rattle.tm_sem.specs.Certificates.{DriverSets, IsGoodMove, IsIn, MeetsDriver, MeetsMoveForm}
use Rattle.tm_sem.specs.State.{StateData}
use Rattle.tm_sem.specs.Step.{IsState, is_driver_turn}
use Rattle.tm_sem.specs.declared.state.Move.{Move}
use Rattle.tm_solve_exact.proofs.Growing.{coding_told, valid_told}
use Rattle.tm_solve_exact.proofs.Staying.{iff_same, valid_among}
use Rattle.tm_solve_exact.specs.Exact.{coding, set_of, valid_set}
use Rattle.tm_strat.proofs.Meeting.{answered}
use Rattle.tm_strat.proofs.MeetingAnswers.{answers}
use Rattle.tm_strat.proofs.MeetingTurns.{steps_at_turn}
use Rattle.tm_strat.specs.Choice.{care_in, choice, id_in}
use Rattle.tm_strat.specs.Meeting.{Serves}
use Rattle.tm_strat.specs.Spelled.{choice_tree, draft_tree, test_tree}
use Rattle.tm_strat.specs.Trees.{predicate_tree}
use Rattle.tm_strat.specs.declared.choosing.GoalMoves.{GoalMoves}
use Rattle.tm_strat.specs.declared.predicates.Predicate.{Predicate}
use Rattle.tm_strat.specs.declared.spelling.Spelling.{Spelling}
use Rattle.tm_strat_drafts.specs.Blocks.{AreGood, EndsWell}
use Rattle.tm_strat_drafts.specs.Moves.{passes}
use Rattle.tm_strat_drafts.specs.declared.drafts.DraftBlock.{DraftBlock}
use Rattle.tm_syntax.specs.Design.{DesignTree}

-- a truth as a number that is not 0
nonzero : (b : Bool) → bits.is_nonzero (bits.bit b) ≡ b
nonzero true = refl
nonzero false = refl

none_past : {A : Type 0} (xs : List A) (k : ℕ) → length xs ≤ k → slice_get xs k ≡ None
none_past [] k above = refl
none_past (x ∷ xs) zero above = absurd (omega (arith, above))
none_past (x ∷ xs) (suc k) above = none_past xs k (omega (arith, above))

module _ (d : DesignTree) (c : DriverSets) (g : GameData) (sp : Spelling) (tests : List NodeId)
    (goals : List GoalMoves) (serves : Serves d c g sp tests goals) where
  -- behind the tests of states come those whether a goal is pending
  goal_test : (k j : ℕ) (s : StateData) → length tests ≤ k →
      (k == length tests + j) ≡ holds s j (test_tree sp k)
  goal_test k j s above =
      same
      ∙ sym (nonzero (j == k - length sp.predicates.items))
      ∙ sym (ap (λ (o : Option Predicate).
      holds s j (option_map_or (predicate_tree sp.counts) o
      (compare comparisons.Equal goal (constant (k - length sp.predicates.items)))))
      (none_past sp.predicates.items k (let count = serves.count in omega (arith, count, above))))
    where
      same : (k == length tests + j) ≡ (j == k - length sp.predicates.items)
      same =
          let count = serves.count in
          iff_same (k == length tests + j) (j == k - length sp.predicates.items)
          (λ h. let e = eqb-true k (length tests + j) h in grind (arith, nat_tests, e, count, above))
          (λ h. let e = eqb-true j (k - length sp.predicates.items) h in grind (arith, nat_tests, e, count, above))

  tests_told : (j : ℕ) (s : StateData) → IsState d s → (k : ℕ) →
      passes (choice g tests goals j) k s ≡ holds s j (test_tree sp k)
  tests_told j s state k =
      elim (cases_lt k (length tests)) as (λ _. passes (choice g tests goals j) k s ≡ holds s j (test_tree sp k)) [
        | inl low ↦
            let is_low : nat_lt k (length tests) ≡ true = grind (arith, nat_tests, low) in
            ap (λ (t : Bool). if t then set_of g (id_in tests k) s else k == length tests + j) is_low
            ∙ serves.tests_are k j s low state
        | inr high ↦
            let is_high : nat_lt k (length tests) ≡ false = grind (arith, nat_tests, high) in
            ap (λ (t : Bool). if t then set_of g (id_in tests k) s else k == length tests + j) is_high
            ∙ goal_test k j s high
      ]

  module _ (drafted : List DraftBlock) (bs : List BlockTree) (spelled : bs ≡ map (draft_tree d sp) drafted)
      (chosen : (j : ℕ) → j < length goals →
      AreGood (choice g tests goals j) drafted 0 (set_of g (care_in (slice_get goals j)))) where
    ends_at : (j : ℕ) (s : StateData) → j < length goals → IsIn d c.region s → is_driver_turn d s ≡ true →
        EndsWell (choice g tests goals j) drafted 0 s
    ends_at j s below here turn =
        (chosen j below).ends s
        (valid_among d (coding g) (coding_told d g serves.exact) (valid_set g) (valid_told d g serves.exact) s here.0)
        (serves.region j s below here turn)

    well_at : (s : StateData) (j : ℕ) (move : Move) → IsIn d c.region s → j < length d.goals →
        is_driver_turn d s ≡ true → Answers bs s j move → IsGoodMove d c j s move
    well_at s j move here below turn answer =
        let count = serves.goal_count in
        let less : j < length goals = omega (arith, below, count) in
        let ends = ends_at j s less here turn in
        let made : Answers bs s j (move_of j (choice_tree d sp ends.move) s) =
        subst (λ (l : List BlockTree). Answers l s j (move_of j (choice_tree d sp ends.move) s)) (sym spelled)
        (answers d sp (choice g tests goals j) s j (tests_told j s here.0) drafted ends.leads) in
        subst (IsGoodMove d c j s)
        (one_answer bs s j (move_of j (choice_tree d sp ends.move) s) move made answer)
        (serves.good j ends.move s less here.0 ends.good)

    pub driver_meets : MeetsMoveForm d c → MeetsDriver d (Answers bs) c
    driver_meets form = answered d (Answers bs) c form (record { each = well_at }) (steps_at_turn d)
