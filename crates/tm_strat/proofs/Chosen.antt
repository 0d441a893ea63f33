-- What is answered of what blocks are chosen from: sets of states, tests and moves.
use Rattle.std.proofs.Common.{◌≡◌, ℕ, ◌+◌, ◌-◌, ◌≤◌, ◌==◌, Bool, true, false, ◌&&◌, not, List}
use Rattle.std.proofs.Common.{Result, IfOk, length, nat_lt, refl, sym, ap, ◌∙◌, subst}
use Rattle.std.proofs.Common.{arith}
use Rattle.std.proofs.Math.Logic.{∥∥₁_elim}
use Rattle.std.proofs.lemmas.Bool.Decides.{nat_tests}
use Rattle.std.proofs.lemmas.Result.{IfOk-weaker}
use Rattle.std.specs.Prelude.{if◌then◌else◌}
use Rattle.tm_dd.specs.declared.node.NodeId.{NodeId}
use Rattle.tm_dd.specs.declared.node.TheConstants.{FALSE}
use Rattle.tm_dd.specs.Table.{Knows, means}
use Rattle.tm_dd.proofs.CallerLaws.{means-FALSE}
use Rattle.tm_ddops.specs.Manager.{IsFunction}
use Rattle.tm_game.specs.Game.{GameData, Grows}
use Rattle.tm_game_bits.specs.Functions.{Assignment}
use Rattle.tm_sem.specs.Certificates.{nowhere}
use Rattle.tm_sem.specs.State.{StateData}
use Rattle.tm_solve.specs.Ids.{Is}
use Rattle.tm_solve.specs.Sets.{StateSet}
use Rattle.tm_solve_exact.specs.Exact.{HasDesign, IsExactOf, IsStateSet, coding, exact_game, exact_ids, set_of}
use Rattle.tm_solve_exact.specs.Exact.{valid_set}
use Rattle.tm_solve_exact.proofs.Answering.{both_told, is_told, rest_told}
use Rattle.tm_solve_exact.proofs.Truncated.{is_prop, ok_prop}
use Rattle.tm_solve_exact.proofs.Whole.{whole_any}
use Rattle.tm_game_bits.proofs.Extended.{means-Extends}
use Rattle.tm_syntax.specs.Design.{DesignTree}
use Rattle.tm_strat.proofs.Carrying.{grown}
use Rattle.tm_strat.proofs.Choices.{empty_known}
use Rattle.tm_strat.specs.Choice.{IsChoice, choice, id_in}
use Rattle.tm_strat.specs.declared.choosing.GoalMoves.{GoalMoves}
use Rattle.tm_strat_drafts.specs.Growth.{Carried}
use Rattle.tm_strat_drafts.specs.Moves.{passes}

pub nothing_is : (g : GameData) → Is (exact_game g).states (exact_ids g) FALSE nowhere
nothing_is g = record {
  known = empty_known g;
  means = record { same = λ s among. means-FALSE g.diagrams.table ((coding g).assignment_of s) };
}

if_cases : (P : Type 0) (t a b : Bool) → (a ≡ true → P) → (b ≡ true → P) → (if t then a else b) ≡ true → P
if_cases P true a b f g h = f h
if_cases P false a b f g h = g h

module _ (d : DesignTree) (g h : GameData) (is : IsExactOf d g) (grows : Grows g h) (t a b : NodeId)
    (in_t : IsStateSet g t) (in_a : IsStateSet g a) (in_b : IsStateSet g b) (id : NodeId) where
  kept : (i : NodeId) → IsStateSet g i → means h.diagrams.table i ≡ means g.diagrams.table i
  kept i set = means-Extends g.diagrams.table h.diagrams.table grows.diagrams i set.set.known

  chosen_told : IsFunction h.diagrams.table id
      (λ v. if means h.diagrams.table t v then means h.diagrams.table a v else means h.diagrams.table b v) →
      Is (exact_game g).states (exact_ids h) id
      (λ s. if set_of g t s then set_of g a s else set_of g b s)
  chosen_told function =
      is_told d g h is grows
      (λ v. if means g.diagrams.table t v then means g.diagrams.table a v else means g.diagrams.table b v)
      (λ v w one. λ i. if in_t.set.reads v w one i then in_a.set.reads v w one i else in_b.set.reads v w one i)
      (λ v. if_cases (valid_set g v ≡ true) (means g.diagrams.table t v) (means g.diagrams.table a v)
      (means g.diagrams.table b v) (in_a.valid v) (in_b.valid v))
      (λ s. if set_of g t s then set_of g a s else set_of g b s) (λ s. refl) id
      (subst (λ (f : Assignment → Bool). IsFunction h.diagrams.table id f)
      (λ i v. if kept t in_t i v then kept a in_a i v else kept b in_b i v) function)

module _ (g h : GameData) (of : HasDesign g) (carried : Carried g h) (a b : NodeId) (in_a : IsStateSet g a)
    (in_b : IsStateSet g b) {E : Type 0} (r : Result NodeId E) where
  pub both_is : (Knows g.diagrams.table a → Knows g.diagrams.table b → IfOk r (λ id. IsFunction h.diagrams.table id
      (λ v. means h.diagrams.table a v && means h.diagrams.table b v))) →
      IfOk r (λ id. Is (exact_game g).states (exact_ids h) id (λ s. set_of g a s && set_of g b s))
  both_is answer =
      ∥∥₁_elim of (ok_prop r _ (λ id. is_prop g h _ id))
      (λ x. IfOk-weaker r _ _
      (λ id function. both_told x.0 g h x.1 (grown g h carried) a b in_a in_b id function)
      (answer in_a.set.known in_b.set.known))

  pub rest_is : (Knows g.diagrams.table a → Knows g.diagrams.table b → IfOk r (λ id. IsFunction h.diagrams.table id
      (λ v. means h.diagrams.table a v && not (means h.diagrams.table b v)))) →
      IfOk r (λ id. Is (exact_game g).states (exact_ids h) id (λ s. set_of g a s && not (set_of g b s)))
  rest_is answer =
      ∥∥₁_elim of (ok_prop r _ (λ id. is_prop g h _ id))
      (λ x. IfOk-weaker r _ _
      (λ id function. rest_told x.0 g h x.1 (grown g h carried) a b in_a in_b id function)
      (answer in_a.set.known in_b.set.known))

  pub chosen_is : (t : NodeId) → IsStateSet g t → (Knows g.diagrams.table t → Knows g.diagrams.table a →
      Knows g.diagrams.table b → IfOk r (λ id. IsFunction h.diagrams.table id
      (λ v. if means h.diagrams.table t v then means h.diagrams.table a v else means h.diagrams.table b v))) →
      IfOk r (λ id. Is (exact_game g).states (exact_ids h) id
      (λ s. if set_of g t s then set_of g a s else set_of g b s))
  chosen_is t in_t answer =
      ∥∥₁_elim of (ok_prop r _ (λ id. is_prop g h _ id))
      (λ x. IfOk-weaker r _ _
      (λ id function. chosen_told x.0 g h x.1 (grown g h carried) t a b in_t in_a in_b id function)
      (answer in_t.set.known in_a.set.known in_b.set.known))

-- ---- tests
lt_false : (k n : ℕ) → n ≤ k → nat_lt k n ≡ false
lt_false k n above = grind (arith, nat_tests, above)

module _ (g : GameData) (tests : List NodeId) (goals : List GoalMoves) (is : IsChoice g tests goals)
    (pending k : ℕ) (id : NodeId) where
  abbrev pub IsTest : Type 0
  IsTest = Is (exact_game g).states (exact_ids g) id (passes (choice g tests goals pending) k)

  by_choice : (set : StateSet) → ((s : StateData) → set s ≡ passes (choice g tests goals pending) k s) →
      Is (exact_game g).states (exact_ids g) id set → IsTest
  by_choice set same there = record {
    known = there.known;
    means = record { same = λ s among. there.means.same s among ∙ same s };
  }

  goal_test : length tests ≤ k → (b : Bool) → (k == length tests + pending) ≡ b →
      Is (exact_game g).states (exact_ids g) id (λ s. b) → IsTest
  goal_test above b same there =
      by_choice (λ s. b)
      (λ s. sym same ∙ ap (λ (t : Bool). if t then set_of g (id_in tests k) s else k == length tests + pending)
      (sym (lt_false k (length tests) above)))
      there

  pub own_test : length tests ≤ k → k - length tests ≡ pending → id ≡ g.valid → IsTest
  own_test above own same =
      goal_test above true (grind (arith, nat_tests, above, own)) (whole_any g is.design id same)

  pub other_test : length tests ≤ k → ¬ (k - length tests ≡ pending) → id ≡ FALSE → IsTest
  other_test above other same =
      goal_test above false (grind (arith, nat_tests, above, other))
      (subst (λ (i : NodeId). Is (exact_game g).states (exact_ids g) i nowhere) (sym same) (nothing_is g))
