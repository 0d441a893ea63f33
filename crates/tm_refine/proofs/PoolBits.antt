-- The bits of states: a set of the states with a bit, and cells whose states have one bit at each level.
use Rattle.std.proofs.Common.{◌≡◌, inl, inr, ℕ, ◌+◌, ◌<◌, [], ◌∷◌, arith, Bool, true, false, List, Option, Some, None, length, if◌then◌else◌, refl, sym, ◌∙◌, subst}
use Rattle.std.specs.Prelude.{MatchOption}
use Rattle.std.proofs.lemmas.Bool.{cases_lt}
use Rattle.std.proofs.lemmas.List.Elements.{All-nil, All-cons, All-head, All-tail}
use Rattle.tm_abs.specs.Split.{IsCut, PartsAreOne}
use Rattle.tm_dd.specs.declared.node.NodeId.{NodeId}
use Rattle.tm_dd.specs.declared.node.TheConstants.{FALSE, TRUE}
use Rattle.tm_dd.specs.Table.{Table, means}
use Rattle.tm_dd.proofs.CallerLaws.{means-FALSE, means-TRUE}
use Rattle.tm_ddops.specs.Manager.{IsFunction}
use Rattle.tm_flat_pool.specs.Cells.{SameCell}
use Rattle.tm_flat_pool.specs.Predicates.{Predicate, predicate_holds}
use Rattle.tm_game.specs.Game.{GameData, Grows, IsSet}
use Rattle.tm_game.specs.Least.{test_of}
use Rattle.tm_game.proofs.SetTests.{coding_told}
use Rattle.tm_game_bits.specs.AssignedStates.{assignment_of}
use Rattle.tm_game_bits.specs.Functions.{Assignment}
use Rattle.tm_game_pool.specs.Separating.{Separates}
use Rattle.tm_refine.specs.Apart.{HasOneBit}
use Rattle.tm_refine.specs.Pooled.{CanDecide}
use Rattle.tm_refine.specs.Searching.{IsParted}
use Rattle.tm_refine.proofs.SearchSteps.{parted_of_cut}
use Rattle.tm_sem.specs.State.{StateData}
use Rattle.tm_sem.specs.Step.{IsState}
use Rattle.tm_solve_exact.proofs.Staying.{iff_same}
use Rattle.tm_syntax.specs.Design.{DesignTree}

-- ---- the diagram of a level
bit_here : (t : Table) (v : Assignment) (b : Bool) → (if b then means t TRUE v else means t FALSE v) ≡ b
bit_here t v true = means-TRUE t v
bit_here t v false = means-FALSE t v

module _ (t : Table) (level : ℕ) (id : NodeId)
    (made : IsFunction t id (λ v. if v level then means t TRUE v else means t FALSE v)) where
  pub bit_means : (v : Assignment) → means t id v ≡ v level
  bit_means v = made.meaning v ∙ bit_here t v (v level)

-- it is a set of states
pub bit_set : (g : GameData) (level : ℕ) (id : NodeId) → level < length g.order →
    IsFunction g.diagrams.table id (λ v.
    if v level then means g.diagrams.table TRUE v else means g.diagrams.table FALSE v) → IsSet g id
bit_set g level id below made = record {
  known = made.known;
  reads = λ v w same.
      bit_means g.diagrams.table level id made v ∙ same level below ∙ sym (bit_means g.diagrams.table level id made w);
}

-- ---- cells
one_cell : (d : DesignTree) (s : StateData) (ps : List Predicate) → SameCell d ps s s
one_cell d s [] = All-nil (λ p. predicate_holds d s p ≡ predicate_holds d s p)
one_cell d s (p ∷ ps) = All-cons (λ q. predicate_holds d s q ≡ predicate_holds d s q) p ps refl (one_cell d s ps)

other_cell : (d : DesignTree) (s t : StateData) (ps : List Predicate) → SameCell d ps s t → SameCell d ps t s
other_cell d s t [] cell = All-nil (λ p. predicate_holds d t p ≡ predicate_holds d s p)
other_cell d s t (p ∷ ps) cell =
    All-cons (λ q. predicate_holds d t q ≡ predicate_holds d s q) p ps
    (sym (All-head (λ q. predicate_holds d s q ≡ predicate_holds d t q) p ps cell))
    (other_cell d s t ps (All-tail (λ q. predicate_holds d s q ≡ predicate_holds d t q) p ps cell))

-- a set that cuts no cell has one value in each
whole_cell : (d : DesignTree) (ps : List Predicate) (a : StateData → Bool) → PartsAreOne d ps a → (s t : StateData) →
    IsState d s → IsState d t → SameCell d ps s t → a s ≡ a t
whole_cell d ps a one s t valid_s valid_t cell =
    iff_same (a s) (a t)
    (λ here.
    ((one s).1 (record { valid = valid_s; meets = (s, valid_s, one_cell d s ps, here) })).within t valid_t cell)
    (λ there.
    ((one t).1 (record { valid = valid_t; meets = (t, valid_t, one_cell d t ps, there) })).within s valid_s
    (other_cell d s t ps cell))

-- what the split of the bit of a level tells
pub bit_told : (d : DesignTree) (g h : GameData) (order : g.order ≡ h.order) (level : ℕ) (id : NodeId) →
    IsFunction h.diagrams.table id (λ v.
    if v level then means h.diagrams.table TRUE v else means h.diagrams.table FALSE v) →
    (ps : List Predicate) (o : Option (StateData × StateData)) →
    MatchOption o (PartsAreOne d ps (test_of d h id)) (λ p. IsCut d ps (test_of d h id) p.0 p.1) →
    MatchOption o (HasOneBit d g.order ps level) (λ p. IsParted d ps p.0 p.1)
bit_told d g h order level id made ps None one = λ s t valid_s valid_t cell.
    subst (λ (o : List ℕ). assignment_of d o s level ≡ assignment_of d o t level) (sym order)
    (sym (bit_means h.diagrams.table level id made (assignment_of d h.order s))
    ∙ whole_cell d ps (test_of d h id) one s t valid_s valid_t cell
    ∙ bit_means h.diagrams.table level id made (assignment_of d h.order t))
bit_told d g h order level id made ps (Some p) cut = parted_of_cut d ps (test_of d h id) p.0 p.1 cut

-- cells whose states have one bit at each level hold one state each
pub bits_separate : (d : DesignTree) (g : GameData) → CanDecide d g → (ps : List Predicate) →
    ((k : ℕ) → k < length g.order → HasOneBit d g.order ps k) → Separates d ps
bits_separate d g can ps ones s t valid_s valid_t cell =
    let coding = coding_told d g can.solve.exact.ordered.of can.solve.exact.ordered.order in
    sym (coding.back s valid_s)
    ∙ coding.same (assignment_of d g.order s) (assignment_of d g.order t)
    (λ k below. ones k below s t valid_s valid_t cell)
    ∙ coding.back t valid_t

-- ---- the levels so far
module _ (g h : GameData) (grows : Grows g h) where
  pub ones_more : (level : ℕ) (d : DesignTree) (ps : List Predicate) → CanDecide d g →
      ((j : ℕ) → j < level → HasOneBit d g.order ps j) → HasOneBit d h.order ps level →
      (j : ℕ) → j < level + 1 → HasOneBit d g.order ps j
  ones_more level d ps can before one j below =
      elim (cases_lt j level) as (λ _. HasOneBit d g.order ps j) [
        | inl less ↦ before j less
        | inr past ↦
            subst (λ (m : ℕ). HasOneBit d g.order ps m) (let e : level ≡ j = omega (arith, past, below) in e)
            (subst (λ (o : List ℕ). HasOneBit d o ps level) grows.order one)
      ]

  -- a level of the first order is one of the order that there is now
  pub level_there : (read : List ℕ) → read ≡ g.order → (k : ℕ) → k < length read → k < length h.order
  level_there read is k below =
      subst (λ (l : List ℕ). k < length l) (sym grows.order) (subst (λ (l : List ℕ). k < length l) is below)
