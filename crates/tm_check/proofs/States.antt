-- Sets of states as diagrams, and as tests.
use Rattle.std.proofs.Common.{◌≡◌, ◌⊎◌, inl, inr, ℕ, Bool, true, false, ◌&&◌, ◌||◌, not, List, refl, sym, ◌∙◌, subst}
use Rattle.std.proofs.Common.{arith, true≢false}
use Rattle.tm_check.specs.Reads.{IsSized}
use Rattle.tm_game_bits.specs.AssignedStates.{assignment_of, coding_of, state_of}
use Rattle.tm_game_bits.specs.Coding.{IsCoding}
use Rattle.tm_dd.specs.declared.node.NodeId.{NodeId}
use Rattle.tm_dd.specs.declared.node.TheConstants.{FALSE}
use Rattle.tm_dd.specs.Table.{Table, means}
use Rattle.tm_dd.proofs.CallerLaws.{means-FALSE}
use Rattle.tm_ddops.specs.Manager.{IsFunction}
use Rattle.tm_game_bits.specs.Functions.{Assignment}
use Rattle.tm_game_bits.proofs.Sets.{IsSetOf-same, both_true, some_true, true_first, true_second}
use Rattle.tm_game.specs.Game.{GameData, IsOf, IsSet, IsStates}
use Rattle.tm_game.proofs.SetTests.{coding_told, states_set}
use Rattle.tm_sem.specs.State.{StateData}
use Rattle.tm_sem.specs.Step.{IsState}
use Rattle.tm_syntax.specs.Design.{DesignTree}

not_so : (b : Bool) → not b ≡ true → b ≡ true → ⊥
not_so true h is = true≢false (sym h)
not_so false h is = true≢false (sym is)

so_not : (b : Bool) → (b ≡ true → ⊥) → not b ≡ true
so_not true never = absurd (never refl)
so_not false never = refl

pub never_true : (b : Bool) → (b ≡ true → ⊥) → b ≡ false
never_true true never = absurd (never refl)
never_true false never = refl

pub false_never : (b : Bool) → b ≡ false → b ≡ true → ⊥
false_never b is_not is_so = true≢false (sym is_so ∙ is_not)

module _ (d : DesignTree) (order : List ℕ) where
  -- ---- sets from others
  module _ (s t : Table) (P Q : StateData → Type 0) (f g id : NodeId) (p : IsStates d order s P f)
      (q : IsStates d order s Q g) where
    pub states_and : IsFunction t id (λ v. means s f v && means s g v) → IsStates d order t (λ st. P st × Q st) id
    states_and is = record {
      known = is.known;
      only = λ v h.
          let both = both_true (means s f v) (means s g v) (sym (is.meaning v) ∙ h) in
          let first = p.only v both.0 in
          (first.0, (first.1, (q.only v both.1).1));
      all = λ v h.
          let first = p.all v (h.0, h.1.0) in
          let second = q.all v (h.0, h.1.1) in
          is.meaning v ∙ (λ i. first i && second i);
    }

    pub states_or : IsFunction t id (λ v. means s f v || means s g v) → IsStates d order t (λ st. P st ⊎ Q st) id
    states_or is = record {
      known = is.known;
      only = λ v h. only v (some_true (means s f v) (means s g v) (sym (is.meaning v) ∙ h));
      all = λ v h. is.meaning v ∙ all v h.0 h.1;
    }
      where
        only : (v : Assignment) → (means s f v ≡ true) ⊎ (means s g v ≡ true) →
            IsState d (state_of d order v) × (P (state_of d order v) ⊎ Q (state_of d order v))
        only v (inl h) = let there = p.only v h in (there.0, inl there.1)
        only v (inr h) = let there = q.only v h in (there.0, inr there.1)

        all : (v : Assignment) → IsState d (state_of d order v) → P (state_of d order v) ⊎ Q (state_of d order v) →
            (means s f v || means s g v) ≡ true
        all v valid (inl h) = true_first (means s f v) (means s g v) (p.all v (valid, h))
        all v valid (inr h) = true_second (means s f v) (means s g v) (q.all v (valid, h))

    pub states_without : IsFunction t id (λ v. means s f v && not (means s g v)) →
        IsStates d order t (λ st. P st × (¬ Q st)) id
    states_without is = record {
      known = is.known;
      only = λ v h.
          let both = both_true (means s f v) (not (means s g v)) (sym (is.meaning v) ∙ h) in
          let first = p.only v both.0 in
          (first.0, (first.1, λ inside. not_so (means s g v) both.1 (q.all v (first.0, inside))));
      all = λ v h.
          let first = p.all v (h.0, h.1.0) in
          let second = so_not (means s g v) (λ inside. h.1.1 (q.only v inside).1) in
          is.meaning v ∙ (λ i. first i && second i);
    }

  pub states_same : (s : Table) (P Q : StateData → Type 0) (id : NodeId) →
      ((st : StateData) → IsState d st → P st → Q st) → ((st : StateData) → IsState d st → Q st → P st) →
      IsStates d order s P id → IsStates d order s Q id
  states_same s P Q id to from is =
      IsSetOf-same s (λ v. IsState d (state_of d order v) × P (state_of d order v))
      (λ v. IsState d (state_of d order v) × Q (state_of d order v)) id
      (λ v h. (h.0, to (state_of d order v) h.0 h.1)) (λ v h. (h.0, from (state_of d order v) h.0 h.1)) is

  pub states_none : (s : Table) (P : StateData → Type 0) → ((st : StateData) → ¬ P st) → IsStates d order s P FALSE
  states_none s P never = record {
    known = omega arith;
    only = λ v h. let no = means-FALSE s v in absurd (cc);
    all = λ v h. absurd (never (state_of d order v) h.1);
  }

-- ---- tests
module _ (d : DesignTree) (g : GameData) (of : IsOf d g) (sized : IsSized g) where
  coding : IsCoding d (coding_of d g.order)
  coding = coding_told d g of sized.order

  module _ (s : Table) (P : StateData → Type 0) (id : NodeId) (is : IsStates d g.order s P id) where
    pub test_only : (st : StateData) → IsState d st → means s id (assignment_of d g.order st) ≡ true → P st
    test_only st valid h = subst P (coding.back st valid) (is.only (assignment_of d g.order st) h).1

    pub test_all : (st : StateData) → IsState d st → P st → means s id (assignment_of d g.order st) ≡ true
    test_all st valid h =
        is.all (assignment_of d g.order st)
        (subst (IsState d) (sym (coding.back st valid)) valid, subst P (sym (coding.back st valid)) h)

  pub set_is : (P : StateData → Type 0) (id : NodeId) → IsStates d g.order g.diagrams.table P id → IsSet g id
  set_is = states_set d g of sized.order
