-- A cell is narrowed by one predicate more.
use Rattle.std.proofs.Common.{◌≡◌, ◌≢◌, ℕ, true≢false, Bool, true, false, not, ◌&&◌, List, [], ◌∷◌, ◌++◌, Some, length, refl, sym, ap, ◌∙◌, subst}
use Rattle.std.proofs.lemmas.Bool.{and_from, and_parts, not_from_false}
use Rattle.std.proofs.lemmas.List.Elements.{All-pop, All-push}
use Rattle.tm_abs.proofs.Splitting.{cell_back, cell_then}
use Rattle.tm_abs.specs.Inner.Narrowed.{IsNarrowed}
use Rattle.tm_abs.specs.Inner.Reading.{Tells}
use Rattle.tm_dd.specs.declared.node.NodeId.{NodeId}
use Rattle.tm_dd.specs.declared.node.TheConstants.{FALSE}
use Rattle.tm_dd.specs.NodeId.{complement}
use Rattle.tm_dd.specs.Reduced.{Extends, IsReduced}
use Rattle.tm_dd.specs.Table.{Table, Knows, means}
use Rattle.tm_dd.proofs.CallerLaws.{means-FALSE, means-complement}
use Rattle.tm_ddops.specs.Manager.{IsFunction}
use Rattle.tm_ddops.proofs.Supports.{somewhere}
use Rattle.tm_flat_pool.specs.Cells.{SameCell}
use Rattle.tm_flat_pool.specs.Predicates.{Predicate, predicate_holds}
use Rattle.tm_game.specs.Game.{GameData}
use Rattle.tm_game.specs.Least.{test_of}
use Rattle.tm_game_bits.proofs.Extended.{IsSetOf-Extends}
use Rattle.tm_game_bits.specs.AssignedStates.{assignment_of, coding_of, state_of}
use Rattle.tm_game_bits.specs.Coding.{IsCoding}
use Rattle.tm_game_bits.specs.Functions.{Assignment}
use Rattle.tm_game_bits.specs.States.{ReadsState}
use Rattle.tm_sem.specs.State.{StateData}
use Rattle.tm_sem.specs.Step.{IsState}
use Rattle.tm_syntax.specs.Design.{DesignTree}

is_not : (b : Bool) → not b ≡ true → b ≡ false
is_not true e = absurd (cc)
is_not false e = refl

module _ (d : DesignTree) (predicates : List Predicate) (p : Predicate) (t u : StateData) where
  pub cell_more : SameCell d predicates t u → predicate_holds d t p ≡ predicate_holds d u p →
      SameCell d (predicates ++ p ∷ []) t u
  cell_more same one =
      All-push (λ (q : Predicate). predicate_holds d t q ≡ predicate_holds d u q) predicates p same one

  pub cell_less : SameCell d (predicates ++ p ∷ []) t u →
      SameCell d predicates t u × (predicate_holds d t p ≡ predicate_holds d u p)
  cell_less same =
      All-pop (λ (q : Predicate). predicate_holds d t q ≡ predicate_holds d u q) (predicates ++ p ∷ []) predicates
      (Some p) refl same

-- a function that is true at states alone and is not false is true at one
pub some_state : (d : DesignTree) (order : List ℕ) → IsCoding d (coding_of d order) → (s : Table) → IsReduced s →
    (id : NodeId) → Knows s id → ReadsState (length order) (means s id)
    → ((v : Assignment) → means s id v ≡ true → IsState d (state_of d order v)) → id ≢ FALSE →
    (t : StateData) × IsState d t × (means s id (assignment_of d order t) ≡ true)
some_state d order coding s reduced id known reads valid differ =
    let at = somewhere s reduced id known differ in
    let t = state_of d order at.0 in (
      t,
      valid at.0 at.1,
      reads (assignment_of d order t) at.0 (coding.one (assignment_of d order t) at.0 (coding.again at.0)) ∙ at.1,
    )

-- false is true at no state
pub none_of_false : (s : Table) (id : NodeId) (v : Assignment) → id ≡ FALSE → means s id v ≡ true → ⊥
none_of_false s id v same h = let off = ap (λ (f : NodeId). means s f v) same ∙ means-FALSE s v in
    absurd (true≢false (sym h ∙ off))

-- a state is narrowed down still when diagrams are added
pub narrowed_kept : (d : DesignTree) (first : GameData) (s t : Table) → Extends s t → (set : NodeId)
    (predicates : List Predicate) (state : StateData) (cell sought : NodeId) →
    IsNarrowed d first s set predicates state cell sought → IsNarrowed d first t set predicates state cell sought
narrowed_kept d first s t e set predicates state cell sought is = record {
  valid = is.valid;
  there = is.there;
  cell_is = IsSetOf-Extends s t e
      (λ v. IsState d (state_of d first.order v) × SameCell d predicates state (state_of d first.order v)) cell
      is.cell_is;
  sought_is = IsSetOf-Extends s t e
      (λ v. IsState d (state_of d first.order v) × (SameCell d predicates state (state_of d first.order v) ×
      (test_of d first set (state_of d first.order v) ≡ true))) sought is.sought_is;
}

module _ (d : DesignTree) (first : GameData) (coding : IsCoding d (coding_of d first.order)) (s : Table) (set : NodeId)
    (predicates : List Predicate) (state : StateData) (cell sought : NodeId)
    (is : IsNarrowed d first s set predicates state cell sought) (p : Predicate) (holds : NodeId)
    (tells : Tells d first.order (means s holds) p) where
  -- what is sought and meets the predicate is a set of states
  pub met_reads : (met : NodeId) → IsFunction s met (λ v. means s sought v && means s holds v) →
      ReadsState (length first.order) (means s met)
  met_reads met met_is v w same =
      let one = coding.same v w same in
      by (means s met v) (means s met w) (to v w one) (to w v (sym one))
    where
      by : (a b : Bool) → (a ≡ true → b ≡ true) → (b ≡ true → a ≡ true) → a ≡ b
      by true true f h = refl
      by false false f h = refl
      by true false f h = sym (f refl)
      by false true f h = h refl

      to : (v w : Assignment) → state_of d first.order v ≡ state_of d first.order w → means s met v ≡ true →
          means s met w ≡ true
      to v w one here =
          let parts = and_parts (means s sought v) (means s holds v) (sym (met_is.meaning v) ∙ here) in
          let inside = is.sought_is.only v parts.0 in
          let there = is.sought_is.all w (
            subst (IsState d) one inside.0,
            subst (λ (t : StateData). SameCell d predicates state t × (test_of d first set t ≡ true)) one inside.1,
          ) in
          met_is.meaning w
          ∙ and_from (means s sought w) (means s holds w) there
          (tells w (subst (IsState d) one inside.0) ∙ ap (λ (t : StateData). predicate_holds d t p) (sym one)
          ∙ sym (tells v inside.0) ∙ parts.1)

  -- where the predicate holds at a state that is sought
  module _ (met : NodeId) (met_is : IsFunction s met (λ v. means s sought v && means s holds v)) (t : StateData)
      (t_valid : IsState d t) (t_there : means s met (assignment_of d first.order t) ≡ true) (next : NodeId)
      (next_is : IsFunction s next (λ v. means s cell v && means s holds v)) where
    abbrev at : Assignment
    at = assignment_of d first.order t

    t_parts : (means s sought at ≡ true) × (means s holds at ≡ true)
    t_parts = and_parts (means s sought at) (means s holds at) (sym (met_is.meaning at) ∙ t_there)

    t_is : state_of d first.order at ≡ t
    t_is = coding.back t t_valid

    t_inside : SameCell d predicates state t × (test_of d first set t ≡ true)
    t_inside =
        subst (λ (u : StateData). SameCell d predicates state u × (test_of d first set u ≡ true)) t_is
        (is.sought_is.only at t_parts.0).1

    t_holds : predicate_holds d t p ≡ true
    t_holds =
        ap (λ (u : StateData). predicate_holds d u p) (sym t_is)
        ∙ sym (tells at (subst (IsState d) (sym t_is) t_valid)) ∙ t_parts.1

    -- another state of its new cell
    cell_of_t : (v : Assignment) → IsState d (state_of d first.order v) →
        SameCell d predicates state (state_of d first.order v) → means s holds v ≡ true →
        SameCell d (predicates ++ p ∷ []) t (state_of d first.order v)
    cell_of_t v valid same here =
        cell_more d predicates p t (state_of d first.order v)
        (cell_then d predicates t state (state_of d first.order v) (cell_back d predicates state t t_inside.0) same)
        (t_holds ∙ sym here ∙ tells v valid)

    of_cell_t : (v : Assignment) → IsState d (state_of d first.order v) →
        SameCell d (predicates ++ p ∷ []) t (state_of d first.order v) →
        SameCell d predicates state (state_of d first.order v) × (means s holds v ≡ true)
    of_cell_t v valid same =
        let less = cell_less d predicates p t (state_of d first.order v) same in (
          cell_then d predicates state t (state_of d first.order v) t_inside.0 less.0,
          tells v valid ∙ sym less.1 ∙ t_holds,
        )

    pub narrowed_with : IsNarrowed d first s set (predicates ++ p ∷ []) t next met
    narrowed_with = record {
      valid = t_valid;
      there = t_inside.1;
      cell_is = record {
        known = next_is.known;
        only = λ v h.
            let parts = and_parts (means s cell v) (means s holds v) (sym (next_is.meaning v) ∙ h) in
            let old = is.cell_is.only v parts.0 in
            (old.0, cell_of_t v old.0 old.1 parts.1);
        all = λ v h.
            let old = of_cell_t v h.0 h.1 in
            next_is.meaning v
            ∙ and_from (means s cell v) (means s holds v) (is.cell_is.all v (h.0, old.0)) old.1;
      };
      sought_is = record {
        known = met_is.known;
        only = λ v h.
            let parts = and_parts (means s sought v) (means s holds v) (sym (met_is.meaning v) ∙ h) in
            let old = is.sought_is.only v parts.0 in
            (old.0, (cell_of_t v old.0 old.1.0 parts.1, old.1.1));
        all = λ v h.
            let old = of_cell_t v h.0 h.1.0 in
            met_is.meaning v
            ∙ and_from (means s sought v) (means s holds v) (is.sought_is.all v (h.0, (old.0, h.1.1))) old.1;
      };
    }

  -- where it holds at none
  module _ (none : (t : StateData) → IsState d t → means s sought (assignment_of d first.order t) ≡ true →
      ¬ (means s holds (assignment_of d first.order t) ≡ true)) (next : NodeId)
      (next_is : IsFunction s next (λ v. means s cell v && means s (complement holds) v)) where
    -- at a state that is sought the predicate does not hold
    fails : (t : StateData) → IsState d t → SameCell d predicates state t → test_of d first set t ≡ true →
        predicate_holds d t p ≡ false
    fails t valid same there =
        let at = assignment_of d first.order t in
        let back = coding.back t valid in
        let sought_there = is.sought_is.all at (
          subst (IsState d) (sym back) valid,
          subst (λ (u : StateData). SameCell d predicates state u × (test_of d first set u ≡ true)) (sym back)
              (same, there),
        ) in
        ap (λ (u : StateData). predicate_holds d u p) (sym back)
        ∙ sym (tells at (subst (IsState d) (sym back) valid))
        ∙ not_so (means s holds at) (none t valid sought_there)
      where
        not_so : (b : Bool) → ¬ (b ≡ true) → b ≡ false
        not_so true h = absurd (h refl)
        not_so false h = refl

    state_fails : predicate_holds d state p ≡ false
    state_fails = fails state is.valid (λ k q below. refl) is.there

    pub narrowed_without : IsNarrowed d first s set (predicates ++ p ∷ []) state next sought
    narrowed_without = record {
      valid = is.valid;
      there = is.there;
      cell_is = record {
        known = next_is.known;
        only = λ v h.
            let parts =
            and_parts (means s cell v) (means s (complement holds) v) (sym (next_is.meaning v) ∙ h) in
            let old = is.cell_is.only v parts.0 in
            let out = is_not (means s holds v) (sym (means-complement s holds v) ∙ parts.1) in (
              old.0,
              cell_more d predicates p state (state_of d first.order v) old.1
                  (state_fails ∙ sym out ∙ tells v old.0),
            );
        all = λ v h.
            let less = cell_less d predicates p state (state_of d first.order v) h.1 in
            next_is.meaning v
            ∙ and_from (means s cell v) (means s (complement holds) v) (is.cell_is.all v (h.0, less.0))
            (means-complement s holds v
            ∙ not_from_false (means s holds v) (tells v h.0 ∙ sym less.1 ∙ state_fails));
      };
      sought_is = record {
        known = is.sought_is.known;
        only = λ v h.
            let old = is.sought_is.only v h in (
              old.0,
              (
                cell_more d predicates p state (state_of d first.order v) old.1.0
                    (state_fails ∙ sym (fails (state_of d first.order v) old.0 old.1.0 old.1.1)),
                old.1.1,
              ),
            );
        all = λ v h.
            let less = cell_less d predicates p state (state_of d first.order v) h.1.0 in
            is.sought_is.all v (h.0, (less.0, h.1.1));
      };
    }

-- any state that is sought will do
pub sought_again : (d : DesignTree) (first : GameData) → IsCoding d (coding_of d first.order) → (s : Table)
    (set : NodeId) (predicates : List Predicate) (state : StateData) (cell sought : NodeId) →
    IsNarrowed d first s set predicates state cell sought → (t : StateData) → IsState d t
    → means s sought (assignment_of d first.order t) ≡ true → IsNarrowed d first s set predicates t cell sought
sought_again d first coding s set predicates state cell sought is t valid there =
    let at = assignment_of d first.order t in
    let inside = subst (λ (u : StateData). SameCell d predicates state u × (test_of d first set u ≡ true))
    (coding.back t valid) (is.sought_is.only at there).1 in
    record {
      valid = valid;
      there = inside.1;
      cell_is = record {
        known = is.cell_is.known;
        only = λ v h.
            let old = is.cell_is.only v h in (
              old.0,
              cell_then d predicates t state (state_of d first.order v)
                  (cell_back d predicates state t inside.0) old.1,
            );
        all = λ v h. is.cell_is.all v
            (h.0, cell_then d predicates state t (state_of d first.order v) inside.0 h.1);
      };
      sought_is = record {
        known = is.sought_is.known;
        only = λ v h.
            let old = is.sought_is.only v h in (
              old.0,
              (
                cell_then d predicates t state (state_of d first.order v)
                    (cell_back d predicates state t inside.0) old.1.0,
                old.1.1,
              ),
            );
        all = λ v h. is.sought_is.all v
            (h.0, (cell_then d predicates state t (state_of d first.order v) inside.0 h.1.0, h.1.1));
      };
    }
