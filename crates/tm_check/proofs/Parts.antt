-- The states at which the parts of a certificate are found to fail, as diagrams.
use Rattle.std.proofs.Common.{◌≡◌, ◌⊎◌, inl, inr, ℕ, zero, suc, ◌+◌, ◌<◌, Bool, true, false, ◌&&◌, ◌||◌, not, List, []}
use Rattle.std.proofs.Common.{◌∷◌, Some, length, get_or, take, refl, sym, ap, ◌∙◌, subst, arith}
use Rattle.std.specs.Prelude.{slice_get}
use Rattle.std.specs.List.{list_any}
use Rattle.std.proofs.lemmas.Option.{slice_get-get_or, slice_get_within}
use Rattle.tm_check.specs.declared.loaded.DriverDiagrams.{DriverDiagrams}
use Rattle.tm_check.specs.declared.steps.Descent.{Descent}
use Rattle.tm_check.specs.Leaving.{HasRank, IsAsked, IsBreaking, IsFairFor, allowed_ranks}
use Rattle.tm_check.specs.Told.{IsTold}
use Rattle.tm_check.proofs.States.{never_true, false_never, states_and, states_or, states_same, states_without}
use Rattle.tm_cir.specs.Answer.{Answers}
use Rattle.tm_cir.specs.Tree.{BlockTree}
use Rattle.tm_dd.specs.declared.node.NodeId.{NodeId}
use Rattle.tm_dd.specs.Table.{Table, means}
use Rattle.tm_ddops.specs.Manager.{IsFunction}
use Rattle.tm_verdict.specs.Found.{AnswerKeeps, Awaits, IsFound, IsOfRank, MayLeave, within_rank}
use Rattle.tm_verdict.proofs.Ranks.{of_rank, rank_is}
use Rattle.tm_game.specs.Game.{GameData, IsStates}
use Rattle.tm_sem.specs.declared.state.Move.{Move}
use Rattle.tm_sem.specs.Certificates.{AreRanked, DriverSets, RankedSet, rank}
use Rattle.tm_sem.specs.Forcing.{IsCalm}
use Rattle.tm_sem.specs.Play.{goal_holds}
use Rattle.tm_sem.specs.State.{StateData}
use Rattle.tm_sem.specs.Step.{IsInitial, is_driver_turn}
use Rattle.tm_syntax.specs.Design.{DesignTree}
use Rattle.tm_verdict.specs.Driver.{begins_within, is_answered, is_calm, is_ranked, lies_within}

-- ---- the ranked regions of a goal
module _ (d : DesignTree) (bs : List BlockTree) (c : DriverSets) (g : GameData) (told : DriverDiagrams)
    (is : IsTold d bs c g told) (goal : ℕ) (there : goal < length told.goals.items) where
  -- the goal has ranked regions
  pub ranked_here : (ranked : List RankedSet) × AreRanked c goal ranked
  ranked_here =
      (get_or c.goals goal [], slice_get-get_or c.goals goal [] (omega (arith, is.diagrams.count)))

-- ---- one diagram for each part
module _ (d : DesignTree) (order : List ℕ) (answers : StateData → ℕ → Move → Type 0) (c : DriverSets) where
  one_ranked : (goal : ℕ) (one other : List RankedSet) → AreRanked c goal one → AreRanked c goal other → one ≡ other
  one_ranked goal one other is also = let same : Some one ≡ Some other = sym is ∙ also in cc

  module _ (s t : Table) (region set id : NodeId) (region_is : IsStates d order s (λ st. c.region st ≡ true) region)
    where
      pub lying_is : (goal k : ℕ) (ranked : List RankedSet) (r : RankedSet) → AreRanked c goal ranked →
          slice_get ranked k ≡ Some r → IsStates d order s (λ st. r.set st ≡ true) set →
          IsFunction t id (λ v. means s set v && not (means s region v)) →
          IsStates d order t (IsFound d answers c (lies_within goal k)) id
      lying_is goal k ranked r are at set_is is =
          states_same d order t (λ st. (r.set st ≡ true) × (¬ (c.region st ≡ true)))
          (IsFound d answers c (lies_within goal k)) id
          (λ st valid h. (ranked, r, are, at, h.0, never_true (c.region st) h.1))
          (λ st valid h. from st h.0 h.1 h.2 h.3 h.4 h.5)
          (states_without d order s t (λ st. r.set st ≡ true) (λ st. c.region st ≡ true) set region id set_is region_is
          is)
        where
          from : (st : StateData) (other : List RankedSet) (q : RankedSet) → AreRanked c goal other →
              slice_get other k ≡ Some q → q.set st ≡ true → c.region st ≡ false →
              (r.set st ≡ true) × (¬ (c.region st ≡ true))
          from st other q also here within out =
              let same = one_ranked goal other ranked also are in
              let one : Some q ≡ Some r = sym here ∙ ap (λ xs. slice_get xs k) same ∙ at in
              let own : q ≡ r = cc in (
                subst (λ (x : RankedSet). x.set st ≡ true) own within,
                false_never (c.region st) out,
              )

      pub beginning_is : IsStates d order s (IsInitial d) set →
          IsFunction t id (λ v. means s set v && not (means s region v)) →
          IsStates d order t (IsFound d answers c begins_within) id
      beginning_is set_is is =
          states_same d order t (λ st. IsInitial d st × (¬ (c.region st ≡ true))) (IsFound d answers c begins_within) id
          (λ st valid h. (h.0, never_true (c.region st) h.1)) (λ st valid h. (h.0, false_never (c.region st) h.1))
          (states_without d order s t (IsInitial d) (λ st. c.region st ≡ true) set region id set_is region_is is)

      pub ranking_is : (goal : ℕ) (ranked : List RankedSet) → AreRanked c goal ranked →
          IsStates d order s (λ st. within_rank ranked (length ranked) st ≡ true) set →
          IsFunction t id (λ v. means s region v && not (means s set v)) →
          IsStates d order t (IsFound d answers c (is_ranked goal)) id
      ranking_is goal ranked are set_is is =
          states_same d order t
          (λ st. (c.region st ≡ true) × (¬ (within_rank ranked (length ranked) st ≡ true)))
          (IsFound d answers c (is_ranked goal)) id
          (λ st valid h. (ranked, are, h.0, never_true (within_rank ranked (length ranked) st) h.1))
          (λ st valid h. (
            h.2,
            false_never (within_rank ranked (length ranked) st)
                (subst (λ (xs : List RankedSet). within_rank xs (length xs) st ≡ false)
                (one_ranked goal h.0 ranked h.1 are) h.3),
          ))
          (states_without d order s t (λ st. c.region st ≡ true)
          (λ st. within_rank ranked (length ranked) st ≡ true) region set id region_is set_is is)

      pub calming_is : IsStates d order s (IsCalm d (λ st. c.region st ≡ true)) set →
          IsFunction t id (λ v. means s region v && not (means s set v)) →
          IsStates d order t (IsFound d answers c is_calm) id
      calming_is set_is is =
          states_without d order s t (λ st. c.region st ≡ true) (IsCalm d (λ st. c.region st ≡ true)) region set id
          region_is set_is is

  pub answering_is : (s t : Table) (goal : ℕ) (here good id : NodeId) →
      IsStates d order s (λ st. (c.region st ≡ true) × (is_driver_turn d st ≡ true)) here →
      IsStates d order s (AnswerKeeps d answers c.region goal) good →
      IsFunction t id (λ v. means s here v && not (means s good v)) →
      IsStates d order t (IsFound d answers c (is_answered goal)) id
  answering_is s t goal here good id here_is good_is is =
      states_same d order t
      (λ st. ((c.region st ≡ true) × (is_driver_turn d st ≡ true)) × (¬ AnswerKeeps d answers c.region goal st))
      (IsFound d answers c (is_answered goal)) id (λ st valid h. (h.0.0, h.0.1, h.1))
      (λ st valid h. ((h.0, h.1), h.2))
      (states_without d order s t (λ st. (c.region st ≡ true) × (is_driver_turn d st ≡ true))
      (AnswerKeeps d answers c.region goal) here good id here_is good_is is)

-- ---- ranks
module _ (ranked : List RankedSet) where
  -- with the region of an index
  pub within_more : (k : ℕ) (r : RankedSet) (st : StateData) → slice_get ranked k ≡ Some r →
      within_rank ranked (1 + k) st ≡ (within_rank ranked k st || r.set st)
  within_more k r st at = by ranked k r at
    where
      assoc : (a b x : Bool) → (a || (b || x)) ≡ ((a || b) || x)
      assoc true b x = refl
      assoc false b x = refl

      last : (b : Bool) → (b || false) ≡ (false || b)
      last true = refl
      last false = refl

      by : (xs : List RankedSet) (n : ℕ) (q : RankedSet) → slice_get xs n ≡ Some q →
          list_any (λ (x : RankedSet). x.set st) (take (1 + n) xs)
          ≡ (list_any (λ (x : RankedSet). x.set st) (take n xs) || q.set st)
      by [] n q there = absurd (cc)
      by (x ∷ xs) zero q there =
          let one : x ≡ q = cc in
          let first : 1 + 0 ≡ suc 0 = omega arith in
          ap (λ m. list_any (λ (y : RankedSet). y.set st) (take m (x ∷ xs))) first
          ∙ last (x.set st)
          ∙ ap (λ (y : RankedSet). false || y.set st) one
      by (x ∷ xs) (suc n) q there =
          let more : 1 + suc n ≡ suc (1 + n) = omega arith in
          ap (λ m. list_any (λ (y : RankedSet). y.set st) (take m (x ∷ xs))) more
          ∙ ap (λ b. x.set st || b) (by xs n q there)
          ∙ assoc (x.set st) (list_any (λ (y : RankedSet). y.set st) (take n xs)) (q.set st)

  pub within_next : (d : DesignTree) (order : List ℕ) (s t : Table) (k : ℕ) (r : RankedSet) (before set id : NodeId) →
      slice_get ranked k ≡ Some r → IsStates d order s (λ st. within_rank ranked k st ≡ true) before →
      IsStates d order s (λ st. r.set st ≡ true) set →
      IsFunction t id (λ v. means s before v || means s set v) →
      IsStates d order t (λ st. within_rank ranked (1 + k) st ≡ true) id
  within_next d order s t k r before set id at before_is set_is is =
      states_same d order t (λ st. (within_rank ranked k st ≡ true) ⊎ (r.set st ≡ true))
      (λ st. within_rank ranked (1 + k) st ≡ true) id
      (λ st valid h. within_more k r st at ∙ some (within_rank ranked k st) (r.set st) h)
      (λ st valid h. which (within_rank ranked k st) (r.set st) (sym (within_more k r st at) ∙ h))
      (states_or d order s t (λ st. within_rank ranked k st ≡ true) (λ st. r.set st ≡ true) before set id before_is
      set_is is)
    where
      some : (a b : Bool) → (a ≡ true) ⊎ (b ≡ true) → (a || b) ≡ true
      some true b h = refl
      some false b (inl h) = absurd (cc)
      some false b (inr h) = h

      which : (a b : Bool) → (a || b) ≡ true → (a ≡ true) ⊎ (b ≡ true)
      which true b h = inl refl
      which false b h = inr h

  -- a state of the region of an index that no earlier one holds is of its rank, and the other way round
  pub added_rank : (k : ℕ) (r : RankedSet) (st : StateData) → slice_get ranked k ≡ Some r → r.set st ≡ true →
      within_rank ranked k st ≡ false → rank ranked st ≡ 1 + k
  added_rank k r st at within outside =
      rank_is ranked k st (slice_get_within ranked k r at) (record {
        within = within_more k r st at ∙ (λ i. outside i || within i);
        not_before = outside;
      })

  pub rank_added : (k : ℕ) (r : RankedSet) (st : StateData) → slice_get ranked k ≡ Some r → rank ranked st ≡ 1 + k →
      (r.set st ≡ true) × (within_rank ranked k st ≡ false)
  rank_added k r st at is =
      let of = of_rank ranked k st (slice_get_within ranked k r at) is in (
        (λ i. sym of.not_before i || r.set st) ∙ sym (within_more k r st at) ∙ of.within,
        of.not_before,
      )

-- the states of a ranked region that no earlier one holds
pub adding_is : (d : DesignTree) (order : List ℕ) (s t : Table) (ranked : List RankedSet) (k : ℕ) (r : RankedSet)
    (set before id : NodeId) → slice_get ranked k ≡ Some r → IsStates d order s (λ st. r.set st ≡ true) set →
    IsStates d order s (λ st. within_rank ranked k st ≡ true) before →
    IsFunction t id (λ v. means s set v && not (means s before v)) →
    IsStates d order t (λ st. rank ranked st ≡ 1 + k) id
adding_is d order s t ranked k r set before id at set_is before_is is =
    states_same d order t (λ st. (r.set st ≡ true) × (¬ (within_rank ranked k st ≡ true)))
    (λ st. rank ranked st ≡ 1 + k) id
    (λ st valid h. added_rank ranked k r st at h.0 (never_true (within_rank ranked k st) h.1))
    (λ st valid h.
    let both = rank_added ranked k r st at h in
    (both.0, false_never (within_rank ranked k st) both.1))
    (states_without d order s t (λ st. r.set st ≡ true) (λ st. within_rank ranked k st ≡ true) set before id set_is
    before_is is)

-- the states of the region at which a goal fails
pub awaiting_is : (d : DesignTree) (order : List ℕ) (c : DriverSets) (goal : ℕ) (s t : Table)
    (region holds id : NodeId) → IsStates d order s (λ st. c.region st ≡ true) region →
    IsStates d order s (λ st. goal_holds d st goal ≡ true) holds →
    IsFunction t id (λ v. means s region v && not (means s holds v)) → IsStates d order t (Awaits d c goal) id
awaiting_is d order c goal s t region holds id region_is holds_is is =
    states_same d order t (λ st. (c.region st ≡ true) × (¬ (goal_holds d st goal ≡ true))) (Awaits d c goal) id
    (λ st valid h. record { here = h.0; fails = never_true (goal_holds d st goal) h.1 })
    (λ st valid h. (h.here, false_never (goal_holds d st goal) h.fails))
    (states_without d order s t (λ st. c.region st ≡ true) (λ st. goal_holds d st goal ≡ true) region holds id region_is
    holds_is is)

-- ---- steps
module _ (d : DesignTree) (bs : List BlockTree) (c : DriverSets) (order : List ℕ) (goal index : ℕ)
    (ranked : List RankedSet) (r : RankedSet) (are : AreRanked c goal ranked) (at : slice_get ranked index ≡ Some r)
  where
    same_ranked : (other : List RankedSet) → AreRanked c goal other → other ≡ ranked
    same_ranked other also = let same : Some other ≡ Some ranked = sym also ∙ are in cc

    of_this : (other : List RankedSet) (st : StateData) → AreRanked c goal other → IsOfRank other index st →
        IsOfRank ranked index st
    of_this other st also of = subst (λ (xs : List RankedSet). IsOfRank xs index st) (same_ranked other also) of

    -- the states that have the rank
    pub rank_states : (s t : Table) (set before id : NodeId) → IsStates d order s (λ st. r.set st ≡ true) set →
        IsStates d order s (λ st. within_rank ranked index st ≡ true) before →
        IsFunction t id (λ v. means s set v && not (means s before v)) →
        IsStates d order t (HasRank c goal index) id
    rank_states s t set before id set_is before_is is =
        states_same d order t (λ st. rank ranked st ≡ 1 + index) (HasRank c goal index) id
        (λ st valid h. record {
          ranked = ranked;
          are = are;
          of = of_rank ranked index st (slice_get_within ranked index r at) h;
        })
        (λ st valid h.
        rank_is ranked index st (slice_get_within ranked index r at) (of_this h.ranked st h.are h.of))
        (adding_is d order s t ranked index r set before id at set_is before_is is)

    -- those of which a descent asks something
    pub asked_is : (descent : Descent) (s : Table) (id : NodeId) →
        IsStates d order s
        (λ st. (HasRank c goal index st × Awaits d c goal st) × IsFairFor d descent r.fair st) id →
        IsStates d order s (IsAsked d c descent goal index) id
    asked_is descent s id is =
        states_same d order s
        (λ st. (HasRank c goal index st × Awaits d c goal st) × IsFairFor d descent r.fair st)
        (IsAsked d c descent goal index) id
        (λ st valid h. record {
          ranked = ranked;
          own = r;
          are = are;
          at = at;
          of = of_this h.0.0.ranked st h.0.0.are h.0.0.of;
          awaits = h.0.1;
          fair = h.1;
        })
        (λ st valid h.
        let same = same_ranked h.ranked h.are in
        let one : Some h.own ≡ Some r = sym h.at ∙ ap (λ xs. slice_get xs index) same ∙ at in
        let own_rank : h.own ≡ r = cc in (
          (record { ranked = h.ranked; are = h.are; of = h.of }, h.awaits),
          subst (λ (x : RankedSet). IsFairFor d descent x.fair st) own_rank h.fair,
        )) is

-- those among them at which it is broken
module _ (d : DesignTree) (bs : List BlockTree) (c : DriverSets) (order : List ℕ) (goal index : ℕ)
    (ranked : List RankedSet) (are : AreRanked c goal ranked) (descent : Descent) where
  -- not every step stays within the ranks that it allows
  abbrev Leaves : List RankedSet → StateData → Type 0
  Leaves xs st = MayLeave d (Answers bs) (within_rank xs (allowed_ranks descent index)) goal st

  pub breaking_is : (s t : Table) (asked leaving id : NodeId) →
      IsStates d order s (IsAsked d c descent goal index) asked →
      IsStates d order s (MayLeave d (Answers bs) (within_rank ranked (allowed_ranks descent index)) goal) leaving →
      IsFunction t id (λ v. means s asked v && means s leaving v) →
      IsStates d order t (IsBreaking d bs c descent goal index) id
  breaking_is s t asked leaving id asked_are leaving_is is =
      states_same d order t (λ st. IsAsked d c descent goal index st × Leaves ranked st)
      (IsBreaking d bs c descent goal index) id
      (λ st valid h. (
        h.0,
        subst (λ (xs : List RankedSet). Leaves xs st)
            (one_ranked d order (Answers bs) c goal ranked h.0.ranked are h.0.are) h.1,
      ))
      (λ st valid h. (
        h.0,
        subst (λ (xs : List RankedSet). Leaves xs st)
            (one_ranked d order (Answers bs) c goal h.0.ranked ranked h.0.are are) h.1,
      ))
      (states_and d order s t (IsAsked d c descent goal index) (Leaves ranked) asked leaving id asked_are leaving_is is)
