-- The states from which not every step stays within the ranks before one: those from which not every step stays within
-- the ranks up to it, and those from which some step ends in it.
use Rattle.std.proofs.Common.{◌≡◌, ◌⊎◌, inl, inr, ℕ, ◌+◌, ◌<◌, Bool, true, false, ◌&&◌, ◌||◌, not, List, Some, length}
use Rattle.std.proofs.Common.{get_or, refl, sym, ◌∙◌, subst, arith}
use Rattle.std.specs.Prelude.{slice_get}
use Rattle.std.proofs.lemmas.Option.{slice_get-get_or}
use Rattle.tm_check.specs.declared.loaded.DriverDiagrams.{DriverDiagrams}
use Rattle.tm_check.specs.declared.replies.Replies.{Replies}
use Rattle.tm_check.specs.Leaving.{AreAnswers, HasRank, Plays}
use Rattle.tm_check.specs.Loaded.{row_at}
use Rattle.tm_check.specs.Reads.{IsSized}
use Rattle.tm_check.specs.Told.{IsTold}
use Rattle.tm_check.proofs.Keeping.{answers_kept, told_kept}
use Rattle.tm_check.proofs.LeavingRanks.{plays_of}
use Rattle.tm_check.proofs.Parts.{within_more}
use Rattle.tm_check.proofs.States.{false_never, states_or, states_same, states_without, test_all, test_only}
use Rattle.tm_check.proofs.Staying.{keeps_along}
use Rattle.tm_cir.specs.Answer.{Answers}
use Rattle.tm_cir.specs.Tree.{BlockTree}
use Rattle.tm_dd.specs.declared.node.NodeId.{NodeId}
use Rattle.tm_dd.specs.Table.{Table, means}
use Rattle.tm_ddops.specs.Manager.{IsFunction}
use Rattle.tm_game.proofs.Growing.{grows_then}
use Rattle.tm_game.specs.Game.{GameData, Grows, IsOf, IsStates}
use Rattle.tm_game_bits.proofs.Extended.{IsSetOf-Extends}
use Rattle.tm_game_bits.proofs.Sets.{true_first}
use Rattle.tm_game_bits.specs.AssignedStates.{assignment_of, state_of}
use Rattle.tm_sem.specs.declared.state.Move.{Move}
use Rattle.tm_sem.specs.declared.state.Outcome.TheVariants.{Next}
use Rattle.tm_sem.specs.Certificates.{AreRanked, DriverSets, RankedSet}
use Rattle.tm_sem.specs.Forcing.{Keeps}
use Rattle.tm_sem.specs.State.{StateData}
use Rattle.tm_sem.specs.Step.{IsState}
use Rattle.tm_syntax.specs.Design.{DesignTree}
use Rattle.tm_verdict.specs.Found.{MayLeave, within_rank}
use Rattle.tm_verdict.specs.Regular.{IsRegular}

-- ---- a set that holds just the states of two
module _ (d : DesignTree) (regular : IsRegular d) (answers : StateData → ℕ → Move → Type 0) (goal : ℕ)
    (one other both : StateData → Bool)
    (meet : (t : StateData) → IsState d t → one t ≡ true → other t ≡ true → both t ≡ true)
    (first : (t : StateData) → IsState d t → both t ≡ true → one t ≡ true)
    (second : (t : StateData) → IsState d t → both t ≡ true → other t ≡ true) where
  -- what may leave a set may leave one that lies in it
  along : (P Q : StateData → Bool) → ((t : StateData) → IsState d t → Q t ≡ true → P t ≡ true) → (s : StateData) →
      IsState d s → MayLeave d answers P goal s → MayLeave d answers Q goal s
  along P Q within s valid (inl stirs) =
      inl (λ calm. stirs (λ move others.
      keeps_along d regular (λ t. Q t ≡ true) (λ t. P t ≡ true) within s move valid (calm move others)))
  along P Q within s valid (inr (turn, bad)) =
      inr (
        turn,
        λ good. bad (λ move answered.
            let this = good move answered in
            (this.0, keeps_along d regular (λ t. Q t ≡ true) (λ t. P t ≡ true) within s move valid this.1)),
      )

  -- a move that stays in each of them stays in both
  keeps_both : (s : StateData) (move : Move) → IsState d s → Keeps d (λ t. one t ≡ true) s move →
      Keeps d (λ t. other t ≡ true) s move → Keeps d (λ t. both t ≡ true) s move
  keeps_both s move valid a b = record {
    no_error = a.no_error;
    ends_within = λ choices t step.
        meet t (regular.steady s move choices (Next t) valid step) (a.ends_within choices t step)
        (b.ends_within choices t step);
  }

  -- what may leave both may leave one of them
  never_neither : (s : StateData) → IsState d s → MayLeave d answers both goal s → ¬ MayLeave d answers one goal s →
      ¬ MayLeave d answers other goal s → ⊥
  never_neither s valid (inl stirs) never nor =
      never (inl (λ a. nor (inl (λ b. stirs (λ move others. keeps_both s move valid (a move others) (b move others))))))
  never_neither s valid (inr (turn, bad)) never nor =
      never (inr (
        turn,
        λ a. nor (inr (
          turn,
          λ b. bad (λ move answered.
              let this = a move answered in (this.0, keeps_both s move valid this.1 (b move answered).1)),
        )),
      ))

  module _ (g : GameData) (of : IsOf d g) (sized : IsSized g) (s t : Table) (left ending id : NodeId)
      (left_is : IsStates d g.order s (MayLeave d answers one goal) left)
      (ending_is : IsStates d g.order s (MayLeave d answers other goal) ending) where
    -- a diagram tells whether a state may leave its set
    told : (P : StateData → Type 0) (x : NodeId) → IsStates d g.order s P x → (st : StateData) → IsState d st →
        P st ⊎ (¬ P st)
    told P x is st valid = by (means s x (assignment_of d g.order st)) refl
      where
        by : (b : Bool) → means s x (assignment_of d g.order st) ≡ b → P st ⊎ (¬ P st)
        by true h = inl (test_only d g of sized s P x is st valid h)
        by false h =
            inr (λ so.
            false_never (means s x (assignment_of d g.order st)) h (test_all d g of sized s P x is st valid so))

    split : (st : StateData) → IsState d st → MayLeave d answers both goal st →
        MayLeave d answers one goal st ⊎ MayLeave d answers other goal st
    split st valid leaves =
        by (told (MayLeave d answers one goal) left left_is st valid)
        (told (MayLeave d answers other goal) ending ending_is st valid)
      where
        by : MayLeave d answers one goal st ⊎ (¬ MayLeave d answers one goal st) →
            MayLeave d answers other goal st ⊎ (¬ MayLeave d answers other goal st) →
            MayLeave d answers one goal st ⊎ MayLeave d answers other goal st
        by (inl a) b = inl a
        by (inr never) (inl b) = inr b
        by (inr never) (inr nor) = absurd (never_neither st valid leaves never nor)

    pub leaves_either : IsFunction t id (λ v. means s left v || means s ending v) →
        IsStates d g.order t (MayLeave d answers both goal) id
    leaves_either is =
        states_same d g.order t (λ st. MayLeave d answers one goal st ⊎ MayLeave d answers other goal st)
        (MayLeave d answers both goal) id (λ st valid h. joined st valid h) (λ st valid h. split st valid h)
        (states_or d g.order s t (MayLeave d answers one goal) (MayLeave d answers other goal) left ending id left_is
        ending_is is)
      where
        joined : (st : StateData) → IsState d st →
            MayLeave d answers one goal st ⊎ MayLeave d answers other goal st → MayLeave d answers both goal st
        joined st valid (inl a) = along one both first st valid a
        joined st valid (inr b) = along other both second st valid b

-- ---- the ranks up to one, and the states that do not have it
-- whether a state does not have a rank
abbrev pub lacks_rank : List RankedSet → ℕ → StateData → Bool
lacks_rank ranked index s = not (within_rank ranked (1 + index) s && not (within_rank ranked index s))

lacks_meet : (a b : Bool) → a ≡ true → not (a && not b) ≡ true → b ≡ true
lacks_meet true true h is = refl
lacks_meet true false h is = is
lacks_meet false b h is = absurd (cc)

lacks_before : (a b : Bool) → b ≡ true → not (a && not b) ≡ true
lacks_before true true h = refl
lacks_before false true h = refl
lacks_before a false h = absurd (cc)

lacks_both : (a b : Bool) → not (a && not b) ≡ true → a ≡ true → b ≡ false → ⊥
lacks_both true false is h e = absurd (cc)
lacks_both true true is h e = absurd (cc)
lacks_both false b is h e = absurd (cc)

lacks_else : (a b : Bool) → (a ≡ true → b ≡ false → ⊥) → not (a && not b) ≡ true
lacks_else true true never = refl
lacks_else true false never = absurd (never refl refl)
lacks_else false b never = refl

module _ (d : DesignTree) (order : List ℕ) (c : DriverSets) (goal index : ℕ) (ranked : List RankedSet)
    (are : AreRanked c goal ranked) where
  -- the valid states without those of a rank
  pub others_are : (s t : Table) (valid own id : NodeId) → IsStates d order s (λ st. Unit {0}) valid →
      IsStates d order s (HasRank c goal index) own →
      IsFunction t id (λ v. means s valid v && not (means s own v)) →
      IsStates d order t (λ st. lacks_rank ranked index st ≡ true) id
  others_are s t valid own id valid_is own_is is =
      states_same d order t (λ st. Unit {0} × (¬ HasRank c goal index st))
      (λ st. lacks_rank ranked index st ≡ true) id
      (λ st here h. lacks_else (within_rank ranked (1 + index) st) (within_rank ranked index st)
      (λ within before.
      h.1 (record { ranked = ranked; are = are; of = record { within = within; not_before = before } })))
      (λ st here h. (tt, λ has. never st h has))
      (states_without d order s t (λ st. Unit {0}) (HasRank c goal index) valid own id valid_is own_is is)
    where
      never : (st : StateData) → lacks_rank ranked index st ≡ true → HasRank c goal index st → ⊥
      never st lacks has =
          let same : Some has.ranked ≡ Some ranked = sym has.are ∙ are in
          let list : has.ranked ≡ ranked = cc in
          lacks_both (within_rank ranked (1 + index) st) (within_rank ranked index st) lacks
          (subst (λ (xs : List RankedSet). within_rank xs (1 + index) st ≡ true) list has.of.within)
          (subst (λ (xs : List RankedSet). within_rank xs index st ≡ false) list has.of.not_before)

  module _ (regular : IsRegular d) (answers : StateData → ℕ → Move → Type 0) (r : RankedSet)
      (at : slice_get ranked index ≡ Some r) (g : GameData) (of : IsOf d g) (sized : IsSized g) where
    pub one_less : (s t : Table) (left ending id : NodeId) →
        IsStates d g.order s (MayLeave d answers (within_rank ranked (1 + index)) goal) left →
        IsStates d g.order s (MayLeave d answers (lacks_rank ranked index) goal) ending →
        IsFunction t id (λ v. means s left v || means s ending v) →
        IsStates d g.order t (MayLeave d answers (within_rank ranked index) goal) id
    one_less s t left ending id left_is ending_is is =
        leaves_either d regular answers goal (within_rank ranked (1 + index)) (lacks_rank ranked index)
        (within_rank ranked index)
        (λ st here up_to lacks.
        lacks_meet (within_rank ranked (1 + index) st) (within_rank ranked index st) up_to lacks)
        (λ st here before.
        within_more ranked index r st at ∙ true_first (within_rank ranked index st) (r.set st) before)
        (λ st here before. lacks_before (within_rank ranked (1 + index) st) (within_rank ranked index st) before)
        g of sized s t left ending id left_is ending_is is

-- ---- the ranks up to one, of a certificate as its diagrams tell it
module _ (d : DesignTree) (bs : List BlockTree) (c : DriverSets) (g : GameData) (told : DriverDiagrams)
    (is : IsTold d bs c g told) (goal index : ℕ) (ranked : List RankedSet) (are : AreRanked c goal ranked) where
  pub others_here : (h k : GameData) → Grows h k → (valid own others : NodeId) →
      IsStates d h.order h.diagrams.table (λ st. Unit {0}) valid →
      IsStates d h.order h.diagrams.table (HasRank c goal index) own →
      IsFunction k.diagrams.table others (λ v. means h.diagrams.table valid v && not (means h.diagrams.table own v)) →
      IsStates d k.order k.diagrams.table (λ st. lacks_rank ranked index st ≡ true) others
  others_here h k grows valid own others valid_is own_is fn =
      subst (λ (o : List ℕ). IsStates d o k.diagrams.table (λ st. lacks_rank ranked index st ≡ true) others)
      (sym grows.order)
      (others_are d h.order c goal index ranked are h.diagrams.table k.diagrams.table valid own others valid_is own_is
      fn)

  pub ending_here : (answers : List Replies) → AreAnswers d bs g answers → (k l : GameData) → Grows g k →
      (replies : Replies) → slice_get answers goal ≡ Some replies → (others ending : NodeId) →
      IsStates d k.order k.diagrams.table (λ st. lacks_rank ranked index st ≡ true) others →
      ((e : DesignTree) (blocks : List BlockTree) (pending : ℕ) (test : StateData → Bool) →
      Plays e blocks pending k replies → IsStates e k.order k.diagrams.table (λ st. test st ≡ true) others →
      IsStates e k.order l.diagrams.table (MayLeave e (Answers blocks) test pending) ending) →
      IsStates d k.order l.diagrams.table (MayLeave d (Answers bs) (lacks_rank ranked index) goal) ending
  ending_here answers of k l grows replies there others ending others_is leaves =
      leaves d bs goal (lacks_rank ranked index)
      (plays_of d bs c k told (told_kept d g k grows bs c told is) answers (answers_kept d g k grows bs answers of) goal
      replies there) others_is

  pub less_here : index < length (row_at told goal) → (k l m : GameData) → Grows g k → Grows k l → Grows l m →
      (left ending id : NodeId) →
      IsStates d g.order g.diagrams.table (MayLeave d (Answers bs) (within_rank ranked (1 + index)) goal) left →
      IsStates d k.order l.diagrams.table (MayLeave d (Answers bs) (lacks_rank ranked index) goal) ending →
      IsFunction m.diagrams.table id (λ v. means l.diagrams.table left v || means l.diagrams.table ending v) →
      IsStates d g.order m.diagrams.table (MayLeave d (Answers bs) (within_rank ranked index) goal) id
  less_here below k l m gk kl lm left ending id left_is ending_is fn =
      one_less d g.order c goal index ranked are is.regular (Answers bs) (get_or ranked index spare)
      (slice_get-get_or ranked index spare (omega (arith, below, (is.diagrams.each goal ranked are).count))) g is.of
      is.sized l.diagrams.table m.diagrams.table left ending id
      (IsSetOf-Extends g.diagrams.table l.diagrams.table (grows_then g k l gk kl).diagrams
      (λ v. IsState d (state_of d g.order v)
      × MayLeave d (Answers bs) (within_rank ranked (1 + index)) goal (state_of d g.order v)) left left_is)
      (subst (λ (o : List ℕ).
      IsStates d o l.diagrams.table (MayLeave d (Answers bs) (lacks_rank ranked index) goal) ending) gk.order
      ending_is) fn
    where
      spare : RankedSet
      spare = record { fair = 0; set = λ t. true }
