-- The states from which not every step stays within some ranks, rank by rank and goal by goal.
use Rattle.std.proofs.Common.{◌≡◌, ◌⊎◌, inl, inr, ℕ, ◌+◌, ◌-◌, ◌<◌, Bool, true, ◌&&◌, ◌||◌, not, List, [], ◌∷◌}
use Rattle.std.proofs.Common.{◌++◌, Some, length, reverse, get_or, refl, sym, ap, ◌∙◌, subst, arith}
use Rattle.std.specs.Prelude.{slice_get}
use Rattle.std.proofs.lemmas.List.{get_or-reverse, length-reverse, length_push}
use Rattle.std.proofs.lemmas.Option.{slice_get-get_or, slice_get_within}
use Rattle.tm_check.specs.declared.replies.Replies.{Replies}
use Rattle.tm_check.specs.Good.{IsAnsweredWell}
use Rattle.tm_check.proofs.Growth.{sized_kept}
use Rattle.tm_check.proofs.Pushed.{pushed_at}
use Rattle.tm_check.specs.declared.leaving.Leaving.{Leaving}
use Rattle.tm_check.specs.declared.loaded.DriverDiagrams.{DriverDiagrams}
use Rattle.tm_check.specs.Leaving.{AreAnswers, AreLeaving, AreLeavingRanks, Plays}
use Rattle.tm_check.specs.Loaded.{row_at}
use Rattle.tm_check.specs.Told.{IsTold, last_within}
use Rattle.tm_check.proofs.Found.{last_is}
use Rattle.tm_game_bits.specs.AssignedStates.{state_of}
use Rattle.tm_check.proofs.Keeping.{leaving_ranks_kept}
use Rattle.tm_check.proofs.Parts.{ranked_here}
use Rattle.tm_check.proofs.States.{states_or, states_same, states_without}
use Rattle.tm_check.proofs.Staying.{answered_same, calm_same}
use Rattle.tm_cir.specs.Answer.{Answers}
use Rattle.tm_cir.specs.Tree.{BlockTree}
use Rattle.tm_dd.specs.declared.node.NodeId.{NodeId}
use Rattle.tm_dd.specs.Table.{Knows, means}
use Rattle.tm_ddops.specs.Manager.{IsFunction}
use Rattle.tm_verdict.specs.Found.{AnswerKeeps, MayLeave, within_rank}
use Rattle.tm_game_bits.proofs.Extended.{IsSetOf-Extends}
use Rattle.tm_game.specs.Game.{GameData, Grows, IsStates, in_set}
use Rattle.tm_game.proofs.Growing.{grows_then, of_kept, states_kept}
use Rattle.tm_sem.specs.Certificates.{AreRanked, DriverSets, RankedSet}
use Rattle.tm_sem.specs.Forcing.{IsCalm}
use Rattle.tm_sem.specs.State.{StateData}
use Rattle.tm_sem.specs.Step.{IsState, is_driver_turn}
use Rattle.tm_syntax.specs.Design.{DesignTree}

-- a set is left by a step of the environment, or by the answer
pub may_leave_is : (d : DesignTree) (bs : List BlockTree) (goal : ℕ) (g h k l m n : GameData) (r : Replies) →
    Plays d bs goal g r → Grows g h → Grows h k → Grows k l → Grows l m → Grows m n → (test : StateData → Bool)
    (set valid turn calm stirring good bad id : NodeId) →
    IsStates d g.order g.diagrams.table (λ s. test s ≡ true) set →
    IsStates d g.order g.diagrams.table (λ s. Unit {0}) valid →
    IsStates d g.order g.diagrams.table (λ s. is_driver_turn d s ≡ true) turn →
    IsStates d g.order h.diagrams.table (IsCalm d (in_set d g set)) calm →
    IsFunction k.diagrams.table stirring (λ v. means h.diagrams.table valid v && not (means h.diagrams.table calm v)) →
    IsStates d k.order l.diagrams.table (IsAnsweredWell d bs goal (in_set d k set)) good →
    IsFunction m.diagrams.table bad (λ v. means l.diagrams.table turn v && not (means l.diagrams.table good v)) →
    IsFunction n.diagrams.table id (λ v. means m.diagrams.table stirring v || means m.diagrams.table bad v) →
    IsStates d g.order n.diagrams.table (MayLeave d (Answers bs) test goal) id
may_leave_is d bs goal g h k l m n r plays gh hk kl lm mn test set valid turn calm stirring good bad id set_is valid_is
    turn_is calm_is stirring_is good_is bad_is is =
    states_same d g.order n.diagrams.table Made (MayLeave d (Answers bs) test goal) id
    (λ s in_design h. to s h) (λ s in_design h. from s h) made
  where
    gk : Grows g k
    gk = grows_then g h k gh hk

    gl : Grows g l
    gl = grows_then g k l gk kl

    at : (x : GameData) (P : StateData → Type 0) (i : NodeId) → Grows g x →
        IsStates d x.order x.diagrams.table P i → IsStates d g.order x.diagrams.table P i
    at x P i grows here = subst (λ (o : List ℕ). IsStates d o x.diagrams.table P i) grows.order here

    calm_test : IsStates d g.order h.diagrams.table (IsCalm d (λ t. test t ≡ true)) calm
    calm_test = calm_same d g plays.of plays.sized plays.regular set test set_is h.diagrams.table calm calm_is

    stirs : IsStates d g.order k.diagrams.table (λ s. Unit {0} × (¬ IsCalm d (λ t. test t ≡ true) s)) stirring
    stirs = states_without d g.order h.diagrams.table k.diagrams.table (λ s. Unit {0})
        (IsCalm d (λ t. test t ≡ true)) valid calm stirring
        (at h (λ s. Unit {0}) valid gh (states_kept g h gh d (λ s. Unit {0}) valid valid_is)) calm_test stirring_is

    set_later : IsStates d k.order k.diagrams.table (λ s. test s ≡ true) set
    set_later = states_kept g k gk d (λ s. test s ≡ true) set set_is

    good_test : IsStates d g.order l.diagrams.table (AnswerKeeps d (Answers bs) test goal) good
    good_test = subst (λ (o : List ℕ). IsStates d o l.diagrams.table (AnswerKeeps d (Answers bs) test goal) good)
        gk.order
        (answered_same d k (of_kept g k gk d plays.of) (sized_kept g k gk plays.sized) plays.regular set test set_later
        bs goal l.diagrams.table good good_is)

    bads : IsStates d g.order m.diagrams.table
        (λ s. (is_driver_turn d s ≡ true) × (¬ AnswerKeeps d (Answers bs) test goal s)) bad
    bads = states_without d g.order l.diagrams.table m.diagrams.table (λ s. is_driver_turn d s ≡ true)
        (AnswerKeeps d (Answers bs) test goal) turn good bad
        (at l (λ s. is_driver_turn d s ≡ true) turn gl
        (states_kept g l gl d (λ s. is_driver_turn d s ≡ true) turn turn_is)) good_test bad_is

    km : Grows k m
    km = grows_then k l m kl lm

    stirs_later : IsStates d g.order m.diagrams.table (λ s. Unit {0} × (¬ IsCalm d (λ t. test t ≡ true) s)) stirring
    stirs_later = IsSetOf-Extends k.diagrams.table m.diagrams.table km.diagrams
        (λ v. IsState d (state_of d g.order v)
        × (Unit {0} × (¬ IsCalm d (λ t. test t ≡ true) (state_of d g.order v)))) stirring stirs

    Made : StateData → Type 0
    Made s = (Unit {0} × (¬ IsCalm d (λ t. test t ≡ true) s))
        ⊎ ((is_driver_turn d s ≡ true) × (¬ AnswerKeeps d (Answers bs) test goal s))

    made : IsStates d g.order n.diagrams.table Made id
    made = states_or d g.order m.diagrams.table n.diagrams.table
        (λ s. Unit {0} × (¬ IsCalm d (λ t. test t ≡ true) s))
        (λ s. (is_driver_turn d s ≡ true) × (¬ AnswerKeeps d (Answers bs) test goal s)) stirring bad id stirs_later bads
        is

    to : (s : StateData) → Made s → MayLeave d (Answers bs) test goal s
    to s (inl h) = inl h.1
    to s (inr h) = inr h

    from : (s : StateData) → MayLeave d (Answers bs) test goal s → Made s
    from s (inl h) = inl (tt, h)
    from s (inr h) = inr h

-- ---- rank by rank
-- those for all of so many ranks, and for one less, and so on
pub record AreFirstLeaving (d : DesignTree) (bs : List BlockTree) (c : DriverSets) (g : GameData) (goal ranks count : ℕ)
    (sets : List NodeId) : Type 0 where
  pub long : length sets ≡ count
  pub each : (ranked : List RankedSet) (k : ℕ) (id : NodeId) → AreRanked c goal ranked → slice_get sets k ≡ Some id →
      IsStates d g.order g.diagrams.table (MayLeave d (Answers bs) (within_rank ranked (ranks - k)) goal) id

pub leaving_none : (d : DesignTree) (bs : List BlockTree) (c : DriverSets) (g : GameData) (goal ranks : ℕ) →
    AreFirstLeaving d bs c g goal ranks 0 []
leaving_none d bs c g goal ranks = record { long = refl; each = λ ranked k id are there. absurd (cc) }

pub leaving_more : (d : DesignTree) (bs : List BlockTree) (c : DriverSets) (g h : GameData) (goal ranks count : ℕ)
    (sets : List NodeId) (id : NodeId) → Grows g h → AreFirstLeaving d bs c g goal ranks count sets →
    ((ranked : List RankedSet) → AreRanked c goal ranked →
    IsStates d h.order h.diagrams.table (MayLeave d (Answers bs) (within_rank ranked (ranks - count)) goal) id) →
    AreFirstLeaving d bs c h goal ranks (count + 1) (sets ++ id ∷ [])
leaving_more d bs c g h goal ranks count sets id grows so_far is = record {
  long = omega (arith, length_push sets id, so_far.long);
  each = each;
}
  where
    each : (ranked : List RankedSet) (k : ℕ) (x : NodeId) → AreRanked c goal ranked →
        slice_get (sets ++ id ∷ []) k ≡ Some x →
        IsStates d h.order h.diagrams.table (MayLeave d (Answers bs) (within_rank ranked (ranks - k)) goal) x
    each ranked k x are there = by (pushed_at sets id k x there)
      where
        by : (slice_get sets k ≡ Some x) ⊎ ((k ≡ length sets) × (id ≡ x)) →
            IsStates d h.order h.diagrams.table (MayLeave d (Answers bs) (within_rank ranked (ranks - k)) goal) x
        by (inl before) =
            states_kept g h grows d (MayLeave d (Answers bs) (within_rank ranked (ranks - k)) goal) x
            (so_far.each ranked k x are before)
        by (inr (last, same)) =
            subst (λ (y : NodeId).
            IsStates d h.order h.diagrams.table (MayLeave d (Answers bs) (within_rank ranked (ranks - k)) goal) y) same
            (subst (λ (n : ℕ).
            IsStates d h.order h.diagrams.table (MayLeave d (Answers bs) (within_rank ranked (ranks - n)) goal) id)
            (sym (last ∙ so_far.long)) (is ranked are))

-- in the other order they are those for no ranks, for one, and so on
pub leaving_all : (d : DesignTree) (bs : List BlockTree) (c : DriverSets) (g : GameData) (goal ranks : ℕ)
    (sets : List NodeId) (leaving : Leaving) → leaving.sets.items ≡ reverse sets →
    ((ranked : List RankedSet) → AreRanked c goal ranked → ranks ≡ length ranked) →
    AreFirstLeaving d bs c g goal ranks (ranks + 1) sets → AreLeavingRanks d bs c g goal leaving
leaving_all d bs c g goal ranks sets leaving turned all are = record {
  count = λ ranked this.
      omega (arith, ap (λ (xs : List NodeId). length xs) turned, length-reverse sets, are.long, all ranked this);
  each = λ ranked k id this there.
      let at : slice_get (reverse sets) k ≡ Some id = sym (ap (λ (xs : List NodeId). slice_get xs k) turned) ∙ there in
      let below : k < length sets = omega (arith, slice_get_within (reverse sets) k id at, length-reverse sets) in
      let long = are.long in
      let place : ℕ = length sets - 1 - k in
      let same : Some (get_or (reverse sets) k id) ≡ Some id = sym (slice_get-get_or (reverse sets) k id
      (slice_get_within (reverse sets) k id at)) ∙ at in
      let is : get_or (reverse sets) k id ≡ id = cc in
      let found : slice_get sets place ≡ Some id = slice_get-get_or sets place id (omega (arith, below))
      ∙ ap (λ (x : NodeId). Some x) (sym (get_or-reverse sets k id below) ∙ is) in
      subst (λ (n : ℕ). IsStates d g.order g.diagrams.table (MayLeave d (Answers bs) (within_rank ranked n) goal) id)
      (omega (arith, below, long)) (are.each ranked place id this found);
}

-- ---- goal by goal
pub record AreFirstGoals (d : DesignTree) (bs : List BlockTree) (c : DriverSets) (g : GameData) (count : ℕ)
    (all : List Leaving) : Type 0 where
  pub long : length all ≡ count
  pub each : (goal : ℕ) (leaving : Leaving) → slice_get all goal ≡ Some leaving →
      AreLeavingRanks d bs c g goal leaving

pub goals_none : (d : DesignTree) (bs : List BlockTree) (c : DriverSets) (g : GameData) →
    AreFirstGoals d bs c g 0 []
goals_none d bs c g = record { long = refl; each = λ goal leaving there. absurd (cc) }

pub goals_more : (d : DesignTree) (bs : List BlockTree) (c : DriverSets) (g h : GameData) (count : ℕ)
    (all : List Leaving) (leaving : Leaving) → Grows g h → AreFirstGoals d bs c g count all →
    AreLeavingRanks d bs c h count leaving → AreFirstGoals d bs c h (count + 1) (all ++ leaving ∷ [])
goals_more d bs c g h count all leaving grows so_far is = record {
  long = omega (arith, length_push all leaving, so_far.long);
  each = each;
}
  where
    each : (goal : ℕ) (x : Leaving) → slice_get (all ++ leaving ∷ []) goal ≡ Some x →
        AreLeavingRanks d bs c h goal x
    each goal x there = by (pushed_at all leaving goal x there)
      where
        by : (slice_get all goal ≡ Some x) ⊎ ((goal ≡ length all) × (leaving ≡ x)) → AreLeavingRanks d bs c h goal x
        by (inl before) = leaving_ranks_kept d g h grows bs c goal x (so_far.each goal x before)
        by (inr (last, same)) =
            subst (AreLeavingRanks d bs c h goal) same
            (subst (λ (n : ℕ). AreLeavingRanks d bs c h n leaving) (sym (last ∙ so_far.long)) is)

pub goals_all : (d : DesignTree) (bs : List BlockTree) (c : DriverSets) (g : GameData) (count : ℕ)
    (all : List Leaving) → count ≡ length c.goals → AreFirstGoals d bs c g count all → AreLeaving d bs c g all
goals_all d bs c g count all every are = record { count = are.long ∙ every; each = are.each }

-- ---- what the ranks are left from
-- the answers while a goal is pending
pub plays_of : (d : DesignTree) (bs : List BlockTree) (c : DriverSets) (g : GameData) (told : DriverDiagrams) →
    IsTold d bs c g told → (answers : List Replies) → AreAnswers d bs g answers → (goal : ℕ) (r : Replies) →
    slice_get answers goal ≡ Some r → Plays d bs goal g r
plays_of d bs c g told is answers are goal r there = record {
  of = is.of;
  sized = is.sized;
  regular = is.regular;
  blocks = is.blocks;
  replies = are.each goal r there;
}

-- where a set holds the states of all ranks, an id holds those from which not every step stays within these
pub all_left : (d : DesignTree) (bs : List BlockTree) (c : DriverSets) (g h : GameData) (told : DriverDiagrams) →
    IsTold d bs c g told → (goal ranks left : ℕ) (ranked : List RankedSet) → AreRanked c goal ranked →
    ranks ≡ length (row_at told goal) → left ≡ ranks → (set id : NodeId) → set ≡ last_within (row_at told goal) →
    Grows g h →
    ((test : StateData → Bool) → IsStates d g.order g.diagrams.table (λ s. test s ≡ true) set →
    IsStates d g.order h.diagrams.table (MayLeave d (Answers bs) test goal) id) →
    IsStates d h.order h.diagrams.table (MayLeave d (Answers bs) (within_rank ranked left) goal) id
all_left d bs c g h told is goal ranks left ranked are long same set id set_last grows leaves =
    let row = is.diagrams.each goal ranked are in
    let here = last_is d g.order g.diagrams.table ranked (row_at told goal) row in
    let all = leaves (within_rank ranked (length ranked))
    (subst (IsStates d g.order g.diagrams.table (λ s. within_rank ranked (length ranked) s ≡ true)) (sym set_last)
    here) in
    let at : length ranked ≡ left = omega (arith, row.count, long, same) in
    subst (λ (n : ℕ). IsStates d h.order h.diagrams.table (MayLeave d (Answers bs) (within_rank ranked n) goal) id) at
    (subst (λ (o : List ℕ).
    IsStates d o h.diagrams.table (MayLeave d (Answers bs) (within_rank ranked (length ranked)) goal) id)
    (sym grows.order) all)

-- as many as the ranks, and one
pub leaving_long : (d : DesignTree) (bs : List BlockTree) (c : DriverSets) (g : GameData) (told : DriverDiagrams) →
    IsTold d bs c g told → (goal : ℕ) → goal < length told.goals.items → (all : List Leaving) →
    AreLeaving d bs c g all → (leaving : Leaving) → slice_get all goal ≡ Some leaving →
    length leaving.sets.items ≡ 1 + length (row_at told goal)
leaving_long d bs c g told is goal there all are leaving this =
    let ranked = ranked_here d bs c g told is goal there in
    omega (
      arith,
      (are.each goal leaving this).count ranked.0 ranked.1,
      (is.diagrams.each goal ranked.0 ranked.1).count,
    )

-- each of them is known
pub leave_known : (d : DesignTree) (bs : List BlockTree) (c : DriverSets) (g : GameData) (told : DriverDiagrams) →
    IsTold d bs c g told → (goal : ℕ) → goal < length told.goals.items → (all : List Leaving) →
    AreLeaving d bs c g all → (leaving : Leaving) → slice_get all goal ≡ Some leaving → (k : ℕ) (id : NodeId) →
    slice_get leaving.sets.items k ≡ Some id → Knows g.diagrams.table id
leave_known d bs c g told is goal there all are leaving this k id found =
    let ranked = ranked_here d bs c g told is goal there in
    ((are.each goal leaving this).each ranked.0 k id ranked.1 found).known

-- a set of them
pub leave_at : (leaving : Leaving) (other : Leaving) (k : ℕ) (id : NodeId) → leaving ≡ other →
    k < length leaving.sets.items → id ≡ get_or other.sets.items k id → slice_get leaving.sets.items k ≡ Some id
leave_at leaving other k id same below is =
    slice_get-get_or leaving.sets.items k id below
    ∙ ap (λ (x : NodeId). Some x)
    (ap (λ (l : Leaving). get_or l.sets.items k id) same ∙ sym is)
