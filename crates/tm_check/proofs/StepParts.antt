-- The parts that speak of steps.
use Rattle.std.proofs.Common.{◌≡◌, ◌⊎◌, inl, inr, ℕ, ◌+◌, ◌<◌, true, ◌&&◌, ◌||◌, not, List, Some, length, get_or}
use Rattle.std.proofs.Common.{refl, sym, subst, arith}
use Rattle.std.specs.Prelude.{slice_get}
use Rattle.std.proofs.lemmas.Bool.{cases_lt}
use Rattle.std.proofs.lemmas.Option.{slice_get-get_or, slice_get_within}
use Rattle.tm_check.specs.Good.{IsAnsweredWell}
use Rattle.tm_check.proofs.Growth.{sized_kept}
use Rattle.tm_check.specs.declared.leaving.Leaving.{Leaving}
use Rattle.tm_check.specs.declared.loaded.DriverDiagrams.{DriverDiagrams}
use Rattle.tm_check.specs.declared.loaded.RankedDiagrams.{RankedDiagrams}
use Rattle.tm_check.specs.declared.steps.Descent.{Descent}
use Rattle.tm_check.specs.declared.steps.Descent.TheVariants.{FallsWhenFair, NeverRises}
use Rattle.tm_check.specs.Leaving.{AreLeaving, HasRank, IsAsked, IsBreaking, IsBreakingBelow, allowed_ranks, part_of}
use Rattle.tm_check.specs.Loaded.{row_at}
use Rattle.tm_check.specs.Told.{IsTold}
use Rattle.tm_check.specs.Tried.{HavePassed}
use Rattle.tm_check.proofs.Found.{own}
use Rattle.tm_check.proofs.Parts.{answering_is, asked_is, awaiting_is, breaking_is, calming_is, rank_states}
use Rattle.tm_check.proofs.Parts.{ranked_here}
use Rattle.tm_check.proofs.States.{states_and, states_none, states_or, states_same}
use Rattle.tm_check.proofs.Staying.{answered_same, calm_same}
use Rattle.tm_cir.specs.Answer.{Answers}
use Rattle.tm_cir.specs.Tree.{BlockTree}
use Rattle.tm_dd.specs.declared.node.NodeId.{NodeId}
use Rattle.tm_dd.specs.declared.node.TheConstants.{FALSE}
use Rattle.tm_dd.specs.Table.{means}
use Rattle.tm_ddops.specs.Manager.{IsFunction}
use Rattle.tm_verdict.specs.Found.{AnswerKeeps, Awaits, IsFound, MayLeave, NamesStates, RestsOn, within_rank}
use Rattle.tm_game.specs.Game.{AreFairs, AreGoals, GameData, Grows, IsStates, in_set}
use Rattle.tm_game.proofs.Growing.{grows_none, of_kept, states_kept}
use Rattle.tm_sem.specs.Certificates.{AreRanked, DriverSets, RankedSet}
use Rattle.tm_sem.specs.Fairness.{IsFair, conditions}
use Rattle.tm_sem.specs.Forcing.{IsCalm}
use Rattle.tm_sem.specs.Play.{goal_holds}
use Rattle.tm_sem.specs.State.{StateData}
use Rattle.tm_sem.specs.Step.{is_driver_turn}
use Rattle.tm_syntax.specs.Design.{DesignTree}
use Rattle.tm_verdict.specs.Driver.{driver_goal, falls_when_fair, is_answered, is_calm, never_rises}

module _ (d : DesignTree) (bs : List BlockTree) (c : DriverSets) (told : DriverDiagrams) where
  -- C3
  pub calming_found : (g h k : GameData) → IsTold d bs c g told → Grows g h → Grows h k → (calm id : NodeId) →
      IsStates d g.order h.diagrams.table (IsCalm d (in_set d g told.region)) calm →
      IsFunction k.diagrams.table id
      (λ v. means h.diagrams.table told.region v && not (means h.diagrams.table calm v)) →
      IsStates d k.order k.diagrams.table (IsFound d (Answers bs) c is_calm) id
  calming_found g h k is gh hk calm id calm_is fn =
      subst (λ (o : List ℕ). IsStates d o k.diagrams.table (IsFound d (Answers bs) c is_calm) id) (sym hk.order)
      (calming_is d h.order (Answers bs) c h.diagrams.table k.diagrams.table told.region calm id
      (states_kept g h gh d (λ st. c.region st ≡ true) told.region is.diagrams.region)
      (subst (λ (o : List ℕ). IsStates d o h.diagrams.table (IsCalm d (λ t. c.region t ≡ true)) calm) (sym gh.order)
      (calm_same d g is.of is.sized is.regular told.region c.region is.diagrams.region h.diagrams.table calm calm_is))
      fn)

  -- C4
  pub answering_found : (g h k l : GameData) → IsTold d bs c g told → Grows g h → Grows h k → Grows k l → (goal : ℕ)
      (turn here good id : NodeId) →
      IsStates d g.order g.diagrams.table (λ s. is_driver_turn d s ≡ true) turn →
      IsFunction h.diagrams.table here
      (λ v. means g.diagrams.table told.region v && means g.diagrams.table turn v) →
      IsStates d h.order k.diagrams.table (IsAnsweredWell d bs goal (in_set d h told.region)) good →
      IsFunction l.diagrams.table id (λ v. means k.diagrams.table here v && not (means k.diagrams.table good v)) →
      IsStates d l.order l.diagrams.table (IsFound d (Answers bs) c (is_answered goal)) id
  answering_found g h k l is gh hk kl goal turn here good id turn_is here_is good_is fn =
      subst (λ (o : List ℕ). IsStates d o l.diagrams.table (IsFound d (Answers bs) c (is_answered goal)) id)
      (sym kl.order)
      (answering_is d k.order (Answers bs) c k.diagrams.table l.diagrams.table goal here good id
      (states_kept h k hk d (λ st. (c.region st ≡ true) × (is_driver_turn d st ≡ true)) here
      (subst (λ (o : List ℕ).
      IsStates d o h.diagrams.table (λ st. (c.region st ≡ true) × (is_driver_turn d st ≡ true)) here) (sym gh.order)
      (states_and d g.order g.diagrams.table h.diagrams.table (λ st. c.region st ≡ true)
      (λ st. is_driver_turn d st ≡ true) told.region turn here is.diagrams.region turn_is here_is)))
      (subst (λ (o : List ℕ). IsStates d o k.diagrams.table (AnswerKeeps d (Answers bs) c.region goal) good)
      (sym hk.order)
      (answered_same d h (of_kept g h gh d is.of) (sized_kept g h gh is.sized) is.regular told.region c.region
      (states_kept g h gh d (λ st. c.region st ≡ true) told.region is.diagrams.region) bs goal k.diagrams.table good
      good_is)) fn)

  module _ (goal : ℕ) where
    -- ---- the states that are asked
    pub awaiting_found : (g h : GameData) → IsTold d bs c g told → Grows g h → (holds id : NodeId) →
        IsStates d g.order g.diagrams.table (λ s. goal_holds d s goal ≡ true) holds →
        IsFunction h.diagrams.table id
        (λ v. means g.diagrams.table told.region v && not (means g.diagrams.table holds v)) →
        IsStates d h.order h.diagrams.table (Awaits d c goal) id
    awaiting_found g h is grows holds id holds_is fn =
        subst (λ (o : List ℕ). IsStates d o h.diagrams.table (Awaits d c goal) id) (sym grows.order)
        (awaiting_is d g.order c goal g.diagrams.table h.diagrams.table told.region holds id is.diagrams.region holds_is
        fn)

    pub rank_found : (g h : GameData) (is : IsTold d bs c g told) (there : goal < length told.goals.items) →
        Grows g h → (index : ℕ) (x : RankedDiagrams) → slice_get (row_at told goal) index ≡ Some x → (id : NodeId) →
        IsFunction h.diagrams.table id
        (λ v. means g.diagrams.table x.set v && not (means g.diagrams.table x.before v)) →
        IsStates d h.order h.diagrams.table (HasRank c goal index) id
    rank_found g h is there grows index x at id fn =
        let ranked = ranked_here d bs c g told is goal there in
        let this = own d bs c told g h is grows goal there index x at in
        subst (λ (o : List ℕ). IsStates d o h.diagrams.table (HasRank c goal index) id) (sym grows.order)
        (rank_states d bs c g.order goal index ranked.0 this.0 ranked.1 this.1 g.diagrams.table h.diagrams.table x.set
        x.before id this.2.set this.2.before fn)

    -- ---- of one rank
    module _ (g : GameData) (is : IsTold d bs c g told) (there : goal < length told.goals.items) (index : ℕ)
        (x : RankedDiagrams) (at : slice_get (row_at told goal) index ≡ Some x) (h k : GameData) (gh : Grows g h)
        (hk : Grows h k) (own_id awaiting waiting : NodeId)
        (own_is : IsStates d h.order h.diagrams.table (HasRank c goal index) own_id)
        (awaiting_is : IsStates d g.order g.diagrams.table (Awaits d c goal) awaiting)
        (waiting_fn : IsFunction k.diagrams.table waiting
        (λ v. means h.diagrams.table own_id v && means h.diagrams.table awaiting v)) where
      waiting_is : IsStates d k.order k.diagrams.table (λ st. HasRank c goal index st × Awaits d c goal st) waiting
      waiting_is =
          subst (λ (o : List ℕ).
          IsStates d o k.diagrams.table (λ st. HasRank c goal index st × Awaits d c goal st) waiting) (sym hk.order)
          (states_and d h.order h.diagrams.table k.diagrams.table (HasRank c goal index) (Awaits d c goal) own_id
          awaiting waiting own_is (states_kept g h gh d (Awaits d c goal) awaiting awaiting_is) waiting_fn)

      -- C5 asks for no fairness
      pub asked_always : IsStates d k.order k.diagrams.table (IsAsked d c NeverRises goal index) waiting
      asked_always =
          let ranked = ranked_here d bs c g told is goal there in
          let one = own d bs c told g h is gh goal there index x at in
          asked_is d bs c k.order goal index ranked.0 one.0 ranked.1 one.1 NeverRises k.diagrams.table waiting
          (states_same d k.order k.diagrams.table (λ st. HasRank c goal index st × Awaits d c goal st)
          (λ st. (HasRank c goal index st × Awaits d c goal st) × Unit {0}) waiting (λ st valid p. (p, tt))
          (λ st valid p. p.0) waiting_is)

      -- C6 does
      pub asked_when_fair : (l : GameData) → Grows k l → (fair id : NodeId) →
          IsStates d k.order k.diagrams.table (λ s. IsFair d s x.fair) fair →
          IsFunction l.diagrams.table id
          (λ v. means k.diagrams.table waiting v && means k.diagrams.table fair v) →
          IsStates d l.order l.diagrams.table (IsAsked d c FallsWhenFair goal index) id
      asked_when_fair l kl fair id fair_is fn =
          let ranked = ranked_here d bs c g told is goal there in
          let one = own d bs c told g h is gh goal there index x at in
          subst (λ (o : List ℕ). IsStates d o l.diagrams.table (IsAsked d c FallsWhenFair goal index) id)
          (sym kl.order)
          (asked_is d bs c k.order goal index ranked.0 one.0 ranked.1 one.1 FallsWhenFair l.diagrams.table id
          (states_and d k.order k.diagrams.table l.diagrams.table
          (λ st. HasRank c goal index st × Awaits d c goal st) (λ st. IsFair d st one.0.fair) waiting fair id waiting_is
          (subst (λ (n : ℕ). IsStates d k.order k.diagrams.table (λ s. IsFair d s n) fair) one.2.fair fair_is) fn))

    module _ (descent : Descent) where
      -- where not every step stays within the ranks that are allowed
      pub breaking_found : (g h k : GameData) (is : IsTold d bs c g told) → goal < length told.goals.items →
          (all : List Leaving) → AreLeaving d bs c g all → (leaving : Leaving) → slice_get all goal ≡ Some leaving →
          (index : ℕ) → Grows g h → Grows h k → (asked left id : NodeId) →
          slice_get leaving.sets.items (allowed_ranks descent index) ≡ Some left →
          IsStates d h.order h.diagrams.table (IsAsked d c descent goal index) asked →
          IsFunction k.diagrams.table id
          (λ v. means h.diagrams.table asked v && means h.diagrams.table left v) →
          IsStates d k.order k.diagrams.table (IsBreaking d bs c descent goal index) id
      breaking_found g h k is there all leaving_are leaving this index gh hk asked left id found asked_is fn =
          let ranked = ranked_here d bs c g told is goal there in
          let left_is = (leaving_are.each goal leaving this).each ranked.0 (allowed_ranks descent index) left ranked.1
          found in
          subst (λ (o : List ℕ). IsStates d o k.diagrams.table (IsBreaking d bs c descent goal index) id)
          (sym hk.order)
          (breaking_is d bs c h.order goal index ranked.0 ranked.1 descent h.diagrams.table k.diagrams.table asked left
          id asked_is
          (states_kept g h gh d (MayLeave d (Answers bs) (within_rank ranked.0 (allowed_ranks descent index)) goal) left
          left_is) fn)

      -- ---- rank by rank
      pub breaking_none : (g : GameData) →
          IsStates d g.order g.diagrams.table (IsBreakingBelow d bs c descent goal 0) FALSE
      breaking_none g =
          states_none d g.order g.diagrams.table (IsBreakingBelow d bs c descent goal 0)
          (λ st h. absurd (omega (arith, h.1)))

      pub breaking_more : (g h k : GameData) → Grows g h → Grows h k → (index : ℕ) (set one id : NodeId) →
          IsStates d g.order g.diagrams.table (IsBreakingBelow d bs c descent goal index) set →
          IsStates d h.order h.diagrams.table (IsBreaking d bs c descent goal index) one →
          IsFunction k.diagrams.table id (λ v. means h.diagrams.table set v || means h.diagrams.table one v) →
          IsStates d k.order k.diagrams.table (IsBreakingBelow d bs c descent goal (index + 1)) id
      breaking_more g h k gh hk index set one id set_is one_is fn =
          subst (λ (o : List ℕ). IsStates d o k.diagrams.table (IsBreakingBelow d bs c descent goal (index + 1)) id)
          (sym hk.order)
          (states_same d h.order k.diagrams.table
          (λ st. IsBreakingBelow d bs c descent goal index st ⊎ IsBreaking d bs c descent goal index st)
          (IsBreakingBelow d bs c descent goal (index + 1)) id (λ st valid h. to st h) (λ st valid h. from st h)
          (states_or d h.order h.diagrams.table k.diagrams.table (IsBreakingBelow d bs c descent goal index)
          (IsBreaking d bs c descent goal index) set one id
          (states_kept g h gh d (IsBreakingBelow d bs c descent goal index) set set_is) one_is fn))
        where
          to : (st : StateData) →
              IsBreakingBelow d bs c descent goal index st ⊎ IsBreaking d bs c descent goal index st →
              IsBreakingBelow d bs c descent goal (index + 1) st
          to st (inl h) = (h.0, omega (arith, h.1), h.2)
          to st (inr h) = (index, omega arith, h)

          from : (st : StateData) → IsBreakingBelow d bs c descent goal (index + 1) st →
              IsBreakingBelow d bs c descent goal index st ⊎ IsBreaking d bs c descent goal index st
          from st h =
              elim (cases_lt h.0 index) as
              (λ _. IsBreakingBelow d bs c descent goal index st ⊎ IsBreaking d bs c descent goal index st) [
                | inl before ↦ inl (h.0, before, h.2)
                | inr behind ↦
                    let same : h.0 ≡ index = omega (arith, h.1) in
                    inr (subst (λ (k : ℕ). IsBreaking d bs c descent goal k st) same h.2)
              ]

    -- ---- all ranks
    module _ (g : GameData) (is : IsTold d bs c g told) (count : ℕ) (all : count ≡ length (row_at told goal))
        (h : GameData) (failing : NodeId) where
      as_many : (ranked : List RankedSet) → AreRanked c goal ranked → length ranked ≡ length (row_at told goal)
      as_many ranked are = sym (is.diagrams.each goal ranked are).count

      pub all_breaking : (descent : Descent) →
          IsStates d h.order h.diagrams.table (IsBreakingBelow d bs c descent goal count) failing →
          IsStates d h.order h.diagrams.table (IsFound d (Answers bs) c (part_of descent goal)) failing
      all_breaking NeverRises found =
          states_same d h.order h.diagrams.table (IsBreakingBelow d bs c NeverRises goal count)
          (IsFound d (Answers bs) c (never_rises goal)) failing
          (λ st valid b.
          let asked = b.2.0 in
          let below = slice_get_within asked.ranked b.0 asked.own asked.at in
          (asked.ranked, b.0, asked.are, below, asked.awaits, asked.of, b.2.1))
          (λ st valid f.
          let spare : RankedSet = record { fair = 0; set = λ s. true } in (
            f.1,
            omega (arith, f.3, as_many f.0 f.2, all),
            (
              record {
                ranked = f.0;
                own = get_or f.0 f.1 spare;
                are = f.2;
                at = slice_get-get_or f.0 f.1 spare f.3;
                of = f.5;
                awaits = f.4;
                fair = tt;
              },
              f.6,
            ),
          )) found
      all_breaking FallsWhenFair found =
          states_same d h.order h.diagrams.table (IsBreakingBelow d bs c FallsWhenFair goal count)
          (IsFound d (Answers bs) c (falls_when_fair goal)) failing
          (λ st valid b.
          let asked = b.2.0 in
          (asked.ranked, b.0, asked.own, asked.are, asked.at, asked.awaits, asked.of, asked.fair, b.2.1))
          (λ st valid f. (
            f.1,
            omega (arith, slice_get_within f.0 f.1 f.2 f.4, as_many f.0 f.3, all),
            (
              record {
                ranked = f.0;
                own = f.2;
                are = f.3;
                at = f.4;
                of = f.6;
                awaits = f.5;
                fair = f.7;
              },
              f.8,
            ),
          )) found

    -- ---- what is known of the part
    pub names_states : (descent : Descent) → NamesStates (part_of descent goal)
    names_states NeverRises = tt
    names_states FallsWhenFair = tt

    pub goal_named : (descent : Descent) → goal ≡ driver_goal (part_of descent goal)
    goal_named NeverRises = refl
    goal_named FallsWhenFair = refl

    pub rests_on : (descent : Descent) → HavePassed d (Answers bs) c → goal < length c.goals →
        RestsOn d (Answers bs) c (part_of descent goal)
    rests_on NeverRises passed below = (passed.sets.calm, passed.answered goal below, passed.sets.ranked goal below)
    rests_on FallsWhenFair passed below = (passed.sets.calm, passed.answered goal below)

-- ---- the sets that a game keeps
pub goal_states : (d : DesignTree) (g : GameData) → AreGoals d g → (ids : List NodeId) → ids ≡ g.goals → (goal : ℕ) →
    goal < length g.goals →
    IsStates d g.order g.diagrams.table (λ s. goal_holds d s goal ≡ true) (get_or ids goal FALSE)
goal_states d g are ids same goal below =
    subst (λ (xs : List NodeId).
    IsStates d g.order g.diagrams.table (λ s. goal_holds d s goal ≡ true) (get_or xs goal FALSE)) (sym same)
    (are goal FALSE below)

pub fair_states : (d : DesignTree) (g : GameData) → AreFairs d g → (ids : List NodeId) → ids ≡ g.fairs → (fair : ℕ) →
    fair < length g.fairs → IsStates d g.order g.diagrams.table (λ s. IsFair d s fair) (get_or ids fair FALSE)
fair_states d g are ids same fair below =
    subst (λ (xs : List NodeId). IsStates d g.order g.diagrams.table (λ s. IsFair d s fair) (get_or xs fair FALSE))
    (sym same) (are fair FALSE below)

-- a rank waits for one of the conditions
pub fair_below : (d : DesignTree) (bs : List BlockTree) (c : DriverSets) (g : GameData) (told : DriverDiagrams) →
    IsTold d bs c g told → (goal : ℕ) → goal < length told.goals.items → (index : ℕ) (x : RankedDiagrams) →
    slice_get (row_at told goal) index ≡ Some x → x.fair < length (conditions d)
fair_below d bs c g told is goal there index x at =
    let ranked = ranked_here d bs c g told is goal there in
    let this = own d bs c told g g is (grows_none g) goal there index x at in
    omega (arith, this.2.fair, is.fairs goal index ranked.0 this.0 ranked.1 this.1)
