-- Ranked sets of a solution over the exact operator are a driver's certificate in its move form.
use Rattle.std.proofs.Common.{◌≡◌, ◌⊎◌, inl, inr, ℕ, zero, suc, ◌+◌, ◌<◌, ◌≤◌, Bool, true, false, not, List, [], ◌∷◌, length, slice_get, Some, cond, refl, sym, ap, ◌∙◌, subst, arith}
use Rattle.std.specs.List.{position_or_len}
use Rattle.tm_syntax.specs.Design.{DesignTree}
use Rattle.tm_sem.specs.declared.state.Move.{Move}
use Rattle.tm_sem.specs.State.{StateData}
use Rattle.tm_sem.specs.Step.{is_driver_move}
use Rattle.tm_sem.specs.Play.{goal_holds}
use Rattle.tm_sem.specs.Fairness.{IsFair}
use Rattle.tm_sem.specs.Forcing.{Keeps, Stays}
use Rattle.tm_sem.specs.Certificates.{RankedSet, DriverSets, IsIn, rank, IsFairAtRank, IsMade, AreRanked, C1, MeetsMoveForm, no_answer, nowhere}
use Rattle.tm_solve.specs.Sets.{StateSet, IsAmong, IsWithin}
use Rattle.tm_solve.specs.Game.{Game}
use Rattle.tm_solve.specs.Ranks.{IsRank, AreRanks, last_ranked, RankGoal, RanksFit}
use Rattle.tm_solve.specs.Operator.{Operator}
use Rattle.tm_solve.specs.Exact.{IsGameOf, MeetsRanks}
use Rattle.tm_solve.proofs.Items.{get_below, get_some, some_same}
use Rattle.tm_solve.proofs.Sets.{within_here, within_then, same_within}
use Rattle.tm_solve.proofs.Operators.{keeps_more, Ways, by_goal, by_step, by_wait, part_ways}

-- the place of a state among ranked sets
abbrev place : List RankedSet → StateData → ℕ
place ranked s = position_or_len (λ (r : RankedSet). r.set s) ranked

place_here : (r : RankedSet) (rs : List RankedSet) (s : StateData) → r.set s ≡ true → place (r ∷ rs) s ≡ 0
place_here r rs s here = at (r.set s) here
  where
    at : (b : Bool) → b ≡ true → cond (not b) (1 + place rs s) 0 ≡ 0
    at true e = refl
    at false e = cc

place_later : (r : RankedSet) (rs : List RankedSet) (s : StateData) → r.set s ≡ false →
    place (r ∷ rs) s ≡ 1 + place rs s
place_later r rs s out = at (r.set s) out
  where
    at : (b : Bool) → b ≡ false → cond (not b) (1 + place rs s) 0 ≡ 1 + place rs s
    at true e = cc
    at false e = refl

place_most : (r : RankedSet) (rs : List RankedSet) (s : StateData) → place (r ∷ rs) s ≤ 1 + place rs s
place_most r rs s = at (r.set s)
  where
    at : (b : Bool) → cond (not b) (1 + place rs s) 0 ≤ 1 + place rs s
    at true = omega arith
    at false = omega arith

-- the ranked set of a state, and the set before it
record RankOf (g : Game) (z : StateSet) (j : ℕ) (start : StateSet) (ranked : List RankedSet) (s : StateData) : Type 0
  where
    index : ℕ
    r : RankedSet
    before : StateSet
    found : slice_get ranked index ≡ Some r
    at : place ranked s ≡ index
    is : IsRank g z j before r
    inside : r.set s ≡ true
    out : before s ≡ false
    lower : (t : StateData) → before t ≡ true → (start t ≡ true) ⊎ (place ranked t < index)
    no_higher : (t : StateData) → r.set t ≡ true → place ranked t ≤ index

rank_of : (g : Game) (z : StateSet) (j : ℕ) (start : StateSet) (ranked : List RankedSet) (s : StateData) →
    AreRanks g z j start ranked → start s ≡ false → last_ranked start ranked s ≡ true → RankOf g z j start ranked s
rank_of g z j start [] s ranks out last = absurd (cc)
rank_of g z j start (r ∷ rs) s ranks out last =
    by (r.set s) refl (λ gone. rank_of g z j r.set rs s ranks.1 gone last)
  where
    by : (b : Bool) → r.set s ≡ b → (r.set s ≡ false → RankOf g z j r.set rs s) → RankOf g z j start (r ∷ rs) s
    by true here further = record {
      index = 0;
      r = r;
      before = start;
      found = refl;
      at = place_here r rs s here;
      is = ranks.0;
      inside = here;
      out = out;
      lower = λ t in_start. inl in_start;
      no_higher = λ t in_r. let e = place_here r rs t in_r in omega arith;
    }
    by false gone further =
        let rest : RankOf g z j r.set rs s = further gone in
        let later = place_later r rs s gone in
        let at_rest = rest.at in
        record {
          index = suc rest.index;
          r = rest.r;
          before = rest.before;
          found = rest.found;
          at = omega arith;
          is = rest.is;
          inside = rest.inside;
          out = rest.out;
          lower = λ t in_before. inr (low t rest.index (rest.lower t in_before));
          no_higher = λ t in_r. let m = place_most r rs t in let h = rest.no_higher t in_r in omega arith;
        }
      where
        low : (t : StateData) (k : ℕ) → (r.set t ≡ true) ⊎ (place rs t < k) → place (r ∷ rs) t < suc k
        low t k (inl here) = let e = place_here r rs t here in omega arith
        low t k (inr less) = let m = place_most r rs t in omega arith

-- each set lies in the last
start_within : (g : Game) (z : StateSet) (j : ℕ) (start : StateSet) (ranked : List RankedSet) →
    AreRanks g z j start ranked →
    IsWithin g.states start (last_ranked start ranked)
start_within g z j start [] ranks = within_here _ _
start_within g z j start (r ∷ rs) ranks = within_then ranks.0.grows (start_within g z j r.set rs ranks.1)

set_within : (g : Game) (z : StateSet) (j : ℕ) (start : StateSet) (ranked : List RankedSet) →
    AreRanks g z j start ranked →
    (k : ℕ) (r : RankedSet) → slice_get ranked k ≡ Some r → IsWithin g.states r.set (last_ranked start ranked)
set_within g z j start [] ranks k r got = cc
set_within g z j start (q ∷ qs) ranks zero r got =
    subst (λ (p : RankedSet). IsWithin g.states p.set (last_ranked q.set qs)) (some_same got)
    (start_within g z j q.set qs ranks.1)
set_within g z j start (q ∷ qs) ranks (suc k) r got = set_within g z j q.set qs ranks.1 k r got

-- each waits for a condition, and adds a state
fair_below : (g : Game) (z : StateSet) (j : ℕ) (start : StateSet) (ranked : List RankedSet) →
    AreRanks g z j start ranked →
    (k : ℕ) (r : RankedSet) → slice_get ranked k ≡ Some r → r.fair < g.fairs
fair_below g z j start [] ranks k r got = cc
fair_below g z j start (q ∷ qs) ranks zero r got =
    subst (λ (p : RankedSet). p.fair < g.fairs) (some_same got) ranks.0.fair
fair_below g z j start (q ∷ qs) ranks (suc k) r got = fair_below g z j q.set qs ranks.1 k r got

record Added (n : List StateData) (start : StateSet) (ranked : List RankedSet) (k : ℕ) : Type 0 where
  state : StateData
  listed : IsAmong state n
  out : start state ≡ false
  at : place ranked state ≡ k

added : (g : Game) (z : StateSet) (j : ℕ) (start : StateSet) (ranked : List RankedSet) → AreRanks g z j start ranked →
    (k : ℕ) (r : RankedSet) → slice_get ranked k ≡ Some r → Added g.states start ranked k
added g z j start [] ranks k r got = cc
added g z j start (q ∷ qs) ranks zero r got = record {
  state = ranks.0.gains.state;
  listed = ranks.0.gains.listed;
  out = ranks.0.gains.without_it;
  at = place_here q qs ranks.0.gains.state ranks.0.gains.with_it;
}
added g z j start (q ∷ qs) ranks (suc k) r got =
    let rest : Added g.states q.set qs k = added g z j q.set qs ranks.1 k r got in
    let later = place_later q qs rest.state rest.out in
    let at_rest = rest.at in
    record {
      state = rest.state;
      listed = rest.listed;
      out = by (start rest.state) (q.set rest.state) (ranks.0.grows.within rest.state rest.listed) rest.out;
      at = omega arith;
    }
  where
    by : (a b : Bool) → (a ≡ true → b ≡ true) → b ≡ false → a ≡ false
    by true b f e = let t : b ≡ true = f refl in cc
    by false b f e = refl

-- what a move of the state's set is good for
record IsGood (d : DesignTree) (c : DriverSets) (ranked : List RankedSet) (goal : ℕ) (s : StateData)
    (move : Move) : Type 0 where
  keeps : Keeps d (IsIn d c.region) s move
  no_higher : goal_holds d s goal ≡ false → Keeps d (λ t. rank ranked t ≤ rank ranked s) s move
  lower : goal_holds d s goal ≡ false → IsFairAtRank d ranked s → Keeps d (λ t. rank ranked t < rank ranked s) s move

-- a set in which the driver can stay, all of whose moves are good
record Choice (d : DesignTree) (c : DriverSets) (ranked : List RankedSet) (goal : ℕ) (s : StateData) : Type 0 where
  set : StateSet
  stays : Stays d (IsIn d set) s
  good : (move : Move) → Keeps d (IsIn d set) s move → IsGood d c ranked goal s move

module _ {d : DesignTree} {op : Operator} {g : Game} (c : DriverSets) (exact : IsGameOf d op g) (fit : RanksFit g c)
  where
    -- from a set that lies in the region moves keep to the region
    in_region : (a : StateSet) → IsWithin g.states a c.region → (s : StateData) (move : Move) →
        Keeps d (IsIn d a) s move →
        Keeps d (IsIn d c.region) s move
    in_region a w s move keeps =
        keeps_more (IsIn d a) (IsIn d c.region) (λ t here. (here.0, w.within t (exact.all t here.0) here.1)) keeps

    choice : (goal : ℕ) (ranked : List RankedSet) → AreRanked c goal ranked → (s : StateData) → IsIn d c.region s →
        Choice d c ranked goal s
    choice goal ranked are s here =
        by (part_ways exact c.region of.before of.r.set goal of.r.fair s here.0 of.is.fair
        (of.is.reached s listed of.out of.inside))
      where
        listed : IsAmong s g.states
        listed = exact.all s here.0

        goals : RankGoal g c.region goal ranked
        goals = fit.each goal ranked are

        of : RankOf g c.region goal nowhere ranked s
        of = rank_of g c.region goal nowhere ranked s goals.ranks refl (goals.last.same s listed ∙ here.1)

        set_in : IsWithin g.states of.r.set c.region
        set_in = within_then (set_within g c.region goal nowhere ranked goals.ranks of.index of.r of.found)
            (same_within goals.last)

        down : (t : StateData) → (nowhere t ≡ true) ⊎ (place ranked t < of.index) → rank ranked t < rank ranked s
        down t (inl wrong) = absurd (cc)
        down t (inr less) = let e = of.at in omega arith

        by : Ways d c.region of.before of.r.set goal of.r.fair s → Choice d c ranked goal s
        by (by_goal holds stays) = record {
          set = c.region;
          stays = stays;
          good = λ move keeps. record {
            keeps = keeps;
            no_higher = λ fails. absurd (cc);
            lower = λ fails fair. absurd (cc);
          };
        }
        by (by_step stays) = record {
          set = of.before;
          stays = stays;
          good = λ move keeps. record {
            keeps = in_region of.before (within_then of.is.grows set_in) s move keeps;
            no_higher = λ fails. keeps_more (IsIn d of.before) (λ t. rank ranked t ≤ rank ranked s)
                (λ t in_it. let l = down t (of.lower t in_it.1) in omega arith) keeps;
            lower = λ fails fair. keeps_more (IsIn d of.before) (λ t. rank ranked t < rank ranked s)
                (λ t in_it. down t (of.lower t in_it.1)) keeps;
          };
        }
        by (by_wait unfair stays) = record {
          set = of.r.set;
          stays = stays;
          good = λ move keeps. record {
            keeps = in_region of.r.set set_in s move keeps;
            no_higher = λ fails. keeps_more (IsIn d of.r.set) (λ t. rank ranked t ≤ rank ranked s)
                (λ t in_it. let e = of.at in let h = of.no_higher t in_it.1 in omega arith) keeps;
            lower = λ fails fair. absurd (never fair);
          };
        }
          where
            never : IsFairAtRank d ranked s → ⊥
            never (k, r, same, got, fair) =
                let e = of.at in
                let k_is : k ≡ of.index = omega arith in
                let r_is : r ≡ of.r = some_same (sym got ∙ ap (slice_get ranked) k_is ∙ of.found) in
                unfair (subst (λ (p : RankedSet). IsFair d s p.fair) r_is fair)

    -- the ranked sets of a goal
    record Ranked (goal : ℕ) : Type 0 where
      list : List RankedSet
      are : AreRanked c goal list

    ranked_of : (goal : ℕ) → goal < length c.goals → Ranked goal
    ranked_of goal below = let r = get_some c.goals goal below in record { list = r.0; are = r.1 }

    pub meets_ranks : MeetsRanks d c
    meets_ranks = record {
      goals = fit.goals ∙ exact.goals;
      fairs = λ goal k ranked r are got. subst (λ (n : ℕ). r.fair < n) exact.fairs
          (fair_below g c.region goal nowhere ranked (fit.each goal ranked are).ranks k r got);
      c0 = λ goal k ranked r are got.
          let goals = fit.each goal ranked are in
          let w : IsWithin g.states r.set c.region =
          within_then (set_within g c.region goal nowhere ranked goals.ranks k r got) (same_within goals.last) in
          let a : Added g.states nowhere ranked k = added g c.region goal nowhere ranked goals.ranks k r got in (
            λ s here. (here.0, w.within s (exact.all s here.0) here.1),
            (a.state, exact.listed a.state a.listed, ap (λ n. 1 + n) a.at),
          );
      c2 = λ s goal ranked here are.
          let goals = fit.each goal ranked are in
          let of : RankOf g c.region goal nowhere ranked s = rank_of g c.region goal nowhere ranked s goals.ranks refl
          (goals.last.same s (exact.all s here.0) ∙ here.1) in
          let e = of.at in
          let l = get_below ranked of.index of.r of.found in
          omega arith;
      c3 = λ s here move is.
          let first : Ranked 0 = ranked_of 0 (subst (λ (n : ℕ). 0 < n) (sym fit.goals) exact.some_goal) in
          let ch = choice 0 first.list first.are s here in
          (ch.good move (ch.stays.calm move is)).keeps;
      c4 = λ s goal here below turn.
          let it : Ranked goal = ranked_of goal (subst (λ (n : ℕ). goal < n) (sym (fit.goals ∙ exact.goals)) below) in
          let ch = choice goal it.list it.are s here in
          let move = ch.stays.driver turn in
          let good = ch.good move.0 move.2 in (
            move.0,
            record {
              allowed = move.1;
              keeps = good.keeps;
              no_higher = λ ranked are fails.
                  let same : it.list ≡ ranked = some_same (sym it.are ∙ are) in
                  subst (λ (l : List RankedSet). Keeps d (λ t. rank l t ≤ rank l s) s move.0) same
                  (good.no_higher fails);
              lower = λ ranked are fails fair.
                  let same : it.list ≡ ranked = some_same (sym it.are ∙ are) in
                  subst (λ (l : List RankedSet). Keeps d (λ t. rank l t < rank l s) s move.0) same (good.lower fails
                  (subst (λ (l : List RankedSet). IsFairAtRank d l s) (sym same) fair));
            },
          );
      c5 = λ s t goal ranked move choices here are fails made step.
          let ch = choice goal ranked are s here in
          ((ch.good move (ch.stays.calm move (theirs goal s move made))).no_higher fails).ends_within choices t step;
      c6 = λ s t goal ranked move choices here are fails fair made step.
          let ch = choice goal ranked are s here in
          ((ch.good move (ch.stays.calm move (theirs goal s move made))).lower fails fair).ends_within choices t step;
    }
      where
        theirs : (goal : ℕ) (s : StateData) (move : Move) → IsMade no_answer goal s move → is_driver_move move ≡ false
        theirs goal s move (inl is) = is
        theirs goal s move (inr wrong) = absurd wrong

    -- and with the initial states they are the certificate
    pub meets_move_form : C1 d c → MeetsMoveForm d c
    meets_move_form c1 = let m = meets_ranks in record {
      goals = m.goals;
      fairs = m.fairs;
      c0 = m.c0;
      c1 = c1;
      c2 = m.c2;
      c3 = m.c3;
      c4 = m.c4;
      c5 = m.c5;
      c6 = m.c6;
    }
