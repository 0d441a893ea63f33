-- Moves that end in the target of a zone are good, and good moves are such ones, where the sets have good moves at all.
use Rattle.std.proofs.Common.{◌≡◌, ◌≢◌, ◌⊎◌, inl, inr, ℕ, zero, suc, ◌+◌, ◌<◌, ◌≤◌, Bool, true, false, ◌&&◌, ◌||◌, not}
use Rattle.std.proofs.Common.{List, [], ◌∷◌, Option, None, Some, length, map, slice_get, take, refl, sym, ap, ◌∙◌}
use Rattle.std.proofs.Common.{subst, arith}
use Rattle.std.proofs.lemmas.Bool.{true≢false}
use Rattle.std.proofs.lemmas.List.{length-map}
use Rattle.std.proofs.lemmas.Option.{get_or_from_slice_get, slice_get-map, slice_get-get_or, slice_get_within}
use Rattle.std.specs.List.{list_any}
use Rattle.std.specs.Option.{option_map}
use Rattle.tm_dd.specs.declared.node.NodeId.{NodeId}
use Rattle.tm_dd.specs.declared.node.TheConstants.{FALSE}
use Rattle.tm_dd.specs.Table.{means}
use Rattle.tm_game.specs.Game.{GameData, IsStates}
use Rattle.tm_game_bits.specs.Functions.{Assignment}
use Rattle.tm_sem.specs.Certificates.{AreRanked, DriverSets, IsFairAtRank, IsGoodMove, IsIn, MeetsMoveForm, RankedSet}
use Rattle.tm_sem.specs.Certificates.{rank}
use Rattle.tm_sem.specs.Fairness.{IsFair}
use Rattle.tm_sem.specs.Forcing.{Keeps}
use Rattle.tm_sem.specs.Play.{goal_holds}
use Rattle.tm_sem.specs.State.{StateData}
use Rattle.tm_sem.specs.Step.{IsAllowed, IsState, Step, is_driver_turn}
use Rattle.tm_sem.specs.declared.state.Move.{Move}
use Rattle.tm_sem.specs.declared.state.Outcome.{Outcome}
use Rattle.tm_sem.specs.declared.state.Outcome.TheVariants.{Error, Next, NoOutcome}
use Rattle.tm_solve.specs.Iterates.{driver_sets, ranked_set, ranked_sets}
use Rattle.tm_solve.specs.declared.iterates.Iterates.{Iterates}
use Rattle.tm_solve.specs.declared.iterates.RankSet.{RankSet}
use Rattle.tm_solve.specs.declared.iterates.Ranking.{Ranking}
use Rattle.tm_solve_exact.specs.Exact.{IsExactOf, coding, exact_ids}
use Rattle.tm_solve_exact.proofs.Growing.{coding_told, states_iff}
use Rattle.tm_strat.proofs.Zoning.{before_more, past}
use Rattle.tm_strat.specs.Choice.{id_in}
use Rattle.tm_strat.specs.Zones.{Rank, Zoning, added, before, failing, falling, here, met, nothing, rank_at, rank_in}
use Rattle.tm_strat.specs.Zones.{target, waiting, zone, zoning_of}
use Rattle.tm_syntax.specs.Design.{DesignTree}
use Rattle.tm_verdict.proofs.Ranks.{low_rank, of_rank, rank_is, stands}
use Rattle.tm_verdict.specs.Found.{IsOfRank, within_rank}
use Rattle.tm_verdict.specs.Regular.{IsRegular}

-- ---- truths
both_true : (a b : Bool) → a ≡ true → b ≡ true → (a && b) ≡ true
both_true true b one other = other
both_true false b one other = absurd (true≢false (sym one))

first_true : (a b : Bool) → (a && b) ≡ true → a ≡ true
first_true true b is = refl
first_true false b is = absurd (true≢false (sym is))

second_true : (a b : Bool) → (a && b) ≡ true → b ≡ true
second_true true b is = is
second_true false b is = absurd (true≢false (sym is))

not_true : (a : Bool) → not a ≡ true → a ≡ false
not_true true is = absurd (true≢false (sym is))
not_true false is = refl

true_not : (a : Bool) → a ≡ false → not a ≡ true
true_not true is = absurd (true≢false is)
true_not false is = refl

or_either : (a b : Bool) → (a || b) ≡ true → (a ≡ true) ⊎ (b ≡ true)
or_either true b is = inl refl
or_either false b is = inr is

or_first : (a b : Bool) → a ≡ true → (a || b) ≡ true
or_first true b is = refl
or_first false b is = absurd (true≢false (sym is))

or_second : (a b : Bool) → b ≡ true → (a || b) ≡ true
or_second true b is = refl
or_second false b is = is

never : (a : Bool) → (a ≡ true → ⊥) → a ≡ false
never true none = absurd (none refl)
never false none = refl

one_more : (k : ℕ) → 1 + k ≡ suc k
one_more k = omega arith

-- ---- lists
-- what is found among the first elements is one of them
found_at : {A : Type 0} (p : A → Bool) (xs : List A) (k : ℕ) → list_any p (take k xs) ≡ true →
    (i : ℕ) × (x : A) × (slice_get xs i ≡ Some x) × (p x ≡ true)
found_at p [] zero is = absurd (true≢false (sym is))
found_at p [] (suc k) is = absurd (true≢false (sym is))
found_at p (x ∷ xs) zero is = absurd (true≢false (sym is))
found_at {A = A} p (x ∷ xs) (suc k) is =
    elim (or_either (p x) (list_any p (take k xs)) is) as (λ _.
    (i : ℕ) × (y : A) × (slice_get (x ∷ xs) i ≡ Some y) × (p y ≡ true)) [
      | inl first ↦ (0, x, refl, first)
      | inr later ↦ let found = found_at p xs k later in (suc found.0, found.1, found.2, found.3)
    ]

mapped_any : {A B : Type 0} (f : A → B) (p : B → Bool) (q : A → Bool) → ((x : A) → p (f x) ≡ q x) → (xs : List A)
    (k : ℕ) → list_any p (take k (map f xs)) ≡ list_any q (take k xs)
mapped_any f p q same [] zero = refl
mapped_any f p q same [] (suc k) = refl
mapped_any f p q same (x ∷ xs) zero = refl
mapped_any f p q same (x ∷ xs) (suc k) = λ i. same x i || mapped_any f p q same xs k i

module _ (d : DesignTree) (g : GameData) (is : IsExactOf d g) (regular : IsRegular d) (it : Iterates)
    (turns : IsStates d g.order g.diagrams.table (λ s. is_driver_turn d s ≡ true) g.turn)
    (form : MeetsMoveForm d (driver_sets (exact_ids g) it)) (j : ℕ) (ranking : Ranking)
    (there : slice_get it.ranks.items j ≡ Some ranking) where
  abbrev c : DriverSets
  c = driver_sets (exact_ids g) it

  abbrev z : Zoning
  z = zoning_of g it.region ranking.sets.items j

  abbrev ranked : List RankedSet
  ranked = ranked_sets (exact_ids g) ranking

  -- the values of levels that tell a state
  abbrev values : StateData → Assignment
  values s = (coding g).assignment_of s

  are_ranked : AreRanked c j ranked
  are_ranked =
      slice_get-map (ranked_sets (exact_ids g)) it.ranks.items j
      ∙ ap (option_map (ranked_sets (exact_ids g))) there

  is_goal : j < length d.goals
  is_goal =
      let within = slice_get_within c.goals j ranked are_ranked in
      let count = form.goals in
      omega (arith, within, count)

  long : length z.ranks ≡ length ranked
  long =
      length-map ranking.sets.items (rank_in g)
      ∙ sym (length-map ranking.sets.items (ranked_set (exact_ids g)))

  -- ---- parts of zones as facts on states
  same_rank : (k : ℕ) (s : StateData) → before z k (values s) ≡ within_rank ranked k s
  same_rank k s =
      mapped_any (rank_in g) (λ (r : Rank). r.set (values s))
      (λ (r : RankSet). means g.diagrams.table r.set (values s)) (λ r. refl) ranking.sets.items k
      ∙ sym (mapped_any (ranked_set (exact_ids g)) (λ (r : RankedSet). r.set s)
      (λ (r : RankSet). means g.diagrams.table r.set (values s)) (λ r. refl) ranking.sets.items k)

  -- a set of the game's at the values of a valid state
  holds_at : (IsSuch : StateData → Type 0) (id : NodeId) → IsStates d g.order g.diagrams.table IsSuch id →
      (s : StateData) → IsState d s → means g.diagrams.table id (values s) ≡ true → IsSuch s
  holds_at IsSuch id set s state at =
      subst IsSuch ((coding_told d g is).back s state)
      ((states_iff d g is g.diagrams.table IsSuch id set (values s)).0 at).1

  holds_back : (IsSuch : StateData → Type 0) (id : NodeId) → IsStates d g.order g.diagrams.table IsSuch id →
      (s : StateData) → IsState d s → IsSuch s → means g.diagrams.table id (values s) ≡ true
  holds_back IsSuch id set s state such =
      (states_iff d g is g.diagrams.table IsSuch id set (values s)).1
      (subst (λ (t : StateData). IsState d t × IsSuch t) (sym ((coding_told d g is).back s state)) (state, such))

  goal_at : IsStates d g.order g.diagrams.table (λ s. goal_holds d s j ≡ true) (id_in g.goals j)
  goal_at = is.sets.goals j FALSE (let count = is.ordered.goals in let below = is_goal in omega (arith, count, below))

  module _ (k : ℕ) (r : RankSet) (at : slice_get ranking.sets.items k ≡ Some r) where
    ranked_at : slice_get ranked k ≡ Some (ranked_set (exact_ids g) r)
    ranked_at =
        slice_get-map (ranked_set (exact_ids g)) ranking.sets.items k
        ∙ ap (option_map (ranked_set (exact_ids g))) at

    fair_at : IsStates d g.order g.diagrams.table (λ s. IsFair d s r.fair) (id_in g.fairs r.fair)
    fair_at =
        is.sets.fairs r.fair FALSE
        (let below = form.fairs j k ranked (ranked_set (exact_ids g) r) are_ranked ranked_at in
        let count = is.ordered.fairs in omega (arith, below, count))

    rank_told : rank_at z k ≡ rank_in g r
    rank_told =
        get_or_from_slice_get z.ranks k (rank_in g r) (record { set = nothing; fair = nothing })
        (slice_get-map (rank_in g) ranking.sets.items k ∙ ap (option_map (rank_in g)) at)

    fair_told : (s : StateData) →
        (rank_at z k).fair (values s) ≡ means g.diagrams.table (id_in g.fairs r.fair) (values s)
    fair_told s = ap (λ (q : Rank). q.fair (values s)) rank_told

  rank_there : (k : ℕ) → k < length ranked → (r : RankSet) × (slice_get ranking.sets.items k ≡ Some r)
  rank_there k below = by (slice_get ranking.sets.items k) refl
    where
      by : (o : Option RankSet) → slice_get ranking.sets.items k ≡ o →
          (r : RankSet) × (slice_get ranking.sets.items k ≡ Some r)
      by (Some r) at = (r, at)
      by None at =
          let none : slice_get ranked k ≡ None =
          slice_get-map (ranked_set (exact_ids g)) ranking.sets.items k
          ∙ ap (option_map (ranked_set (exact_ids g))) at in
          let some = slice_get-get_or ranked k (record { fair = 0; set = λ s. false }) below in
          absurd (cc)

  -- a state of a target has no higher rank, and lies in the region
  low : (k : ℕ) (t : StateData) → before z k (values t) ≡ true → rank ranked t ≤ k
  low k t within = low_rank ranked k t (sym (same_rank k t) ∙ within)

  in_region : (k : ℕ) (t : StateData) → IsState d t → before z k (values t) ≡ true → IsIn d c.region t
  in_region k t state within =
      let found = found_at (λ (r : RankedSet). r.set t) ranked k (sym (same_rank k t) ∙ within) in
      (form.c0 j found.0 ranked found.1 are_ranked found.2).0 t (state, found.3)

  -- ---- what a state of a zone is
  below_long : (k : ℕ) (s : StateData) → added z k (values s) ≡ true → k < length ranked
  below_long k s at = by (less k (length ranked))
    where
      less : (a b : ℕ) → (a < b) ⊎ (b ≤ a)
      less a b = grind arith

      in_set : (rank_at z k).set (values s) ≡ true
      in_set =
          second_true (failing z (values s)) ((rank_at z k).set (values s))
          (first_true (failing z (values s) && (rank_at z k).set (values s)) (not (before z k (values s))) at)

      by : (k < length ranked) ⊎ (length ranked ≤ k) → k < length ranked
      by (inl below) = below
      by (inr above) =
          absurd (true≢false (sym in_set
          ∙ ap (λ (q : Rank). q.set (values s)) (past z.ranks k (omega (arith, above, long)))))

  rank_of : (k : ℕ) (s : StateData) → added z k (values s) ≡ true → rank ranked s ≡ 1 + k
  rank_of k s at =
      rank_is ranked k s (below_long k s at) (record {
        within = ap (λ (n : ℕ). within_rank ranked n s) (one_more k)
            ∙ sym (same_rank (suc k) s)
            ∙ sym (before_more z k (values s) (let below = below_long k s at in omega (arith, below, long)))
            ∙ or_second (before z k (values s)) ((rank_at z k).set (values s)) in_set;
        not_before = sym (same_rank k s)
            ∙ not_true (before z k (values s))
            (second_true (failing z (values s) && (rank_at z k).set (values s)) (not (before z k (values s))) at);
      })
    where
      in_set : (rank_at z k).set (values s) ≡ true
      in_set =
          second_true (failing z (values s)) ((rank_at z k).set (values s))
          (first_true (failing z (values s) && (rank_at z k).set (values s)) (not (before z k (values s))) at)

  -- ---- soundness
  module _ (s : StateData) (move : Move) (state : IsState d s) (allowed : IsAllowed d s move) where
    valid_after : (choices : List ℕ) (t : StateData) → Step d s move choices (Next t) → IsState d t
    valid_after choices t step = regular.steady s move choices (Next t) state step

    kept_in : (f : StateData → Bool) (P : StateData → Type 0) → Keeps d (λ t. f t ≡ true) s move →
        ((t : StateData) → IsState d t → f t ≡ true → P t) → Keeps d P s move
    kept_in f P keeps to = record {
      no_error = keeps.no_error;
      ends_within = λ choices t step. to t (valid_after choices t step) (keeps.ends_within choices t step);
    }

    -- from where the goal holds
    good_met : met z (values s) ≡ true → Keeps d (λ t. z.region (values t) ≡ true) s move → IsGoodMove d c j s move
    good_met at keeps = record {
      allowed = allowed;
      keeps = kept_in (λ t. z.region (values t)) (IsIn d c.region) keeps (λ t valid there. (valid, there));
      no_higher = λ rs are fails. absurd (true≢false (sym holds ∙ fails));
      lower = λ rs are fails fair. absurd (true≢false (sym holds ∙ fails));
    }
      where
        holds : goal_holds d s j ≡ true
        holds =
            holds_at (λ t. goal_holds d t j ≡ true) (id_in g.goals j) goal_at s state
            (second_true (here z (values s)) (z.goal (values s)) at)

    same_ranked : (rs : List RankedSet) → AreRanked c j rs → ranked ≡ rs
    same_ranked rs are = let e : Some ranked ≡ Some rs = sym are_ranked ∙ are in cc

    -- from where the condition of the rank fails
    good_waiting : (k : ℕ) → waiting z k (values s) ≡ true →
        Keeps d (λ t. before z (suc k) (values t) ≡ true) s move → IsGoodMove d c j s move
    good_waiting k at keeps = record {
      allowed = allowed;
      keeps = kept_in (λ t. before z (suc k) (values t)) (IsIn d c.region) keeps
          (λ t valid there. in_region (suc k) t valid there);
      no_higher = λ rs are fails.
          subst (λ (qs : List RankedSet). Keeps d (λ t. rank qs t ≤ rank qs s) s move) (same_ranked rs are)
          (kept_in (λ t. before z (suc k) (values t)) (λ t. rank ranked t ≤ rank ranked s) keeps
          (λ t valid there.
          let less = low (suc k) t there in let same = rank_of k s new in omega (arith, less, same)));
      lower = λ rs are fails fair.
          absurd (not_fair (subst (λ (qs : List RankedSet). IsFairAtRank d qs s) (sym (same_ranked rs are)) fair));
    }
      where
        new : added z k (values s) ≡ true
        new = first_true (added z k (values s)) (not ((rank_at z k).fair (values s))) at

        not_fair : IsFairAtRank d ranked s → ⊥
        not_fair (i, r, same, at_i, fair) =
            let own = rank_of k s new in
            let place : i ≡ k = omega (arith, own, same) in
            let mine = rank_there k (below_long k s new) in
            let twice : Some r ≡ Some (ranked_set (exact_ids g) mine.0) =
            sym at_i ∙ ap (λ (n : ℕ). slice_get ranked n) place ∙ ranked_at k mine.0 mine.1 in
            let fairs : r.fair ≡ mine.0.fair = cc in
            let told = holds_back (λ t. IsFair d t mine.0.fair) (id_in g.fairs mine.0.fair) (fair_at k mine.0 mine.1) s
            state (subst (λ (n : ℕ). IsFair d s n) fairs fair) in
            let fails = not_true ((rank_at z k).fair (values s))
            (second_true (added z k (values s)) (not ((rank_at z k).fair (values s))) at) in
            true≢false (sym told ∙ sym (fair_told k mine.0 mine.1 s) ∙ fails)

    -- from where it holds, at a rank above the first
    good_falling : (k : ℕ) → falling z (suc k) (values s) ≡ true →
        Keeps d (λ t. before z (suc k) (values t) ≡ true) s move → IsGoodMove d c j s move
    good_falling k at keeps = record {
      allowed = allowed;
      keeps = kept_in (λ t. before z (suc k) (values t)) (IsIn d c.region) keeps
          (λ t valid there. in_region (suc k) t valid there);
      no_higher = λ rs are fails.
          subst (λ (qs : List RankedSet). Keeps d (λ t. rank qs t ≤ rank qs s) s move) (same_ranked rs are)
          (kept_in (λ t. before z (suc k) (values t)) (λ t. rank ranked t ≤ rank ranked s) keeps
          (λ t valid there.
          let less = low (suc k) t there in let same = rank_of (suc k) s new in omega (arith, less, same)));
      lower = λ rs are fails fair.
          subst (λ (qs : List RankedSet). Keeps d (λ t. rank qs t < rank qs s) s move) (same_ranked rs are)
          (kept_in (λ t. before z (suc k) (values t)) (λ t. rank ranked t < rank ranked s) keeps
          (λ t valid there.
          let less = low (suc k) t there in let same = rank_of (suc k) s new in omega (arith, less, same)));
    }
      where
        new : added z (suc k) (values s) ≡ true
        new = first_true (added z (suc k) (values s)) ((rank_at z (suc k)).fair (values s)) at

    pub zone_good : (at : ℕ) → zone z at (values s) ≡ true → Keeps d (λ t. target z at (values t) ≡ true) s move →
        IsGoodMove d c j s move
    zone_good zero at keeps = good_met at keeps
    zone_good (suc k) at keeps =
        elim (or_either (waiting z k (values s)) (falling z (suc k) (values s)) at) as (λ _. IsGoodMove d c j s move) [
          | inl waits ↦ good_waiting k waits keeps
          | inr falls ↦ good_falling k falls keeps
        ]

  -- ---- completeness
  -- a move from a state ends in the target of a zone of the state
  pub record EndsInZone (s : StateData) (move : Move) : Type 0 where
    pub at : ℕ
    pub below : at < suc (length ranked)
    pub here : zone z at (values s) ≡ true
    pub keeps : Keeps d (λ t. target z at (values t) ≡ true) s move

  module _ (s : StateData) (move : Move) (at_region : IsIn d c.region s) (turn : is_driver_turn d s ≡ true)
      (good : IsGoodMove d c j s move) where
    state : IsState d s
    state = at_region.0

    at_turn : here z (values s) ≡ true
    at_turn =
        both_true (z.region (values s)) (z.turn (values s)) at_region.1
        (holds_back (λ t. is_driver_turn d t ≡ true) g.turn turns s state turn)

    -- where the goal holds
    when_met : goal_holds d s j ≡ true → EndsInZone s move
    when_met holds = record {
      at = 0;
      below = omega arith;
      here = both_true (here z (values s)) (z.goal (values s)) at_turn
          (holds_back (λ t. goal_holds d t j ≡ true) (id_in g.goals j) goal_at s state holds);
      keeps = record {
        no_error = good.keeps.no_error;
        ends_within = λ choices t step. (good.keeps.ends_within choices t step).1;
      };
    }

    -- where it fails
    module _ (fails : goal_holds d s j ≡ false) where
      is_failing : failing z (values s) ≡ true
      is_failing =
          both_true (here z (values s)) (not (z.goal (values s))) at_turn
          (true_not (z.goal (values s))
          (never (z.goal (values s))
          (λ at.
          true≢false (sym (holds_at (λ t. goal_holds d t j ≡ true) (id_in g.goals j) goal_at s state at) ∙ fails))))

      ranked_low : rank ranked s ≤ length ranked
      ranked_low = form.c2 s j ranked at_region are_ranked

      module _ (k : ℕ) (same : rank ranked s ≡ 1 + k) where
        few : k < length ranked
        few = let most = ranked_low in omega (arith, most, same)

        of : IsOfRank ranked k s
        of = of_rank ranked k s few same

        none_before : before z k (values s) ≡ false
        none_before = same_rank k s ∙ of.not_before

        in_set : (rank_at z k).set (values s) ≡ true
        in_set =
            ap (λ (b : Bool). b || (rank_at z k).set (values s)) (sym none_before)
            ∙ before_more z k (values s) (let less = few in omega (arith, less, long))
            ∙ same_rank (suc k) s
            ∙ ap (λ (n : ℕ). within_rank ranked n s) (sym (one_more k))
            ∙ of.within

        new : added z k (values s) ≡ true
        new =
            both_true (failing z (values s) && (rank_at z k).set (values s)) (not (before z k (values s)))
            (both_true (failing z (values s)) ((rank_at z k).set (values s)) is_failing in_set)
            (true_not (before z k (values s)) none_before)

        -- a state of no higher rank than one that there is lies in a target
        within : (i : ℕ) (t : StateData) → i ≤ k → rank ranked t ≤ suc i → before z (suc i) (values t) ≡ true
        within i t most less =
            same_rank (suc i) t
            ∙ stands (λ (r : RankedSet). r.set t) ranked (suc i) (omega (arith, less))
            (let low = few in omega (arith, less, low, most))

        when_waiting : (rank_at z k).fair (values s) ≡ false → EndsInZone s move
        when_waiting unfair = record {
          at = suc k;
          below = let less = few in omega (arith, less);
          here = or_first (waiting z k (values s)) (falling z (suc k) (values s))
              (both_true (added z k (values s)) (not ((rank_at z k).fair (values s))) new
              (true_not ((rank_at z k).fair (values s)) unfair));
          keeps = record {
            no_error = good.keeps.no_error;
            ends_within = λ choices t step.
                within k t (omega arith)
                (let less = (good.no_higher ranked are_ranked fails).ends_within choices t step in
                omega (arith, less, same));
          };
        }

        fair_there : (rank_at z k).fair (values s) ≡ true → IsFairAtRank d ranked s
        fair_there fair =
            let mine = rank_there k few in (
              k,
              ranked_set (exact_ids g) mine.0,
              same,
              ranked_at k mine.0 mine.1,
              holds_at (λ t. IsFair d t mine.0.fair) (id_in g.fairs mine.0.fair) (fair_at k mine.0 mine.1) s state
                  (sym (fair_told k mine.0 mine.1 s) ∙ fair),
            )

      -- a move that is allowed leads to some state of a rank
      some_rank : IsFairAtRank d ranked s → (t : StateData) × (rank ranked t < rank ranked s)
      some_rank fair = by good.allowed.1 good.allowed.2 good.allowed.3 good.allowed.4
        where
          by : (choices : List ℕ) (o : Outcome) → Step d s move choices o → o ≢ NoOutcome →
              (t : StateData) × (rank ranked t < rank ranked s)
          by choices (Next t) step some =
              (t, (good.lower ranked are_ranked fails fair).ends_within choices t step)
          by choices Error step some = absurd (good.keeps.no_error choices step)
          by choices NoOutcome step some = absurd (some refl)

      when_falling : (k : ℕ) (same : rank ranked s ≡ 1 + k) → (rank_at z k).fair (values s) ≡ true → EndsInZone s move
      when_falling zero same fair =
          let lower = some_rank (fair_there zero same fair) in
          let less = lower.1 in absurd (omega (arith, less, same))
      when_falling (suc i) same fair = record {
        at = suc i;
        below = let less = few (suc i) same in omega (arith, less);
        here = or_second (waiting z i (values s)) (falling z (suc i) (values s))
            (both_true (added z (suc i) (values s)) ((rank_at z (suc i)).fair (values s)) (new (suc i) same) fair);
        keeps = record {
          no_error = good.keeps.no_error;
          ends_within = λ choices t step.
              within (suc i) same i t (omega arith)
              (let less = (good.lower ranked are_ranked fails (fair_there (suc i) same fair)).ends_within choices t step
              in omega (arith, less, same));
        };
      }

      when_failing : EndsInZone s move
      when_failing = by (rank ranked s) refl
        where
          fairly : (k : ℕ) → rank ranked s ≡ 1 + k → (b : Bool) → (rank_at z k).fair (values s) ≡ b →
              EndsInZone s move
          fairly k same true fair = when_falling k same fair
          fairly k same false unfair = when_waiting k same unfair

          by : (n : ℕ) → rank ranked s ≡ n → EndsInZone s move
          by zero same = absurd (omega (arith, same))
          by (suc k) same = fairly k (same ∙ sym (one_more k)) ((rank_at z k).fair (values s)) refl

    pub good_zone : EndsInZone s move
    good_zone = by (goal_holds d s j) refl
      where
        by : (b : Bool) → goal_holds d s j ≡ b → EndsInZone s move
        by true holds = when_met holds
        by false fails = when_failing fails
