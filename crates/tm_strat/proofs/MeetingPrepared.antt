-- What was prepared serves the sets of a solution where these have good moves at all.
use Rattle.std.proofs.Common.{◌≡◌, ◌≢◌, ◌⊎◌, inl, inr, ℕ, zero, suc, ◌+◌, ◌-◌, ◌<◌, ◌≤◌, ◌++◌, Bool, true, false, List}
use Rattle.std.proofs.Common.{[], ◌∷◌, Option, None, Some, length, map, nat_lt, slice_get, refl, sym, ap, ◌∙◌, subst}
use Rattle.std.proofs.Common.{arith}
use Rattle.std.proofs.lemmas.Bool.{true≢false}
use Rattle.std.proofs.lemmas.Bool.Decides.{nat_tests}
use Rattle.std.proofs.lemmas.List.{get_or_past, length-map}
use Rattle.std.proofs.lemmas.List.FromFn.{get_or-range_with_len, length-range_with_len}
use Rattle.std.proofs.lemmas.Option.{get_or_from_slice_get, slice_get-get_or, slice_get-map, slice_get_within}
use Rattle.std.specs.List.{range_with_len}
use Rattle.std.specs.Option.{option_map, option_map_or}
use Rattle.std.specs.Prelude.{if◌then◌else◌}
use Rattle.tm_check.specs.Replies.{move_of}
use Rattle.tm_cir.specs.Meaning.{holds}
use Rattle.tm_cir.specs.Tree.{BlockTree, compare, constant, goal, idle}
use Rattle.tm_cir.specs.declared.block.Comparison.TheVariants as comparisons
use Rattle.tm_dd.proofs.CallerLaws.{means-FALSE}
use Rattle.tm_dd.specs.Table.{assignment, means}
use Rattle.tm_dd.specs.declared.node.NodeId.{NodeId}
use Rattle.tm_dd.specs.declared.node.TheConstants.{FALSE}
use Rattle.tm_ddops.specs.Manager.{IsFunction}
use Rattle.tm_game.proofs.Calling.{call_given, callable}
use Rattle.tm_game.specs.Game.{GameData, IsStates, in_set}
use Rattle.tm_game.specs.Moves as game
use Rattle.tm_game.specs.declared.moves.MoveShape.{MoveShape}
use Rattle.tm_game.specs.declared.moves.MoveShape.TheVariants as shapes
use Rattle.tm_game_bits.proofs.Tables.{leaves_from}
use Rattle.tm_game_bits.specs.AssignedStates.{state_of}
use Rattle.tm_game_bits.specs.Coding.{Coding, IsIn as is_in}
use Rattle.tm_game_bits.specs.Functions.{Assignment}
use Rattle.tm_game_bits.specs.States.{AreOneState}
use Rattle.tm_sem.specs.Certificates.{DriverSets, IsGoodMove, IsIn, MeetsMoveForm}
use Rattle.tm_sem.specs.Forcing.{Keeps}
use Rattle.tm_sem.specs.State.{StateData}
use Rattle.tm_sem.specs.StateBits.{bits_of_numbers}
use Rattle.tm_sem.specs.Step.{IsState, Step, is_driver_turn}
use Rattle.tm_sem.specs.declared.state.Move.{Move}
use Rattle.tm_sem.specs.declared.state.Move.TheVariants as moves
use Rattle.tm_sem.specs.declared.state.Outcome.{Outcome}
use Rattle.tm_sem.specs.declared.state.Outcome.TheVariants.{Error, Next, NoOutcome}
use Rattle.tm_solve.specs.Iterates.{driver_sets, ranked_set, ranked_sets}
use Rattle.tm_solve.specs.declared.iterates.Iterates.{Iterates}
use Rattle.tm_solve.specs.declared.iterates.Ranking.{Ranking}
use Rattle.tm_solve_exact.proofs.Growing.{coding_same, coding_told, states_iff}
use Rattle.tm_solve_exact.proofs.Staying.{iff_same}
use Rattle.tm_solve_exact.specs.Exact.{IsExactOf, coding, exact_ids, set_of}
use Rattle.tm_strat.proofs.Goods.{state_same}
use Rattle.tm_strat.proofs.MeetingGoals.{move_same, test_same}
use Rattle.tm_strat.proofs.MeetingMoves.{constant_move_is, given_state}
use Rattle.tm_strat.proofs.MeetingZones.{EndsInZone, good_zone, zone_good}
use Rattle.tm_strat.specs.Choice.{HasPair, care_in, constant_set, good_in, id_in, with_bits}
use Rattle.tm_strat.specs.Meeting.{CanCall, Serves}
use Rattle.tm_strat.specs.Prepared.{IsPrepared}
use Rattle.tm_strat.specs.Served.{IsMadeFor, candidate_trees}
use Rattle.tm_strat.specs.Shapes.{all_shapes, calls_of, leaves_of}
use Rattle.tm_strat.specs.Spelled.{choice_tree, constants_from, test_tree, widths_in}
use Rattle.tm_strat.specs.Trees.{candidate_tree, move_tree, predicate_tree, shape_in}
use Rattle.tm_strat.specs.Zoned.{IsZoneMove}
use Rattle.tm_strat.specs.Zones.{Zoning, target, zone, zoning_of}
use Rattle.tm_strat.specs.declared.candidates.Candidate.{Candidate}
use Rattle.tm_strat.specs.declared.choosing.GoalMoves.{GoalMoves}
use Rattle.tm_strat.specs.declared.predicates.Predicate.{Predicate}
use Rattle.tm_strat.specs.declared.spelling.Spelling.{Spelling}
use Rattle.tm_strat_drafts.specs.declared.drafts.MoveChoice.{MoveChoice}
use Rattle.tm_strat_drafts.specs.declared.drafts.MoveChoice.TheVariants.{Candidate as candidate, Constant}
use Rattle.tm_syntax.specs.Design.{DesignTree}
use Rattle.tm_verdict.specs.Regular.{IsRegular}

-- ---- lists
there_or_not : {A : Type 0} (xs : List A) (k : ℕ) →
    ((x : A) × (slice_get xs k ≡ Some x)) ⊎ (slice_get xs k ≡ None)
there_or_not {A = A} xs k = by (slice_get xs k) refl
  where
    by : (o : Option A) → slice_get xs k ≡ o → ((x : A) × (slice_get xs k ≡ Some x)) ⊎ (slice_get xs k ≡ None)
    by (Some x) at = inl (x, at)
    by None at = inr at

none_long : {A : Type 0} (xs : List A) (k : ℕ) → slice_get xs k ≡ None → length xs ≤ k
none_long [] k none = omega arith
none_long (x ∷ xs) zero none = absurd (cc)
none_long (x ∷ xs) (suc k) none = let rest = none_long xs k none in omega (arith, rest)

-- an id that is not there is the empty set
id_past : (ids : List NodeId) (k : ℕ) → length ids ≤ k → id_in ids k ≡ FALSE
id_past ids k above = get_or_past ids k FALSE above

behind : {A : Type 0} (xs ys : List A) (k i : ℕ) → i ≡ length xs + k → slice_get (xs ++ ys) i ≡ slice_get ys k
behind [] ys k i same = let e : i ≡ k = omega (arith, same) in ap (λ (n : ℕ). slice_get ys n) e
behind (x ∷ xs) ys k zero same = absurd (omega (arith, same))
behind (x ∷ xs) ys k (suc i) same = behind xs ys k i (omega (arith, same))

early : {A : Type 0} (xs ys : List A) (k : ℕ) (x : A) → slice_get xs k ≡ Some x → slice_get (xs ++ ys) k ≡ Some x
early [] ys k x at = absurd (cc)
early (y ∷ xs) ys zero x at = at
early (y ∷ xs) ys (suc k) x at = early xs ys k x at

none_more : (k : ℕ) → 0 + k ≡ k
none_more k = omega arith

ranged : {A : Type 0} (f : ℕ → A) (n k : ℕ) → k < n → slice_get (map f (range_with_len 0 n)) k ≡ Some (f k)
ranged f n k below =
    slice_get-map f (range_with_len 0 n) k
    ∙ ap (option_map f)
    (slice_get-get_or (range_with_len 0 n) k 0 (let long = length-range_with_len 0 n in omega (arith, below, long)))
    ∙ ap (λ (m : ℕ). Some (f m)) (get_or-range_with_len 0 n k 0 below ∙ none_more k)

-- ---- shapes
leave_there : (processes tasks p : ℕ) → p < processes →
    slice_get (all_shapes processes tasks) (suc p) ≡ Some (shapes.Leave p)
leave_there processes tasks p below =
    early (leaves_of processes) (calls_of tasks) p (shapes.Leave p) (ranged (λ q. shapes.Leave q) processes p below)

call_there : (processes tasks n : ℕ) → n < tasks →
    slice_get (all_shapes processes tasks) (suc (length (leaves_of processes) + n)) ≡ Some (shapes.Call n)
call_there processes tasks n below =
    behind (leaves_of processes) (calls_of tasks) n (length (leaves_of processes) + n) refl
    ∙ ranged (λ q. shapes.Call q) tasks n below

module _ (d : DesignTree) (g : GameData) (is : IsExactOf d g) (regular : IsRegular d) (can : CanCall d)
    (it : Iterates) (turns : IsStates d g.order g.diagrams.table (λ s. is_driver_turn d s ≡ true) g.turn)
    (form : MeetsMoveForm d (driver_sets (exact_ids g) it)) (sp : Spelling) (tests : List NodeId)
    (goals : List GoalMoves) (tasks_long : length g.flat.tasks ≡ length d.tasks)
    (prepared : IsPrepared d g it sp tests goals) where
  abbrev c : DriverSets
  c = driver_sets (exact_ids g) it

  abbrev values : StateData → Assignment
  values s = (coding g).assignment_of s

  abbrev pub blocks : List BlockTree
  blocks = candidate_trees d sp.counts sp.shapes.items sp.candidates.items

  -- a set by the values that a state has
  told : (id : NodeId) (s : StateData) → in_set d g id s → means g.diagrams.table id (values s) ≡ true
  told id s at =
      subst (λ (k : Coding). is_in k (means g.diagrams.table id) s) (sym (coding_same d g is)) at

  back : (id : NodeId) (s : StateData) → means g.diagrams.table id (values s) ≡ true → in_set d g id s
  back id s at = subst (λ (k : Coding). is_in k (means g.diagrams.table id) s) (coding_same d g is) at

  -- ---- tests
  test_at : (k j : ℕ) (s : StateData) → k < length tests → IsState d s →
      set_of g (id_in tests k) s ≡ holds s j (test_tree sp k)
  test_at k j s below state = by (there_or_not sp.predicates.items k)
    where
      by : ((p : Predicate) × (slice_get sp.predicates.items k ≡ Some p)) ⊎ (slice_get sp.predicates.items k ≡ None) →
          set_of g (id_in tests k) s ≡ holds s j (test_tree sp k)
      by (inr none) =
          let count = prepared.tests_are.count_is in
          let long = none_long sp.predicates.items k none in absurd (omega (arith, below, count, long))
      by (inl (p, at)) =
          let set = prepared.tests_are.each k p at in
          let again = (coding_told d g is).back s state in
          let iff = states_iff d g is g.diagrams.table (λ t. holds t 0 (predicate_tree sp.counts p) ≡ true)
          (id_in tests k) set (values s) in
          iff_same (set_of g (id_in tests k) s) (holds s 0 (predicate_tree sp.counts p))
          (λ h. subst (λ (t : StateData). holds t 0 (predicate_tree sp.counts p) ≡ true) again (iff.0 h).1)
          (λ h. iff.1 (subst (λ (t : StateData). IsState d t × (holds t 0 (predicate_tree sp.counts p) ≡ true))
          (sym again) (state, h)))
          ∙ test_same s 0 j sp.counts p
          ∙ ap (λ (o : Option Predicate).
          holds s j (option_map_or (predicate_tree sp.counts) o
          (compare comparisons.Equal goal (constant (k - length sp.predicates.items))))) (sym at)

  -- ---- the moves of a goal
  module _ (j : ℕ) (m : GoalMoves) (at_goal : slice_get goals j ≡ Some m) (ranking : Ranking)
      (there : slice_get it.ranks.items j ≡ Some ranking)
      (made : IsMadeFor d g it.region ranking.sets.items j sp.shapes.items blocks m) where
    abbrev z : Zoning
    z = zoning_of g it.region ranking.sets.items j

    -- a move that ends in the target of a zone
    move_good : (s : StateData) (move : Move) →
        IsZoneMove d g made.zones made.targets (length made.targets) s move → IsGoodMove d c j s move
    move_good s move ends =
        zone_good d g is regular it turns form j ranking there s move ends.good.state ends.good.allowed ends.at
        (sym ((zone_is.meaning) (values s)) ∙ told (id_in made.zones ends.at) s ends.here)
        (record {
          no_error = ends.good.keeps.no_error;
          ends_within = λ choices t step.
              sym (target_is.meaning (values t))
              ∙ told (id_in made.targets ends.at) t (ends.good.keeps.ends_within choices t step);
        })
      where
        zone_is : IsFunction g.diagrams.table (id_in made.zones ends.at) (zone z ends.at)
        zone_is =
            made.zoned.zones_are.each ends.at (id_in made.zones ends.at)
            (slice_get-get_or made.zones ends.at FALSE
            (let below = ends.below in let one = made.zoned.zones_are.count in
            let other = made.zoned.targets_are.count in omega (arith, below, one, other)))

        target_is : IsFunction g.diagrams.table (id_in made.targets ends.at) (target z ends.at)
        target_is =
            made.zoned.targets_are.each ends.at (id_in made.targets ends.at)
            (slice_get-get_or made.targets ends.at FALSE ends.below)

    -- what is at a number that is not there
    never_past : (ids : List NodeId) (k : ℕ) (v : Assignment) → length ids ≤ k →
        means g.diagrams.table (id_in ids k) v ≡ true → ⊥
    never_past ids k v above at =
        true≢false (sym at ∙ ap (λ (id : NodeId). means g.diagrams.table id v) (id_past ids k above)
        ∙ means-FALSE g.diagrams.table v)

    -- ---- candidates
    candidate_good : (n : ℕ) (s : StateData) → IsState d s → set_of g (id_in m.candidates.items n) s ≡ true →
        IsGoodMove d c j s (move_of j (choice_tree d sp (candidate n)) s)
    candidate_good n s state at = by (there_or_not sp.candidates.items n)
      where
        count : length m.candidates.items ≡ length sp.candidates.items
        count =
            made.served.count_is
            ∙ length-map sp.candidates.items (candidate_tree d sp.counts sp.shapes.items)

        by : ((k : Candidate) × (slice_get sp.candidates.items n ≡ Some k))
            ⊎ (slice_get sp.candidates.items n ≡ None) →
            IsGoodMove d c j s (move_of j (choice_tree d sp (candidate n)) s)
        by (inr none) =
            absurd (never_past m.candidates.items n (values s)
            (let long = none_long sp.candidates.items n none in let same = count in omega (arith, long, same)) at)
        by (inl (k, at_k)) =
            let below = slice_get_within sp.candidates.items n k at_k in
            let block : slice_get blocks n ≡ Some (candidate_tree d sp.counts sp.shapes.items k) =
            slice_get-map (candidate_tree d sp.counts sp.shapes.items) sp.candidates.items n
            ∙ ap (option_map (candidate_tree d sp.counts sp.shapes.items)) at_k in
            let serves = made.served.each n (candidate_tree d sp.counts sp.shapes.items k)
            (slice_get_within blocks n (candidate_tree d sp.counts sp.shapes.items k) block) block in
            let good = move_good s (move_of 0 (candidate_tree d sp.counts sp.shapes.items k) s)
            (serves.good s state (back (id_in m.candidates.items n) s at)) in
            subst (λ (o : Option Candidate). IsGoodMove d c j s (move_of j (option_map_or
            (candidate_tree d sp.counts sp.shapes.items) o idle) s)) (sym at_k)
            (subst (IsGoodMove d c j s)
            (move_same s 0 j d sp.counts (shape_in sp.shapes.items k.shape) k.arguments.items) good)

    -- ---- constants
    constant_good : (n bits : ℕ) (s : StateData) → IsState d s →
        constant_set g (id_in m.pairs.items n) bits s ≡ true →
        IsGoodMove d c j s (move_of j (choice_tree d sp (Constant n bits)) s)
    constant_good n bits s state at = by (there_or_not sp.shapes.items n)
      where
        by : ((shape : MoveShape) × (slice_get sp.shapes.items n ≡ Some shape)) ⊎ (slice_get sp.shapes.items n ≡ None) →
            IsGoodMove d c j s (move_of j (choice_tree d sp (Constant n bits)) s)
        by (inr none) =
            absurd (never_past m.pairs.items n (with_bits (length g.order) bits (values s))
            (let long = none_long sp.shapes.items n none in let same = made.pairs.count_is in
            omega (arith, long, same)) at)
        by (inl (shape, at_shape)) =
            let below = slice_get_within sp.shapes.items n shape at_shape in
            let pair = (made.pairs.each n shape below at_shape).only (with_bits (length g.order) bits (values s)) at in
            let good : IsGoodMove d c j s
            (game.move_at d g.order shape (with_bits (length g.order) bits (values s))) =
            move_good s (game.move_at d g.order shape (with_bits (length g.order) bits (values s)))
            (subst (λ (t : StateData). IsZoneMove d g made.zones made.targets (length made.targets) t
            (game.move_at d g.order shape (with_bits (length g.order) bits (values s))))
            (given_state d g is can s state bits) pair.1) in
            subst (λ (x : MoveShape). IsGoodMove d c j s (move_of j (move_tree d sp.counts x
            (constants_from bits 0 (widths_in sp x))) s))
            (sym (get_or_from_slice_get sp.shapes.items n shape shapes.Idle at_shape))
            (subst (IsGoodMove d c j s)
            (sym (constant_move_is d g is can s state bits sp.counts j sp prepared.widths shape pair.0 tasks_long
            good.allowed)) good)

    pub choice_good : (x : MoveChoice) (s : StateData) → IsState d s → good_in g (Some m) x s ≡ true →
        IsGoodMove d c j s (move_of j (choice_tree d sp x) s)
    choice_good (candidate n) s state at = candidate_good n s state at
    choice_good (Constant n bits) s state at = constant_good n bits s state at

    -- ---- the region
    module _ (s : StateData) (move : Move) (at_region : IsIn d c.region s) (turn : is_driver_turn d s ≡ true)
        (good : IsGoodMove d c j s move) where
      ends : EndsInZone d g is regular it turns form j ranking there s move
      ends = good_zone d g is regular it turns form j ranking there s move at_region turn good

      below_target : ends.at < length made.targets
      below_target =
          let below = ends.below in
          let long = length-map ranking.sets.items (ranked_set (exact_ids g)) in
          let count = made.zoned.targets_are.count in
          omega (arith, below, long, count)

      zone_is : IsFunction g.diagrams.table (id_in made.zones ends.at) (zone z ends.at)
      zone_is =
          made.zoned.zones_are.each ends.at (id_in made.zones ends.at)
          (slice_get-get_or made.zones ends.at FALSE
          (let below = below_target in let one = made.zoned.zones_are.count in
          let other = made.zoned.targets_are.count in omega (arith, below, one, other)))

      target_is : IsFunction g.diagrams.table (id_in made.targets ends.at) (target z ends.at)
      target_is =
          made.zoned.targets_are.each ends.at (id_in made.targets ends.at)
          (slice_get-get_or made.targets ends.at FALSE below_target)

      keeps_in : Keeps d (in_set d g (id_in made.targets ends.at)) s move
      keeps_in = record {
        no_error = good.keeps.no_error;
        ends_within = λ choices t step.
            back (id_in made.targets ends.at) t
            (target_is.meaning (values t) ∙ ends.keeps.ends_within choices t step);
      }

      -- the target has a state, to which the move leads
      some_target : id_in made.targets ends.at ≡ FALSE → ⊥
      some_target empty = by good.allowed.1 good.allowed.2 good.allowed.3 good.allowed.4
        where
          by : (choices : List ℕ) (o : Outcome) → Step d s move choices o → o ≢ NoOutcome → ⊥
          by choices (Next t) step some =
              true≢false (sym (told (id_in made.targets ends.at) t (keeps_in.ends_within choices t step))
              ∙ ap (λ (id : NodeId). means g.diagrams.table id (values t)) empty
              ∙ means-FALSE g.diagrams.table (values t))
          by choices Error step some = good.keeps.no_error choices step
          by choices NoOutcome step some = some refl

      zone_move : IsZoneMove d g made.zones made.targets (length made.targets) s move
      zone_move = record {
        at = ends.at;
        below = below_target;
        here = back (id_in made.zones ends.at) s (zone_is.meaning (values s) ∙ ends.here);
        some = some_target;
        good = record { state = at_region.0; allowed = good.allowed; keeps = keeps_in };
      }

      -- values of levels that tell the state and the move by a shape that there is
      pair_at : (k : ℕ) (shape : MoveShape) (w : Assignment) → slice_get sp.shapes.items k ≡ Some shape →
          game.HasTask g.flat shape → AreOneState (length g.order) w (values s) →
          game.move_at d g.order shape w ≡ move → HasPair (length g.order) g.diagrams.table m.pairs.items (values s)
      pair_at k shape w at_shape task same is_move =
          let below = slice_get_within sp.shapes.items k shape at_shape in
          let state : state_of d g.order w ≡ s =
          sym (state_same d g is w) ∙ (coding_told d g is).same w (values s) same
          ∙ (coding_told d g is).back s at_region.0 in
          record {
            shape = k;
            values = w;
            below = let count = made.pairs.count_is in omega (arith, below, count);
            same = same;
            good = (made.pairs.each k shape below at_shape).all w (
              task,
              subst (λ (t : StateData).
                  IsZoneMove d g made.zones made.targets (length made.targets) t (game.move_at d g.order shape w))
                  (sym state)
                  (subst (IsZoneMove d g made.zones made.targets (length made.targets) s) (sym is_move) zone_move),
            );
          }

      all_there : sp.shapes.items ≡ all_shapes (length d.processes) (length d.tasks)
      all_there = prepared.shapes can.few

      shape_there : (k : ℕ) (shape : MoveShape) →
          slice_get (all_shapes (length d.processes) (length d.tasks)) k ≡ Some shape →
          slice_get sp.shapes.items k ≡ Some shape
      shape_there k shape at = subst (λ (l : List MoveShape). slice_get l k ≡ Some shape) (sym all_there) at

      -- the state's values with those of the bits of arguments behind them
      abbrev with_arguments : List Bool → Assignment
      with_arguments bits level =
          if nat_lt level (length g.order) then values s level else assignment bits (level - length g.order)

      low_same : (bits : List Bool) → AreOneState (length g.order) (with_arguments bits) (values s)
      low_same bits k below =
          let low : nat_lt k (length g.order) ≡ true = grind (arith, nat_tests, below) in
          ap (λ (t : Bool). if t then values s k else assignment bits (k - length g.order)) low

      high_same : (bits : List Bool) (q : ℕ) → with_arguments bits (length g.order + q) ≡ assignment bits q
      high_same bits q =
          let high : nat_lt (length g.order + q) (length g.order) ≡ false = grind (arith, nat_tests) in
          let place : length g.order + q - length g.order ≡ q = omega arith in
          ap (λ (t : Bool). if t then values s (length g.order + q)
          else assignment bits (length g.order + q - length g.order)) high
          ∙ ap (assignment bits) place

    has_pair : (s : StateData) (move : Move) → IsIn d c.region s → is_driver_turn d s ≡ true →
        IsGoodMove d c j s move → HasPair (length g.order) g.diagrams.table m.pairs.items (values s)
    has_pair s moves.Stutter at_region turn good = absurd (true≢false (sym good.allowed.0))
    has_pair s (moves.Process p) at_region turn good = absurd (true≢false (sym good.allowed.0))
    has_pair s moves.Idle at_region turn good =
        pair_at s moves.Idle at_region turn good 0 shapes.Idle (values s)
        (shape_there s moves.Idle at_region turn good 0 shapes.Idle refl) tt (λ k below. refl) refl
    has_pair s (moves.Leave p) at_region turn good =
        let stands = leaves_from d s good.allowed.1 good.allowed.2 good.allowed.4 p good.allowed.3 in
        pair_at s (moves.Leave p) at_region turn good (suc p) (shapes.Leave p) (values s)
        (shape_there s (moves.Leave p) at_region turn good (suc p) (shapes.Leave p)
        (leave_there (length d.processes) (length d.tasks) p stands.0)) tt (λ k below. refl) refl
    has_pair s (moves.Call n args) at_region turn good =
        let can_call = callable g.terms d g.flat is.ordered.of.flat is.ordered.of.room n args s good.allowed in
        let task = can_call.there in
        let bits = bits_of_numbers can_call.widths args in
        let w = with_arguments s (moves.Call n args) at_region turn good bits in
        pair_at s (moves.Call n args) at_region turn good (suc (length (leaves_of (length d.processes)) + n))
        (shapes.Call n) w
        (shape_there s (moves.Call n args) at_region turn good
        (suc (length (leaves_of (length d.processes)) + n)) (shapes.Call n)
        (call_there (length d.processes) (length d.tasks) n (omega (arith, task, tasks_long)))) task
        (low_same s (moves.Call n args) at_region turn good bits)
        (call_given g.terms d g.flat is.ordered.of.flat is.ordered.of.room n args is.ordered.of.design g.order w
        can_call (λ q small. high_same s (moves.Call n args) at_region turn good bits q))

    pub care_there : (s : StateData) → IsIn d c.region s → is_driver_turn d s ≡ true → set_of g m.care s ≡ true
    care_there s at_region turn =
        let below : j < length d.goals =
        let within = slice_get_within it.ranks.items j ranking there in
        let long = length-map it.ranks.items (ranked_sets (exact_ids g)) in
        let count = form.goals in omega (arith, within, long, count) in
        let found = form.c4 s j at_region below turn in
        made.care.all (values s) (has_pair s found.0 at_region turn found.1)

  -- ---- all goals
  goal_there : (j : ℕ) → j < length goals → (m : GoalMoves) × (slice_get goals j ≡ Some m)
  goal_there j below = by (there_or_not goals j)
    where
      by : ((m : GoalMoves) × (slice_get goals j ≡ Some m)) ⊎ (slice_get goals j ≡ None) →
          (m : GoalMoves) × (slice_get goals j ≡ Some m)
      by (inl found) = found
      by (inr none) = let long = none_long goals j none in absurd (omega (arith, long, below))

  ranking_there : (j : ℕ) → j < length goals → (r : Ranking) × (slice_get it.ranks.items j ≡ Some r)
  ranking_there j below = by (there_or_not it.ranks.items j)
    where
      by : ((r : Ranking) × (slice_get it.ranks.items j ≡ Some r)) ⊎ (slice_get it.ranks.items j ≡ None) →
          (r : Ranking) × (slice_get it.ranks.items j ≡ Some r)
      by (inl found) = found
      by (inr none) =
          let long = none_long it.ranks.items j none in
          let count = prepared.count_is in absurd (omega (arith, long, below, count))

  made_for : (j : ℕ) (m : GoalMoves) → slice_get goals j ≡ Some m → (r : Ranking) →
      slice_get it.ranks.items j ≡ Some r → IsMadeFor d g it.region r.sets.items j sp.shapes.items blocks m
  made_for j m at_goal r there =
      subst (λ (o : Option Ranking).
      IsMadeFor d g it.region (option_map_or (λ (q : Ranking). q.sets.items) o []) j sp.shapes.items blocks m) there
      (prepared.moves.each j m at_goal)

  as_many_goals : length goals ≡ length d.goals
  as_many_goals = prepared.count_is ∙ sym (length-map it.ranks.items (ranked_sets (exact_ids g))) ∙ form.goals

  pub serves : Serves d c g sp tests goals
  serves = record {
    exact = is;
    count = sym prepared.tests_are.count_is;
    goal_count = as_many_goals;
    counted = record {
      few =
          let count = prepared.tests_are.count_is in
          let few = prepared.few_tests.few in
          let all = can.counted in
          omega (arith, count, few, all, as_many_goals);
    };
    tests_are = λ k j s below state. test_at k j s below state;
    good = λ j x s below state at.
        let m = goal_there j below in
        let r = ranking_there j below in
        choice_good j m.0 m.1 r.0 r.1 (made_for j m.0 m.1 r.0 r.1) x s state
        (subst (λ (o : Option GoalMoves). good_in g o x s ≡ true) m.1 at);
    region = λ j s below at_region turn.
        let m = goal_there j below in
        let r = ranking_there j below in
        subst (λ (o : Option GoalMoves). set_of g (care_in o) s ≡ true) (sym m.1)
        (care_there j m.0 m.1 r.0 r.1 (made_for j m.0 m.1 r.0 r.1) s at_region turn);
  }
