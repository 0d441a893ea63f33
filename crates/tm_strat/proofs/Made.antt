-- Good moves of goals, with those of candidates, where the game grows.
use Rattle.std.proofs.Common.{◌≡◌, ◌⊎◌, inl, inr, ℕ, ◌+◌, ◌<◌, ◌≤◌, List, [], ◌∷◌, ◌++◌, Some}
use Rattle.std.proofs.Common.{length, get_or, slice_get, sym, ap, ◌∙◌, subst, arith}
use Rattle.std.proofs.lemmas.Bool.{cases_lt}
use Rattle.std.proofs.lemmas.Option.{slice_get-get_or, slice_get_within}
use Rattle.tm_check.proofs.KeepingReplies.{move_kept}
use Rattle.tm_check.proofs.Pushed.{pushed_at}
use Rattle.tm_check.specs.Replies.{move_of, shape_of}
use Rattle.tm_cir.specs.Tree.{BlockTree}
use Rattle.tm_dd.specs.declared.node.NodeId.{NodeId}
use Rattle.tm_game.specs.Game.{GameData, Grows}
use Rattle.tm_game.specs.Moves.{HasTask}
use Rattle.tm_game.specs.declared.moves.MoveShape.{MoveShape}
use Rattle.tm_game_bits.proofs.Extended.{Knows-Extends}
use Rattle.tm_flat.specs.Flat.{FlatTerms}
use Rattle.tm_sem.specs.State.{StateData}
use Rattle.tm_sem.specs.declared.state.Move.{Move}
use Rattle.tm_solve.specs.declared.iterates.Iterates.{Iterates}
use Rattle.tm_solve.specs.declared.iterates.RankSet.{RankSet}
use Rattle.tm_solve_exact.specs.Exact.{IsExactOf}
use Rattle.tm_solve_exact.proofs.Growing.{kept_set}
use Rattle.tm_strat.proofs.Gathering.{id_before, id_last, long_more}
use Rattle.tm_strat.proofs.Goods.{are_pairs, care_kept, shape_pairs_kept}
use Rattle.tm_strat.proofs.Serving.{zone_move_kept}
use Rattle.tm_strat.proofs.ZonePairs.{in_set_kept}
use Rattle.tm_strat.proofs.ZoneSets.{zoned_kept}
use Rattle.tm_strat.specs.Choice.{id_in}
use Rattle.tm_strat.specs.Goods.{AreGoodMoves, IsGoodFor, ranks_in}
use Rattle.tm_strat.specs.Served.{AreGivenFor, AreMadeFor, AreServed, IsGivenFor, IsGivenMove, IsMadeFor, IsServed}
use Rattle.tm_strat.specs.Served.{ServesFrom, ServesOne, candidate_trees}
use Rattle.tm_strat.specs.Targets.{AreSets}
use Rattle.tm_strat.specs.Trees.{shape_in}
use Rattle.tm_strat.specs.Zoned.{AreShapePairs}
use Rattle.tm_strat.specs.declared.candidates.Candidate.{Candidate}
use Rattle.tm_strat.specs.declared.choosing.GoalMoves.{GoalMoves}
use Rattle.tm_strat.specs.declared.good.GoodMoves.{GoodMoves}
use Rattle.tm_strat.specs.declared.numbers.Counts.{Counts}
use Rattle.tm_strat.specs.declared.reading.Given.{Given}
use Rattle.tm_syntax.specs.Design.{DesignTree}

-- ---- growth
module _ (d : DesignTree) (g h : GameData) (is : IsExactOf d g) (grows : Grows g h) where
  served_kept : (zones targets : List NodeId) → AreSets g zones → AreSets g targets → (b : BlockTree) (id : NodeId) →
      IsServed d g zones targets b id → IsServed d h zones targets b id
  served_kept zones targets zone_sets target_sets b id served = record {
    set = kept_set d g is h grows id served.set;
    good = λ s state held.
        subst (λ (P : StateData → Move → Type 0). P s (move_of 0 b s))
        (sym (zone_move_kept d g h grows zones targets zone_sets target_sets (length targets)))
        (served.good s state
        (subst (λ (P : StateData → Type 0). P s) (in_set_kept d g h grows id served.set.set.known) held));
  }

  pub all_served_kept : (zones targets : List NodeId) → AreSets g zones → AreSets g targets →
      (blocks : List BlockTree) (ids : List NodeId) (count : ℕ) → AreServed d g zones targets blocks ids count →
      AreServed d h zones targets blocks ids count
  all_served_kept zones targets zone_sets target_sets blocks ids count are = record {
    count_is = are.count_is;
    each = λ k b below there.
        served_kept zones targets zone_sets target_sets b (id_in ids k) (are.each k b below there);
  }

  made_kept : (region : NodeId) (ranks : List RankSet) (j : ℕ) (shapes : List MoveShape) (blocks : List BlockTree)
      (m : GoalMoves) → IsMadeFor d g region ranks j shapes blocks m → IsMadeFor d h region ranks j shapes blocks m
  made_kept region ranks j shapes blocks m made =
      let zone_sets = made.zoned.zone_sets in
      let target_sets = made.zoned.target_sets in
      record {
        zones = made.zones;
        targets = made.targets;
        zoned = zoned_kept d g h is grows region ranks j made.zones made.targets made.zoned;
        pairs = shape_pairs_kept d g h grows made.zones made.targets zone_sets target_sets shapes m.pairs.items
            (length shapes) made.pairs;
        care = care_kept g h grows m.pairs.items
            (are_pairs d g is made.zones made.targets shapes m.pairs.items made.pairs) m.care made.care;
        served = all_served_kept made.zones made.targets zone_sets target_sets blocks m.candidates.items
            (length blocks) made.served;
      }

  pub all_made_kept : (it : Iterates) (shapes : List MoveShape) (blocks : List BlockTree) (made : List GoalMoves) →
      AreMadeFor d g it shapes blocks made → AreMadeFor d h it shapes blocks made
  all_made_kept it shapes blocks made are = record {
    each = λ j m there. made_kept it.region (ranks_in it j) j shapes blocks m (are.each j m there);
  }

  pub good_kept : (region : NodeId) (ranks : List RankSet) (j : ℕ) (shapes : List MoveShape) (good : GoodMoves) →
      IsGoodFor d g region ranks j shapes good → IsGoodFor d h region ranks j shapes good
  good_kept region ranks j shapes good made =
      let zone_sets = made.zoned.zone_sets in
      let target_sets = made.zoned.target_sets in
      record {
        zones = made.zones;
        targets = made.targets;
        zoned = zoned_kept d g h is grows region ranks j made.zones made.targets made.zoned;
        pairs = shape_pairs_kept d g h grows made.zones made.targets zone_sets target_sets shapes good.pairs.items
            (length shapes) made.pairs;
        care = care_kept g h grows good.pairs.items
            (are_pairs d g is made.zones made.targets shapes good.pairs.items made.pairs) good.care made.care;
      }

  pub all_good_kept : (it : Iterates) (shapes : List MoveShape) (goods : List GoodMoves) →
      AreGoodMoves d g it shapes goods → AreGoodMoves d h it shapes goods
  all_good_kept it shapes goods are = record {
    each = λ j good there. good_kept it.region (ranks_in it j) j shapes good (are.each j good there);
  }

  -- one goal's moves with those of candidates
  pub move_made : (region : NodeId) (ranks : List RankSet) (j : ℕ) (shapes : List MoveShape)
      (blocks : List BlockTree) (good : GoodMoves) (m : GoalMoves) →
      (made : IsGoodFor d g region ranks j shapes good) → m.pairs.items ≡ good.pairs.items → m.care ≡ good.care →
      AreServed d h made.zones made.targets blocks m.candidates.items (length blocks) →
      IsMadeFor d h region ranks j shapes blocks m
  unfolding good_kept
  move_made region ranks j shapes blocks good m made pairs care served =
      let now = good_kept region ranks j shapes good made in
      record {
        zones = made.zones;
        targets = made.targets;
        zoned = now.zoned;
        pairs = subst (λ (l : List NodeId).
            AreShapePairs d h made.zones made.targets h.diagrams.table shapes l (length shapes)) (sym pairs) now.pairs;
        care = subst (λ (l : List NodeId). Rattle.tm_strat.specs.Zoned.IsCareOf h h.diagrams.table l m.care) (sym pairs)
            (subst (λ (i : NodeId). Rattle.tm_strat.specs.Zoned.IsCareOf h h.diagrams.table good.pairs.items i)
            (sym care) now.care);
        served = served;
      }

  -- ---- arguments
  given_move_kept : (shapes : List MoveShape) (b : BlockTree) (x : Given) → IsGivenMove d g shapes b x →
      IsGivenMove d h shapes b x
  given_move_kept shapes b x is_move = record {
    shape = is_move.shape;
    below = is_move.below;
    task = subst (λ (f : FlatTerms). HasTask f (shape_of b)) (sym grows.flat) is_move.task;
    move = subst (λ (o : List ℕ). Rattle.tm_check.specs.Replies.IsMove d o h.diagrams.table (move_of 0 b) (shape_of b)
        x.fits x.parts.items) (sym grows.order)
        (move_kept d g.order g.diagrams.table h.diagrams.table grows.diagrams (move_of 0 b) (shape_of b) x.fits
        x.parts.items is_move.move);
  }

  given_kept : (shapes : List MoveShape) (b : BlockTree) (x : Given) → IsGivenFor d g shapes b x →
      IsGivenFor d h shapes b x
  given_kept shapes b x given = record {
    fits = Knows-Extends g.diagrams.table h.diagrams.table grows.diagrams x.fits given.fits;
    parts = λ k p below.
        Knows-Extends g.diagrams.table h.diagrams.table grows.diagrams (get_or x.parts.items k p).1
        (given.parts k p below);
    move = elim given.move as (λ _. (x.fits ≡ Rattle.tm_dd.specs.declared.node.TheConstants.FALSE)
        ⊎ IsGivenMove d h shapes b x) [
          | inl none ↦ inl none
          | inr is_move ↦ inr (given_move_kept shapes b x is_move)
        ];
  }

  pub all_given_kept : (shapes : List MoveShape) (blocks : List BlockTree) (given : List Given) (count : ℕ) →
      AreGivenFor d g shapes blocks given count → AreGivenFor d h shapes blocks given count
  all_given_kept shapes blocks given count are = record {
    count_is = are.count_is;
    each = λ k b x block there. given_kept shapes b x (are.each k b x block there);
  }

-- ---- one more
pub made_none : (d : DesignTree) (g : GameData) (it : Iterates) (shapes : List MoveShape) (blocks : List BlockTree)
    (made : List GoalMoves) → made ≡ [] → AreMadeFor d g it shapes blocks made
made_none d g it shapes blocks made none = record {
  each = λ j m there. absurd (nothing j m (sym (ap (λ (l : List GoalMoves). slice_get l j) none) ∙ there));
}
  where
    nothing : (k : ℕ) (m : GoalMoves) → slice_get [] k ≡ Some m → ⊥
    nothing k m there = let below = slice_get_within [] k m there in omega (arith, below)

pub made_more : (d : DesignTree) (g : GameData) (it : Iterates) (shapes : List MoveShape) (blocks : List BlockTree)
    (made more : List GoalMoves) (m : GoalMoves) (k : ℕ) → length made ≡ k → AreMadeFor d g it shapes blocks made →
    IsMadeFor d g it.region (ranks_in it k) k shapes blocks m → more ≡ made ++ m ∷ [] →
    AreMadeFor d g it shapes blocks more
made_more d g it shapes blocks made more m k count before last items = record {
  each = λ j x there. at j x (pushed_at made m j x (sym (ap (λ (l : List GoalMoves). slice_get l j) items) ∙ there));
}
  where
    at : (j : ℕ) (x : GoalMoves) → (slice_get made j ≡ Some x) ⊎ ((j ≡ length made) × (m ≡ x)) →
        IsMadeFor d g it.region (ranks_in it j) j shapes blocks x
    at j x (inl early) = before.each j x early
    at j x (inr here) =
        subst (IsMadeFor d g it.region (ranks_in it j) j shapes blocks) here.1
        (subst (λ (n : ℕ). IsMadeFor d g it.region (ranks_in it n) n shapes blocks m) (sym (here.0 ∙ count)) last)

pub good_none : (d : DesignTree) (g : GameData) (it : Iterates) (shapes : List MoveShape) (goods : List GoodMoves) →
    goods ≡ [] → AreGoodMoves d g it shapes goods
good_none d g it shapes goods none = record {
  each = λ j m there. absurd (nothing j m (sym (ap (λ (l : List GoodMoves). slice_get l j) none) ∙ there));
}
  where
    nothing : (k : ℕ) (m : GoodMoves) → slice_get [] k ≡ Some m → ⊥
    nothing k m there = let below = slice_get_within [] k m there in omega (arith, below)

pub good_more : (d : DesignTree) (g : GameData) (it : Iterates) (shapes : List MoveShape)
    (goods more : List GoodMoves) (m : GoodMoves) (k : ℕ) → length goods ≡ k → AreGoodMoves d g it shapes goods →
    IsGoodFor d g it.region (ranks_in it k) k shapes m → more ≡ goods ++ m ∷ [] →
    AreGoodMoves d g it shapes more
good_more d g it shapes goods more m k count before last items = record {
  each = λ j x there. at j x (pushed_at goods m j x (sym (ap (λ (l : List GoodMoves). slice_get l j) items) ∙ there));
}
  where
    at : (j : ℕ) (x : GoodMoves) → (slice_get goods j ≡ Some x) ⊎ ((j ≡ length goods) × (m ≡ x)) →
        IsGoodFor d g it.region (ranks_in it j) j shapes x
    at j x (inl early) = before.each j x early
    at j x (inr here) =
        subst (IsGoodFor d g it.region (ranks_in it j) j shapes) here.1
        (subst (λ (n : ℕ). IsGoodFor d g it.region (ranks_in it n) n shapes m) (sym (here.0 ∙ count)) last)

-- ---- states that candidates serve
pub served_none : (d : DesignTree) (g : GameData) (zones targets : List NodeId) (blocks : List BlockTree)
    (ids : List NodeId) → ids ≡ [] → AreServed d g zones targets blocks ids 0
served_none d g zones targets blocks ids none = record {
  count_is = ap (λ (l : List NodeId). length l) none;
  each = λ k b below there. absurd (omega (arith, below));
}

pub served_more : (d : DesignTree) (g h : GameData) → IsExactOf d g → Grows g h → (zones targets : List NodeId) →
    AreSets g zones → AreSets g targets → (blocks : List BlockTree) (ids more : List NodeId) (k : ℕ) (id : NodeId) →
    AreServed d g zones targets blocks ids k →
    ((b : BlockTree) → slice_get blocks k ≡ Some b → IsServed d h zones targets b id) → more ≡ ids ++ id ∷ [] →
    AreServed d h zones targets blocks more (k + 1)
served_more d g h is grows zones targets zone_sets target_sets blocks ids more k id are last items = record {
  count_is = let long = long_more ids id more items in let count = are.count_is in omega (arith, long, count);
  each = λ j b under there. at j b under there (cases_lt j k);
}
  where
    at : (j : ℕ) (b : BlockTree) → j < k + 1 → slice_get blocks j ≡ Some b → (j < k) ⊎ (k ≤ j) →
        IsServed d h zones targets b (id_in more j)
    at j b under there (inl low) =
        let count = are.count_is in
        subst (IsServed d h zones targets b) (sym (id_before ids id more items j (omega (arith, low, count))))
        (served_kept d g h is grows zones targets zone_sets target_sets b (id_in ids j) (are.each j b low there))
    at j b under there (inr high) =
        let count = are.count_is in
        let same : k ≡ j = omega (arith, under, high) in
        subst (IsServed d h zones targets b) (sym (id_last ids id more items j (omega (arith, count, same))))
        (last b (ap (λ (n : ℕ). slice_get blocks n) same ∙ there))

-- what is known of one block, from what is known of all
pub serves_one : (d : DesignTree) (g h : GameData) → Grows g h → (zones targets : List NodeId)
    (shapes : List MoveShape) (blocks : List BlockTree) (pairs : List NodeId) (given : List Given) →
    (from : ServesFrom d g zones targets shapes blocks pairs given) → IsExactOf d h → (k : ℕ) (b : BlockTree)
    (x : Given) → slice_get blocks k ≡ Some b → slice_get given k ≡ Some x →
    ServesOne d h zones targets shapes b (id_in pairs x.shape) x
serves_one d g h grows zones targets shapes blocks pairs given from of k b x block there = record {
  of = of;
  zone_sets = record {
    each = λ j id at. Rattle.tm_game.proofs.Growing.set_kept g h grows id (from.zone_sets.each j id at);
  };
  target_sets = record {
    each = λ j id at. Rattle.tm_game.proofs.Growing.set_kept g h grows id (from.target_sets.each j id at);
  };
  are = λ below.
      (shape_pairs_kept d g h grows zones targets from.zone_sets from.target_sets shapes pairs (length shapes)
      from.are).each x.shape (shape_in shapes x.shape) below
      (slice_get-get_or shapes x.shape Rattle.tm_game.specs.declared.moves.MoveShape.TheVariants.Idle below);
  known = Knows-Extends g.diagrams.table h.diagrams.table grows.diagrams (id_in pairs x.shape)
      (are_pairs d g from.of zones targets shapes pairs from.are x.shape).known;
  given = given_kept d g h from.of grows shapes b x (from.given_are.each k b x block there);
}

-- the states that are served, from the good moves of a goal and arguments
pub served_of : (d : DesignTree) (g h : GameData) (region : NodeId) (ranks : List RankSet) (j : ℕ)
    (shapes : List MoveShape) (blocks : List BlockTree) (good : GoodMoves) →
    (made : IsGoodFor d g region ranks j shapes good) → IsExactOf d g → (given : List Given) →
    AreGivenFor d g shapes blocks given (length blocks) → (pairs : List NodeId) → pairs ≡ good.pairs.items →
    (ids : List NodeId) →
    (ServesFrom d g made.zones made.targets shapes blocks pairs given →
    AreServed d h made.zones made.targets blocks ids (length given)) →
    AreServed d h made.zones made.targets blocks ids (length blocks)
served_of d g h region ranks j shapes blocks good made is given are pairs same ids served =
    subst (AreServed d h made.zones made.targets blocks ids) are.count_is
    (served (record {
      of = is;
      zone_sets = made.zoned.zone_sets;
      target_sets = made.zoned.target_sets;
      are = subst (λ (l : List NodeId).
          AreShapePairs d g made.zones made.targets g.diagrams.table shapes l (length shapes)) (sym same) made.pairs;
      given_are = are;
    }))

-- what was made of lists under other names
pub made_read : (d : DesignTree) (g : GameData) (it : Iterates) (c : Counts) (shapes others : List MoveShape)
    (candidates more : List Candidate) (made : List GoalMoves) → others ≡ shapes → more ≡ candidates →
    AreMadeFor d g it others (candidate_trees d c others more) made →
    AreMadeFor d g it shapes (candidate_trees d c shapes candidates) made
made_read d g it c shapes others candidates more made same items are =
    subst (λ (l : List MoveShape). AreMadeFor d g it l (candidate_trees d c l candidates) made) same
    (subst (λ (l : List Candidate). AreMadeFor d g it others (candidate_trees d c others l) made) items are)

pub good_read : (d : DesignTree) (g : GameData) (it : Iterates) (shapes others : List MoveShape)
    (goods more : List GoodMoves) → others ≡ shapes → more ≡ goods → AreGoodMoves d g it shapes goods →
    AreGoodMoves d g it others more
good_read d g it shapes others goods more same items are =
    subst (λ (l : List MoveShape). AreGoodMoves d g it l more) (sym same)
    (subst (λ (l : List GoodMoves). AreGoodMoves d g it shapes l) (sym items) are)
