-- What a certificate tells once its numbers are given anew. Here `order` is the new order.
use Rattle.std.proofs.Common.{◌≡◌, ℕ, ◌<◌, Bool, List, length, map, get_or, slice_get, Some, refl, sym, ◌∙◌, subst, arith}
use Rattle.std.specs.Prelude.{All, Contains}
use Rattle.std.proofs.lemmas.Option.{slice_get-get_or}
use Rattle.tm_cert.specs.declared.cert.Entry.{Entry}
use Rattle.tm_cert.specs.declared.cert.Rank.{Rank}
use Rattle.tm_cert.specs.Cert.{DriverData, EnvData, LevelData}
use Rattle.tm_cert.specs.Nodes.{ids_of}
use Rattle.tm_dd.specs.declared.node.NodeId.{NodeId}
use Rattle.tm_dd.specs.Reduced.{IsReduced, RanksRise}
use Rattle.tm_dd.specs.Table.{Table}
use Rattle.tm_game_bits.specs.Order.{IsOrder}
use Rattle.tm_numbering.specs.Numbers.{AreNumbered}
use Rattle.tm_numbering.proofs.Entries.{nodes_valid, number_within, worth}
use Rattle.tm_numbering.proofs.Over.{over_all}
use Rattle.tm_numbering.proofs.Pairs.{all_from, maps_same}
use Rattle.tm_reorder.specs.Inner.Keys.{AreKeyed}
use Rattle.tm_reorder.specs.Inner.Parts.{AreIds, AreLevelSets, ChainStands, GoalsStand, LevelStands, LevelsStand, RankStands, RanksStand, Stands}
use Rattle.tm_reorder.specs.Inner.Told.{ChainTold, DriverTold, EnvironmentTold, IsTold, LevelTold, RankTold, RanksTold}
use Rattle.tm_reorder.proofs.Wanted.{key_at}
use Rattle.tm_verdict.specs.Fitting.{AreNodes, FitsDriver, FitsEnvironment, FitsLevel, FitsRank}

-- ---- numbers given anew
module _ (order : List ℕ) (s : Table) (reduced : IsReduced s) (rise : RanksRise (length order) s)
    (count : s.levels ≡ length order) (see : (ℕ → Bool) → ℕ → Bool) (old_nodes : List Entry) (ids kept : List NodeId)
    (nodes : List Entry) (keys : List ℕ)
    (loaded : AreKeyed s see old_nodes keys ids) (numbered : AreNumbered s s.levels kept nodes) where
  all_rise : RanksRise s.levels s
  all_rise = subst (λ (m : ℕ). RanksRise m s) (sym count) rise

  set_told : (k n : ℕ) → Contains keys k → Stands ids kept k n → IsTold see old_nodes nodes k n
  set_told k n has stands = record {
    within = number_within s reduced s.levels all_rise kept nodes numbered stands.0 n stands.2;
    same = λ v.
        worth s reduced s.levels all_rise kept nodes numbered v stands.0 n stands.2
        ∙ (loaded.each (key_at keys k has).0 k stands.0 (key_at keys k has).1 stands.1).meaning v;
  }

  nodes_told : AreNodes (length order) nodes
  nodes_told = subst (λ (m : ℕ). AreNodes m nodes) count (nodes_valid s reduced s.levels all_rise kept nodes numbered)

  rank_told : (r q : Rank) → Contains keys r.set → RankStands ids kept r q → RankTold see old_nodes nodes r q
  rank_told r q has stands = (stands.0, set_told r.set q.set has stands.1)

  ranks_told : (olds news : List Rank) →
      ((j : ℕ) (r : Rank) → slice_get olds j ≡ Some r → Contains keys r.set) → RanksStand ids kept olds news →
      RanksTold see old_nodes nodes olds news
  ranks_told olds news have are = record {
    count = are.count;
    each = λ j r q here there. rank_told r q (have j r here) (are.each j r q here there);
  }

  pub driver_told : (old : List ℕ) (region n : ℕ) (olds news : List (List Rank)) → Contains keys region →
      ((i j : ℕ) (ranks : List Rank) (r : Rank) → slice_get olds i ≡ Some ranks → slice_get ranks j ≡ Some r →
      Contains keys r.set) → Stands ids kept region n → GoalsStand ids kept olds news →
      DriverTold order see (record { order = old; nodes = old_nodes; region = region; goals = olds })
      (record { order = order; nodes = nodes; region = n; goals = news })
  driver_told old region n olds news has have stands are = record {
    order = refl;
    nodes = nodes_told;
    region = set_told region n has stands;
    goals = record {
      count = are.count;
      each = λ i x y here there.
          ranks_told x y (λ j r at. have i j x r here at) (are.each i x y here there);
    };
  }

  chain_told : (olds news : List ℕ) → ((j k : ℕ) → slice_get olds j ≡ Some k → Contains keys k) →
      ChainStands ids kept olds news → ChainTold see old_nodes nodes olds news
  chain_told olds news have are = record {
    count = are.count;
    each = λ j k n here there. set_told k n (have j k here) (are.each j k n here there);
  }

  level_told : (l m : LevelData) → Contains keys l.set →
      ((j k : ℕ) (chain : List ℕ) (n : ℕ) → slice_get l.chains j ≡ Some chain → slice_get chain k ≡ Some n →
      Contains keys n) → LevelStands ids kept l m → LevelTold see old_nodes nodes l m
  level_told l m has have stands = record {
    goal = stands.goal;
    set = set_told l.set m.set has stands.set;
    chains = record {
      count = stands.chains.count;
      each = λ j x y here there.
          chain_told x y (λ k n at. have j k x n here at) (stands.chains.each j x y here there);
    };
  }

  pub environment_told : (old : List ℕ) (olds news : List LevelData) →
      ((i : ℕ) (l : LevelData) → slice_get olds i ≡ Some l → Contains keys l.set) →
      ((i : ℕ) (l : LevelData) → slice_get olds i ≡ Some l → (j k : ℕ) (chain : List ℕ) (n : ℕ) →
      slice_get l.chains j ≡ Some chain → slice_get chain k ≡ Some n → Contains keys n) →
      LevelsStand ids kept olds news →
      EnvironmentTold order see (record { order = old; nodes = old_nodes; levels = olds })
      (record { order = order; nodes = nodes; levels = news })
  environment_told old olds news has have are = record {
    order = refl;
    nodes = nodes_told;
    levels = record {
      count = are.count;
      each = λ i x y here there.
          level_told x y (has i x here) (have i x here) (are.each i x y here there);
    };
  }

-- ---- the new certificate fits where the old one does
module _ (order : List ℕ) (is : IsOrder (length order) order) (see : (ℕ → Bool) → ℕ → Bool) where
  module _ (c moved : DriverData) (told : DriverTold order see c moved) where
    pub driver_fits : (goals fairs : ℕ) → FitsDriver (length order) goals fairs c →
        FitsDriver (length order) goals fairs moved
    driver_fits goals fairs fits = record {
      order = subst (λ (o : List ℕ). IsOrder (length order) o) (sym told.order) is;
      nodes = told.nodes;
      region = told.region.within;
      count = told.goals.count ∙ fits.count;
      ranks = all_from (RanksTold see c.nodes moved.nodes) (All (FitsRank fairs (ids_of c.nodes)))
          (All (FitsRank fairs (ids_of moved.nodes))) c.goals moved.goals ranks fits.ranks told.goals;
    }
      where
        rank : (r q : Rank) → RankTold see c.nodes moved.nodes r q → FitsRank fairs (ids_of c.nodes) r →
            FitsRank fairs (ids_of moved.nodes) q
        rank r q pair fit = record {
          fair = subst (λ (m : ℕ). m < fairs) (sym pair.0) fit.fair;
          set = pair.1.within;
        }

        ranks : (x y : List Rank) → RanksTold see c.nodes moved.nodes x y → All (FitsRank fairs (ids_of c.nodes)) x →
            All (FitsRank fairs (ids_of moved.nodes)) y
        ranks x y pairs was =
            all_from (RankTold see c.nodes moved.nodes) (FitsRank fairs (ids_of c.nodes))
            (FitsRank fairs (ids_of moved.nodes)) x y rank was pairs

    -- each goal has as many ranks as before
    pub ranks_counted : map (λ (rs : List Rank). length rs) moved.goals ≡ map (λ (rs : List Rank). length rs) c.goals
    ranks_counted =
        maps_same (λ (rs : List Rank). length rs) (λ (rs : List Rank). length rs) (RanksTold see c.nodes moved.nodes)
        c.goals moved.goals (λ x y pairs. pairs.count) told.goals

  module _ (c moved : EnvData) (told : EnvironmentTold order see c moved) where
    pub environment_fits : (goals fairs : ℕ) → FitsEnvironment (length order) goals fairs c →
        FitsEnvironment (length order) goals fairs moved
    environment_fits goals fairs fits = record {
      order = subst (λ (o : List ℕ). IsOrder (length order) o) (sym told.order) is;
      nodes = told.nodes;
      levels = all_from (LevelTold see c.nodes moved.nodes) (FitsLevel goals fairs (ids_of c.nodes))
          (FitsLevel goals fairs (ids_of moved.nodes)) c.levels moved.levels level fits.levels told.levels;
    }
      where
        chain : (x y : List ℕ) → ChainTold see c.nodes moved.nodes x y → All (λ set. set < ids_of c.nodes) x →
            All (λ set. set < ids_of moved.nodes) y
        chain x y pairs was =
            all_from (IsTold see c.nodes moved.nodes) (λ set. set < ids_of c.nodes)
            (λ set. set < ids_of moved.nodes) x y (λ set n pair low. pair.within) was pairs

        level : (l m : LevelData) → LevelTold see c.nodes moved.nodes l m → FitsLevel goals fairs (ids_of c.nodes) l →
            FitsLevel goals fairs (ids_of moved.nodes) m
        level l m pair fit = record {
          goal = subst (λ (j : ℕ). j < goals) (sym pair.goal) fit.goal;
          set = pair.set.within;
          count = pair.chains.count ∙ fit.count;
          chains = all_from (ChainTold see c.nodes moved.nodes) (All (λ set. set < ids_of c.nodes))
              (All (λ set. set < ids_of moved.nodes)) l.chains m.chains chain fit.chains pair.chains;
        }

-- ---- what the parts are given
-- the diagrams read the levels of the store
pub ids_over : (s : Table) (see : (ℕ → Bool) → ℕ → Bool) (nodes : List Entry) (keys : List ℕ) (ids : List NodeId) →
    IsReduced s → AreKeyed s see nodes keys ids → AreIds s ids
ids_over s see nodes keys ids reduced loaded k d below =
    over_all s (get_or ids k d) reduced (loaded.known k (get_or ids k d) (slice_get-get_or ids k d below))

-- the sets of ranks, and of levels, are numbers that have diagrams
pub rank_sets : (fairs count many : ℕ) (goals : List (List Rank)) → many ≡ count →
    All (All (FitsRank fairs count)) goals → All (All (λ (r : Rank). r.set < many)) goals
rank_sets fairs count many goals same fits = λ k d below. λ j e within.
    let low = (fits k d below j e within).set in
    omega (arith, low, same)

pub level_sets_fit : (goals fairs count many : ℕ) (game_levels : List LevelData) → many ≡ count →
    All (FitsLevel goals fairs count) game_levels → All (AreLevelSets many) game_levels
level_sets_fit goals fairs count many game_levels same fits k d below =
    let fit = fits k d below in
    record {
      set = omega (arith, fit.set, same);
      chains = λ j x within. λ l y inside. let low = fit.chains j x within l y inside in omega (arith, low, same);
    }
