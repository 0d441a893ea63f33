-- A certificate of numbered iterates is one that can be read.
use Rattle.std.proofs.Common.{◌≡◌, ℕ, ◌<◌, List, get_or, length, map, Some, slice_get, sym, ◌∙◌, subst}
use Rattle.std.specs.Prelude.{All, sum}
use Rattle.std.proofs.lemmas.List.{length-map}
use Rattle.std.proofs.lemmas.Option.{slice_get-get_or, slice_get_within}
use Rattle.tm_cert.specs.declared.cert.Entry.{Entry}
use Rattle.tm_cert.specs.declared.cert.Rank.{Rank}
use Rattle.tm_cert.specs.Cert.{DriverData, EnvData, LevelData}
use Rattle.tm_cert.specs.Nodes.{ids_of}
use Rattle.tm_dd.specs.declared.node.NodeId.{NodeId}
use Rattle.tm_dd.specs.Reduced.{IsReduced, RanksRise}
use Rattle.tm_game.specs.Game.{GameData, IsOf}
use Rattle.tm_game.specs.Start.{state_bits_in}
use Rattle.tm_game.proofs.Ordered.{order_is}
use Rattle.tm_game_bits.specs.Order.{IsOrder}
use Rattle.tm_game_bits.proofs.Orders.{length_order}
use Rattle.tm_numbering.specs.Numbers.{HasNumber}
use Rattle.tm_numbering.proofs.Entries.{nodes_valid, number_within}
use Rattle.tm_numbering.proofs.Items.{get_some, mapped_get}
use Rattle.tm_sem.specs.Certificates.{WaitForConditions}
use Rattle.tm_sem.specs.Fairness.{conditions}
use Rattle.tm_sem.specs.StateBits.{state_widths}
use Rattle.tm_solve.specs.declared.iterates.Chain.{Chain}
use Rattle.tm_solve.specs.declared.iterates.Iterates.{Iterates}
use Rattle.tm_solve.specs.Iterates as solution
use Rattle.tm_solve_exact.specs.Exact.{exact_ids}
use Rattle.tm_strat_cert.specs.Inner.Placed.{GoalsPlaced, IsNumbering, LevelsPlaced, SetsPlaced}
use Rattle.tm_strat_cert.proofs.Told.{driver_told, levels_told}
use Rattle.tm_syntax.specs.Design.{DesignTree}
use Rattle.tm_verdict.specs.Environment.{HasShape}
use Rattle.tm_verdict.specs.Fitting.{AreNodes, FitsDriver, FitsEnvironment, FitsLevel, FitsRank}
use Rattle.tm_verdict.specs.Sets as certificate

-- what holds at each position holds of all
all_items : {A : Type 0} (P : A → Type 0) (xs : List A) → ((k : ℕ) (x : A) → slice_get xs k ≡ Some x → P x) → All P xs
all_items P xs each k d below = each k (get_or xs k d) (slice_get-get_or xs k d below)

module _ (g : GameData) (d : DesignTree) (of : IsOf d g) (places : IsOrder (state_bits_in g.flat) g.order)
    (reduced : IsReduced g.diagrams.table) (rise : RanksRise (length g.order) g.diagrams.table) (kept : List NodeId)
    (nodes : List Entry) (numbered : IsNumbering g kept nodes) where
  order_fits : IsOrder (sum (state_widths d)) g.order
  order_fits = order_is g.terms d g.flat of.flat g.order places

  same_order : (order : List ℕ) → order ≡ g.order → IsOrder (sum (state_widths d)) order
  same_order order same = subst (IsOrder (sum (state_widths d))) (sym same) order_fits

  nodes_fit : AreNodes (sum (state_widths d)) nodes
  nodes_fit =
      subst (λ (bits : ℕ). AreNodes bits nodes) (length_order (sum (state_widths d)) g.order order_fits)
      (nodes_valid g.diagrams.table reduced (length g.order) rise kept nodes numbered)

  within : (id : NodeId) (n : ℕ) → HasNumber kept id n → n < ids_of nodes
  within id n number = number_within g.diagrams.table reduced (length g.order) rise kept nodes numbered id n
      number

  -- ---- a driver's
  module _ (it : Iterates) (order : List ℕ) (region : ℕ) (goals : List (List Rank)) (same : order ≡ g.order)
      (number : HasNumber kept it.region region) (placed : GoalsPlaced kept it.ranks.items goals)
      (waits : WaitForConditions d (solution.driver_sets (exact_ids g) it)) where
    abbrev pub cert : DriverData
    cert = record { order = order; nodes = nodes; region = region; goals = goals }

    own_waits : WaitForConditions d (certificate.driver_sets d cert)
    own_waits =
        subst (WaitForConditions d)
        (sym (driver_told g d of reduced rise kept nodes numbered it order region goals same number placed)) waits

    rank_fits : (j k : ℕ) (ranks : List Rank) (q : Rank) → slice_get goals j ≡ Some ranks → slice_get ranks k ≡ Some q →
        FitsRank (length (conditions d)) (ids_of nodes) q
    rank_fits j k ranks q at here =
        let olds = get_some it.ranks.items j
        (subst (λ (n : ℕ). j < n) placed.count (slice_get_within goals j ranks at)) in
        let pairs = placed.each j olds.0 ranks olds.1 at in
        let old = get_some olds.0.sets.items k
        (subst (λ (n : ℕ). k < n) pairs.count (slice_get_within ranks k q here)) in
        record {
          fair = own_waits j k (map (certificate.ranked_set d order nodes) ranks)
              (certificate.ranked_set d order nodes q)
              (mapped_get (map (certificate.ranked_set d order nodes)) goals j ranks at)
              (mapped_get (certificate.ranked_set d order nodes) ranks k q here);
          set = within old.0.set q.set (pairs.each k old.0 q old.1 here).1;
        }

    pub driver_fits : length (solution.driver_sets (exact_ids g) it).goals ≡ length d.goals →
        FitsDriver (sum (state_widths d)) (length d.goals) (length (conditions d)) cert
    driver_fits count = record {
      order = same_order order same;
      nodes = nodes_fit;
      region = within it.region region number;
      count = placed.count ∙ sym (length-map it.ranks.items (solution.ranked_sets (exact_ids g))) ∙ count;
      ranks = all_items (All (FitsRank (length (conditions d)) (ids_of nodes))) goals
          (λ j ranks at. all_items (FitsRank (length (conditions d)) (ids_of nodes)) ranks
          (λ k q here. rank_fits j k ranks q at here));
    }

  -- ---- the environment's
  module _ (it : Iterates) (order : List ℕ) (levels : List LevelData) (same : order ≡ g.order)
      (placed : LevelsPlaced kept it.levels.items levels)
      (shape : HasShape d (solution.levels_of (exact_ids g) it)) where
    abbrev pub env : EnvData
    env = record { order = order; nodes = nodes; levels = levels }

    own_shape : HasShape d (certificate.levels_of d env)
    own_shape =
        subst (HasShape d) (sym (levels_told g d of reduced rise kept nodes numbered it order levels same placed)) shape

    sets_fit : (c : Chain) (sets : List ℕ) → SetsPlaced kept c.sets.items sets →
        All (λ (set : ℕ). set < ids_of nodes) sets
    sets_fit c sets pairs =
        all_items (λ (set : ℕ). set < ids_of nodes) sets (λ k n here.
        let old = get_some c.sets.items k (subst (λ (m : ℕ). k < m) pairs.count (slice_get_within sets k n here)) in
        within old.0 n (pairs.each k old.0 n old.1 here))

    level_fits : (k : ℕ) (m : LevelData) → slice_get levels k ≡ Some m →
        FitsLevel (length d.goals) (length (conditions d)) (ids_of nodes) m
    level_fits k m at =
        let l = get_some it.levels.items k (subst (λ (n : ℕ). k < n) placed.count (slice_get_within levels k m at)) in
        let pair = placed.each k l.0 m l.1 at in
        let there = mapped_get (certificate.level_sets d order nodes) levels k m at in
        record {
          goal = own_shape.goals k (certificate.level_sets d order nodes m) there;
          set = within l.0.set m.set pair.set;
          count = sym (length-map m.chains (map (certificate.set_of d order nodes)))
              ∙ own_shape.chains k (certificate.level_sets d order nodes m) there;
          chains = all_items (All (λ (set : ℕ). set < ids_of nodes)) m.chains (λ i sets here.
              let c = get_some l.0.chains.items i
              (subst (λ (n : ℕ). i < n) pair.chains.count (slice_get_within m.chains i sets here)) in
              sets_fit c.0 sets (pair.chains.each i c.0 sets c.1 here));
        }

    pub environment_fits : FitsEnvironment (sum (state_widths d)) (length d.goals) (length (conditions d)) env
    environment_fits = record {
      order = same_order order same;
      nodes = nodes_fit;
      levels = all_items (FitsLevel (length d.goals) (length (conditions d)) (ids_of nodes)) levels level_fits;
    }
