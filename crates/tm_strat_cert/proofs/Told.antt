-- A certificate tells the sets of the iterates that were numbered for it.
use Rattle.std.proofs.Common.{◌≡◌, ℕ, ◌∙◌, false, List, get_or, length, map, sym, ap}
use Rattle.tm_cert.specs.declared.cert.Entry.{Entry}
use Rattle.tm_cert.specs.declared.cert.Rank.{Rank}
use Rattle.tm_cert.specs.Cert.{LevelData}
use Rattle.tm_dd.specs.declared.node.NodeId.{NodeId}
use Rattle.tm_dd.specs.Reduced.{IsReduced, RanksRise}
use Rattle.tm_dd.specs.Table.{means}
use Rattle.tm_game.specs.Game.{GameData, IsOf}
use Rattle.tm_game.proofs.Ordered.{widths_are}
use Rattle.tm_numbering.specs.Numbers.{HasNumber}
use Rattle.tm_numbering.proofs.Entries.{worth}
use Rattle.tm_numbering.proofs.Pairs.{maps_same}
use Rattle.tm_sem.specs.State.{StateData}
use Rattle.tm_sem.specs.StateBits.{bits_of_numbers, state_numbers}
use Rattle.tm_solve.specs.declared.iterates.Chain.{Chain}
use Rattle.tm_solve.specs.declared.iterates.LevelSet.{LevelSet}
use Rattle.tm_solve.specs.declared.iterates.RankSet.{RankSet}
use Rattle.tm_solve.specs.declared.iterates.Ranking.{Ranking}
use Rattle.tm_solve.specs.declared.iterates.Iterates.{Iterates}
use Rattle.tm_solve.specs.Iterates as solution
use Rattle.tm_solve_exact.specs.Exact.{coding, exact_ids}
use Rattle.tm_solve_exact.specs.Exact as exact
use Rattle.tm_strat_cert.specs.Inner.Placed.{GoalsPlaced, IsNumbering, LevelPlaced, LevelsPlaced, RankPlaced, RanksPlaced, SetsPlaced}
use Rattle.tm_syntax.specs.Design.{DesignTree}
use Rattle.tm_verdict.specs.Sets as certificate
use Rattle.tm_verdict.specs.Sets.{bit_at, id_holds}

module _ (g : GameData) (d : DesignTree) (of : IsOf d g) (reduced : IsReduced g.diagrams.table)
    (rise : RanksRise (length g.order) g.diagrams.table) (kept : List NodeId) (nodes : List Entry)
    (numbered : IsNumbering g kept nodes) where
  -- the bits of a state by the certificate are its levels in the game
  same_bits : (s : StateData) → bit_at d g.order s ≡ (coding g).assignment_of s
  same_bits s = λ i. λ level.
      get_or (bits_of_numbers (sym (widths_are g.terms d g.flat of.flat) i) (state_numbers s))
      (get_or g.order level (length g.order)) false

  -- a number tells the set of its id
  pub set_told : (id : NodeId) (n : ℕ) → HasNumber kept id n →
      certificate.set_of d g.order nodes n ≡ exact.set_of g id
  set_told id n number = λ i. λ s. at s i
    where
      at : (s : StateData) → certificate.set_of d g.order nodes n s ≡ exact.set_of g id s
      at s =
          worth g.diagrams.table reduced (length g.order) rise kept nodes numbered (bit_at d g.order s) id n number
          ∙ ap (means g.diagrams.table id) (same_bits s)

  -- ---- a driver's
  rank_told : (r : RankSet) (q : Rank) → RankPlaced kept r q →
      certificate.ranked_set d g.order nodes q ≡ solution.ranked_set (exact_ids g) r
  rank_told r q placed =
      let set = set_told r.set q.set placed.1 in
      λ i. record { fair = placed.0 i; set = set i }

  ranks_told : (r : Ranking) (ranks : List Rank) → RanksPlaced kept r.sets.items ranks →
      map (certificate.ranked_set d g.order nodes) ranks ≡ solution.ranked_sets (exact_ids g) r
  ranks_told r ranks placed =
      maps_same (solution.ranked_set (exact_ids g)) (certificate.ranked_set d g.order nodes) (RankPlaced kept)
      r.sets.items ranks rank_told placed

  pub driver_told : (it : Iterates) (order : List ℕ) (region : ℕ) (goals : List (List Rank)) → order ≡ g.order →
      HasNumber kept it.region region → GoalsPlaced kept it.ranks.items goals →
      certificate.driver_sets d (record { order = order; nodes = nodes; region = region; goals = goals })
      ≡ solution.driver_sets (exact_ids g) it
  driver_told it order region goals same number placed =
      let one = set_told it.region region number in
      let all = maps_same (solution.ranked_sets (exact_ids g)) (map (certificate.ranked_set d g.order nodes))
      (λ (r : Ranking) (ranks : List Rank). RanksPlaced kept r.sets.items ranks) it.ranks.items goals ranks_told
      placed in
      ap (λ (o : List ℕ). certificate.driver_sets d
      (record { order = o; nodes = nodes; region = region; goals = goals })) same
      ∙ (λ i. record { region = one i; goals = all i })

  -- ---- the environment's
  sets_told : (c : Chain) (sets : List ℕ) → SetsPlaced kept c.sets.items sets →
      map (certificate.set_of d g.order nodes) sets ≡ solution.chain_sets (exact_ids g) c
  sets_told c sets placed =
      maps_same (exact.set_of g) (certificate.set_of d g.order nodes) (HasNumber kept) c.sets.items sets set_told placed

  level_told : (l : LevelSet) (m : LevelData) → LevelPlaced kept l m →
      certificate.level_sets d g.order nodes m ≡ solution.level_of (exact_ids g) l
  level_told l m placed =
      let set = set_told l.set m.set placed.set in
      let chains = maps_same (solution.chain_sets (exact_ids g)) (map (certificate.set_of d g.order nodes))
      (λ (c : Chain) (sets : List ℕ). SetsPlaced kept c.sets.items sets) l.chains.items m.chains sets_told
      placed.chains in
      λ i. record { goal = placed.goal i; set = set i; chains = chains i }

  pub levels_told : (it : Iterates) (order : List ℕ) (levels : List LevelData) → order ≡ g.order →
      LevelsPlaced kept it.levels.items levels →
      certificate.levels_of d (record { order = order; nodes = nodes; levels = levels })
      ≡ solution.levels_of (exact_ids g) it
  levels_told it order levels same placed =
      ap (λ (o : List ℕ). certificate.levels_of d (record { order = o; nodes = nodes; levels = levels })) same
      ∙ maps_same (solution.level_of (exact_ids g)) (certificate.level_sets d g.order nodes) (LevelPlaced kept)
      it.levels.items levels level_told placed
