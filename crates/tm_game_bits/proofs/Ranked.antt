-- The positions of levels in an order are ranks.
use Rattle.std.proofs.Common.{◌≡◌, ℕ, ◌+◌, ◌-◌, ◌*◌, ◌<◌, ◌≤◌, List, length, map, get_or, inl, inr, if◌then◌else◌, sym, ap, ◌∙◌, subst, arith}
use Rattle.std.specs.List.{range_with_len}
use Rattle.std.specs.List.Sorted.{IsNonDecreasingBy}
use Rattle.std.proofs.lemmas.Bool.{cases_lt, lt-ltb}
use Rattle.std.proofs.lemmas.List.{get_or_default}
use Rattle.std.proofs.lemmas.List.FromFn.{get_or-map-range_with_len, length-map-range_with_len}
use Rattle.tm_dd.specs.Reduced.{RanksRise}
use Rattle.tm_dd.specs.Table.{Table, rank_of}
use Rattle.tm_dd.specs.Unique.{AreRanks}
use Rattle.tm_game_bits.specs.Inner.Ranks.{key_of}
use Rattle.tm_game_bits.specs.Order.{IsOrder, level_in}
use Rattle.tm_game_bits.proofs.Orders.{length_order, level_of_place}

module _ (count : ℕ) (order : List ℕ) (is : IsOrder count order) (ranks : List ℕ)
    (are : ranks ≡ map (level_in order) (range_with_len 0 (length order))) where
  -- the rank of a level is its position
  ranked : (k d : ℕ) → k < count → get_or ranks k d ≡ level_in order k
  ranked k d below =
      ap (λ (xs : List ℕ). get_or xs k d) are
      ∙ get_or-map-range_with_len (level_in order) 0 (length order) k k d
      (omega (arith, length_order count order is, below)) (omega arith)

  pub are_ranks : AreRanks count ranks
  are_ranks = record {
    one_a_level =
        ap length are ∙ length-map-range_with_len (level_in order) 0 (length order) ∙ length_order count order is;
    within = λ k below.
        omega (
          arith,
          ranked k count below,
          (level_of_place count order is k below).below,
          length_order count order is,
        );
    once = λ j k below_j below_k same.
        let at : level_in order j ≡ level_in order k =
        sym (ranked j count below_j) ∙ same ∙ ranked k count below_k in
        sym (level_of_place count order is j below_j).at
        ∙ ap (λ i. get_or order i 0) at
        ∙ (level_of_place count order is k below_k).at;
  }

  module _ (states : ℕ) (few : states ≤ count) (above : List ℕ) (sorted : IsNonDecreasingBy (key_of states above) order)
    where
      state_key : (k : ℕ) → k < states → key_of states above k ≡ 2 * k + 1
      state_key k below =
          ap (λ b. if b then 2 * k + 1 else 2 * get_or above (k - states) states) (lt-ltb k states below)

      -- the key at a level's position is its own
      key_at : (k : ℕ) → k < states → key_of states above (get_or order (level_in order k) 0) ≡ 2 * k + 1
      key_at k below =
          ap (key_of states above) (level_of_place count order is k (omega (arith, below, few))).at ∙ state_key k below

      -- the first levels stand in the order of their numbers
      positions_rise : (j k : ℕ) → j < k → k < states → level_in order j < level_in order k
      positions_rise j k before below =
          elim (cases_lt (level_in order j) (level_in order k)) [
            | inl rises ↦ rises
            | inr falls ↦
                let found = level_of_place count order is j (omega (arith, before, below, few)) in
                let keys = sorted (level_in order k) (level_in order j) 0 falls found.below in
                absurd (omega (arith, keys, key_at j (omega (arith, before, below)), key_at k below, before))
          ]

      pub ranks_rise : (s : Table) → s.levels ≡ count → s.ranks ≡ ranks → RanksRise states s
      unfolding rank_of
      ranks_rise s levels held j k before below =
          let at : (i : ℕ) → i < states → rank_of s i ≡ level_in order i =
          λ i low. ap (λ (xs : List ℕ). get_or xs i s.levels) held
          ∙ ranked i s.levels (omega (arith, low, few)) in
          omega (arith, at j (omega (arith, before, below)), at k below, positions_rise j k before below)
