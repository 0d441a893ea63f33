-- Ranks of levels.
use Rattle.std.proofs.Common.{◌≡◌, ℕ, ◌<◌, ◌≤◌, true, false, inl, inr, List, length, get_or, ltb, sym, ap, ◌∙◌, arith}
use Rattle.std.specs.List.{range_with_len}
use Rattle.std.proofs.lemmas.Bool.{cases_lt, cases_order, ltb-false, ltb-true}
use Rattle.std.proofs.lemmas.List.{get_or_default, get_or_past}
use Rattle.std.proofs.lemmas.List.FromFn.{get_or-range_with_len, length-range_with_len}
use Rattle.tm_dd.specs.declared.node.NodeId.{NodeId}
use Rattle.tm_dd.specs.NodeId.{position_of}
use Rattle.tm_dd.specs.Reduced.{Extends, IsDeeper, RanksRise}
use Rattle.tm_dd.specs.Table.{Table, Knows, depth_of, level_of, rank_of}
use Rattle.tm_dd.specs.Unique.{AreRanks}
use Rattle.tm_dd.proofs.Meaning.{level_of-constant}

-- what is no level stands below all levels
pub rank_of-past : (s : Table) → AreRanks s.levels s.ranks → (k : ℕ) → s.levels ≤ k → rank_of s k ≡ s.levels
unfolding rank_of
rank_of-past s ranks k past = get_or_past s.ranks k s.levels (omega (arith, ranks.one_a_level, past))

pub rank_of-below : (s : Table) → AreRanks s.levels s.ranks → (k : ℕ) → k < s.levels → rank_of s k < s.levels
unfolding rank_of
rank_of-below s ranks k below = ranks.within k below

pub rank_of-once : (s : Table) → AreRanks s.levels s.ranks → (j k : ℕ) → j < s.levels → k < s.levels →
    rank_of s j ≡ rank_of s k → j ≡ k
unfolding rank_of
rank_of-once s ranks j k below_j below_k same = ranks.once j k below_j below_k same

-- no rank is greater than their number
pub rank_of-within : (s : Table) → AreRanks s.levels s.ranks → (k : ℕ) → rank_of s k ≤ s.levels
rank_of-within s ranks k =
    elim (cases_lt k s.levels) [
      | inl below ↦ omega (arith, rank_of-below s ranks k below)
      | inr past ↦ omega (arith, rank_of-past s ranks k past)
    ]

-- levels of different ranks are not the same
pub ranks_apart : (s : Table) (j k : ℕ) → rank_of s j < rank_of s k → ¬ (k ≡ j)
ranks_apart s j k above same = omega (arith, ap (rank_of s) same, above)

-- a constant stands below all levels
pub depth_of-constant : (s : Table) → AreRanks s.levels s.ranks → (id : NodeId) → position_of id ≡ 0 →
    depth_of s id ≡ s.levels
depth_of-constant s ranks id e =
    ap (rank_of s) (level_of-constant s id e) ∙ rank_of-past s ranks s.levels (omega arith)

-- what stands below a level has a greater rank
pub deeper_depth : (s : Table) → AreRanks s.levels s.ranks → (level : ℕ) → level < s.levels → (id : NodeId) →
    IsDeeper s level id → rank_of s level < depth_of s id
deeper_depth s ranks level below id (inl constant) =
    omega (
      arith,
      rank_of-below s ranks level below,
      depth_of-constant s ranks id (omega (arith, constant)),
    )
deeper_depth s ranks level below id (inr deeper) = deeper

-- tables of the same ranks
pub rank_of-same : (s t : Table) → t.levels ≡ s.levels → t.ranks ≡ s.ranks → (k : ℕ) → rank_of t k ≡ rank_of s k
unfolding rank_of
rank_of-same s t levels ranks k = λ i. get_or (ranks i) k (levels i)

pub rank_of-Extends : (s t : Table) → Extends s t → (k : ℕ) → rank_of t k ≡ rank_of s k
rank_of-Extends s t e k = rank_of-same s t e.same_levels e.same_ranks k

pub depth_of-Extends : (s t : Table) → Extends s t → (id : NodeId) → Knows s id → depth_of t id ≡ depth_of s id
depth_of-Extends s t e id known = rank_of-Extends s t e (level_of t id) ∙ ap (rank_of s) (e.same_level id known)

-- the numbers of levels are ranks
pub AreRanks-numbers : (n : ℕ) → AreRanks n (range_with_len 0 n)
AreRanks-numbers n = record {
  one_a_level = length-range_with_len 0 n;
  within = λ k below. omega (arith, get_or-range_with_len 0 n k n below, below);
  once = λ j k below_j below_k same.
      omega (arith, get_or-range_with_len 0 n j n below_j, get_or-range_with_len 0 n k n below_k, same);
}

-- and where they are, each level has its number for its rank
pub rank_of-number : (s : Table) → s.ranks ≡ range_with_len 0 s.levels → (k : ℕ) → k < s.levels → rank_of s k ≡ k
unfolding rank_of
rank_of-number s numbered k below =
    omega (
      arith,
      ap (λ (ranks : List ℕ). get_or ranks k s.levels) numbered,
      get_or-range_with_len 0 s.levels k s.levels below,
    )

-- what has a rank below the number of levels is a level
pub is_level : (s : Table) → AreRanks s.levels s.ranks → (k : ℕ) → rank_of s k < s.levels → k < s.levels
is_level s ranks k above =
    elim (cases_lt k s.levels) [
      | inl below ↦ below
      | inr past ↦ absurd (omega (arith, rank_of-past s ranks k past, above))
    ]

-- a level that stands no higher than another one stands deeper
pub rank_of-apart : (s : Table) → AreRanks s.levels s.ranks → (j k : ℕ) → j < s.levels → ¬ (k ≡ j) →
    rank_of s j ≤ rank_of s k → rank_of s j < rank_of s k
rank_of-apart s ranks j k below apart above =
    elim (cases_lt (rank_of s j) (rank_of s k)) [
      | inl deeper ↦ deeper
      | inr not_deeper ↦
          let same : rank_of s j ≡ rank_of s k = omega (arith, above, not_deeper) in
          let level = is_level s ranks k (omega (arith, same, rank_of-below s ranks j below)) in
          absurd (apart (sym (rank_of-once s ranks j k below level same)))
    ]

-- ---- a rank that is read

pub rank_read : (s : Table) (ranks : List ℕ) (k rank : ℕ) → ranks ≡ s.ranks → true ≡ ltb k (length ranks) →
    rank ≡ get_or ranks k rank → rank ≡ rank_of s k
unfolding rank_of
rank_read s ranks k rank held inside read =
    read ∙ get_or_default ranks k rank s.levels (ltb-true k (length ranks) (sym inside))
    ∙ ap (λ (xs : List ℕ). get_or xs k s.levels) held

pub no_rank_read : (s : Table) (ranks : List ℕ) (k levels : ℕ) → ranks ≡ s.ranks → levels ≡ s.levels →
    false ≡ ltb k (length ranks) → levels ≡ rank_of s k
unfolding rank_of
no_rank_read s ranks k levels held same outside =
    same ∙ sym (get_or_past s.ranks k s.levels
    (omega (arith, ltb-false k (length ranks) (sym outside), ap length held)))

-- ---- levels that stand in the order of their numbers

pub RanksRise-numbers : (s : Table) → s.ranks ≡ range_with_len 0 s.levels → (bits : ℕ) → bits ≤ s.levels →
    RanksRise bits s
RanksRise-numbers s numbered bits few j k above below =
    omega (
      arith,
      rank_of-number s numbered j (omega (arith, above, below, few)),
      rank_of-number s numbered k (omega (arith, below, few)),
      above,
    )

pub RanksRise-Extends : (s t : Table) → Extends s t → (bits : ℕ) → RanksRise bits s → RanksRise bits t
RanksRise-Extends s t e bits rise j k above below =
    omega (arith, rank_of-Extends s t e j, rank_of-Extends s t e k, rise j k above below)

-- what stands deeper has a greater number
pub number_rises : (s : Table) (bits : ℕ) → RanksRise bits s → (j k : ℕ) → j < bits → k < bits →
    rank_of s j < rank_of s k → j < k
number_rises s bits rise j k below_j below_k deeper =
    elim (cases_order j k) [
      | inl same ↦ absurd (omega (arith, ap (rank_of s) same, deeper))
      | inr apart ↦ elim apart [
        | inl above ↦ above
        | inr other ↦ absurd (omega (arith, rise k j other below_j, deeper))
      ]
    ]
