-- Constants in the places of the levels of arguments.
use Rattle.std.proofs.Common.{◌≡◌, inl, inr, ℕ, zero, suc, ◌+◌, ◌-◌, ◌/◌, ◌%◌, ◌^◌, ◌<◌, ◌≤◌, ◌==◌, eqb, cond, Bool}
use Rattle.std.proofs.Common.{true, false, List, [], ◌∷◌, ◌++◌, Option, None, Some, length, map, nat_lt, get_or, refl}
use Rattle.std.proofs.Common.{sym, ap, ◌∙◌, subst, arith}
use Rattle.std.proofs.Math.Logic.{∥∥₁_elim}
use Rattle.std.proofs.lemmas.Bool.{cases_lt, eqb-false, eqb-true}
use Rattle.std.proofs.lemmas.Bool.Decides.{nat_tests}
use Rattle.std.proofs.lemmas.List.{get_or_default, get_or_past}
use Rattle.std.proofs.lemmas.List.FromFn.{get_or-map-range_with_len, length-map-range_with_len, map-range_with_len_more}
use Rattle.std.specs.List.{range_with_len}
use Rattle.std.specs.Map.{lookup}
use Rattle.std.specs.Option.{option_map_or}
use Rattle.std.specs.Prelude.{All, if◌then◌else◌}
use Rattle.tm_base.specs.Bits.{bits_of}
use Rattle.tm_dd.specs.declared.node.NodeId.{NodeId}
use Rattle.tm_dd.specs.Table.{Knows, Table, means}
use Rattle.tm_dd.proofs.CallerLaws.{means-FALSE, means-TRUE}
use Rattle.tm_ddops.specs.Manager.{IsFunction}
use Rattle.tm_ddops.specs.Operation.{substituted}
use Rattle.tm_flat.specs.Inputs.{room}
use Rattle.tm_game.specs.Game.{GameData}
use Rattle.tm_game_bits.proofs.Extended.{means-Extends}
use Rattle.tm_game_bits.specs.Functions.{Assignment}
use Rattle.tm_game_bits.specs.States.{AreOneState, ReadsState}
use Rattle.tm_solve.specs.Ids.{Is}
use Rattle.tm_solve_exact.specs.Exact.{HasDesign, IsExactOf, coding, exact_game, exact_ids, valid_set}
use Rattle.tm_solve_exact.proofs.Answering.{is_told}
use Rattle.tm_solve_exact.proofs.Growing.{coding_told, valid_told}
use Rattle.tm_solve_exact.proofs.Staying.{valid_reads}
use Rattle.tm_solve_exact.proofs.Truncated.{is_prop}
use Rattle.tm_strat.proofs.Carrying.{grown}
use Rattle.tm_strat.proofs.Constants.{bits_length, room_is}
use Rattle.tm_strat.specs.Choice.{IsPairs, constant_set, with_bits}
use Rattle.tm_strat.specs.Constants.{constant_id, constant_parts}
use Rattle.tm_strat_drafts.specs.Growth.{Carried}
use Rattle.tm_syntax.specs.Design.{DesignTree}

constant_means : (t : Table) (b : Bool) (v : Assignment) → means t (constant_id b) v ≡ b
constant_means t true v = means-TRUE t v
constant_means t false v = means-FALSE t v

-- the bit of a number of a weight
pub bit_is : (w n k : ℕ) → k < w → get_or (bits_of w n) k false ≡ (n / 2 ^ (w - 1 - k) % 2 == 1)
bit_is zero n k below = absurd (omega (arith, below))
bit_is (suc w) n zero below =
    let same : w ≡ suc w - 1 - 0 = omega arith in ap (λ e. n / 2 ^ e % 2 == 1) same
bit_is (suc w) n (suc k) below =
    let same : w - 1 - k ≡ suc w - 1 - suc k = omega (arith, below) in
    bit_is w n k (omega (arith, below)) ∙ ap (λ e. n / 2 ^ e % 2 == 1) same

-- one part more
pub parts_more : (first bits k level : ℕ) (weight : ℕ) (id : NodeId) (parts more : List (ℕ × NodeId)) → k < 64 →
    weight ≡ 63 - k → level ≡ first + k → id ≡ constant_id (bits / 2 ^ weight % 2 == 1) →
    parts ≡ constant_parts first bits k → more ≡ parts ++ (level, id) ∷ [] →
    more ≡ constant_parts first bits (k + 1)
parts_more first bits k level weight id parts more below is at value before items =
    items
    ∙ (λ i. before i ++ (at i, part i) ∷ [])
    ∙ sym (map-range_with_len_more (λ j. (first + j, constant_id (get_or (bits_of 64 bits) j false))) 0 k k here)
  where
    here : 0 + k ≡ k
    here = omega arith

    part : id ≡ constant_id (get_or (bits_of 64 bits) k false)
    part =
        value ∙ ap (λ e. constant_id (bits / 2 ^ e % 2 == 1)) is
        ∙ ap constant_id (sym (bit_is 64 bits k below))

constant_known : (t : Table) (b : Bool) → Knows t (constant_id b)
constant_known t true = omega arith
constant_known t false = omega arith

parts_known : (t : Table) (first bits n : ℕ) → All (λ (p : ℕ × NodeId). Knows t p.1) (constant_parts first bits n)
parts_known t first bits n k other below =
    let f : ℕ → ℕ × NodeId = λ j. (first + j, constant_id (get_or (bits_of 64 bits) j false)) in
    let long = length-map-range_with_len f 0 n in
    let here : 0 + k ≡ k = omega arith in
    subst (λ (p : ℕ × NodeId). Knows t p.1)
    (sym (get_or-map-range_with_len f 0 n k k other (omega (arith, below, long)) here))
    (constant_known t (get_or (bits_of 64 bits) k false))

-- ---- the part of a level
module _ (f : ℕ → NodeId) (first level : ℕ) where
  abbrev part_in : ℕ → ℕ → Option NodeId
  part_in start count = lookup (λ l. l == level) (map (λ k. (first + k, f k)) (range_with_len start count))

  found : (start count : ℕ) → first + start ≤ level → level < first + start + count →
      part_in start count ≡ Some (f (level - first))
  found start zero above below = absurd (omega (arith, above, below))
  found start (suc n) above below =
      elim (eqb (first + start) level) as (λ t. eqb (first + start) level ≡ t →
      cond t (Some (f start)) (part_in (start + 1) n) ≡ Some (f (level - first))) [
        | true ↦ λ e.
            let same = eqb-true (first + start) level e in
            let here : start ≡ level - first = omega (arith, same) in
            ap (λ i. Some (f i)) here
        | false ↦ λ e.
            let other = eqb-false (first + start) level e in
            found (start + 1) n (omega (arith, above, other)) (omega (arith, below))
      ] refl

  before : (start count : ℕ) → level < first + start → part_in start count ≡ None
  before start zero below = refl
  before start (suc n) below =
      elim (eqb (first + start) level) as (λ t. eqb (first + start) level ≡ t →
      cond t (Some (f start)) (part_in (start + 1) n) ≡ None) [
        | true ↦ λ e. let same = eqb-true (first + start) level e in absurd (omega (arith, same, below))
        | false ↦ λ e. before (start + 1) n (omega (arith, below))
      ] refl

  past : (start count : ℕ) → first + start + count ≤ level → part_in start count ≡ None
  past start zero above = refl
  past start (suc n) above =
      elim (eqb (first + start) level) as (λ t. eqb (first + start) level ≡ t →
      cond t (Some (f start)) (part_in (start + 1) n) ≡ None) [
        | true ↦ λ e. let same = eqb-true (first + start) level e in absurd (omega (arith, same, above))
        | false ↦ λ e. past (start + 1) n (omega (arith, above))
      ] refl

module _ (first bits : ℕ) (v : Assignment) (level : ℕ) where
  low : level < first → with_bits first bits v level ≡ v level
  low below =
      let is : nat_lt level first ≡ true = grind (arith, nat_tests, below) in
      ap (λ (t : Bool). if t then v level else get_or (bits_of 64 bits) (level - first) (v level)) is

  high : first ≤ level → with_bits first bits v level ≡ get_or (bits_of 64 bits) (level - first) (v level)
  high above =
      let is : nat_lt level first ≡ false = grind (arith, nat_tests, above) in
      ap (λ (t : Bool). if t then v level else get_or (bits_of 64 bits) (level - first) (v level)) is

  inside : first ≤ level → level < first + 64 → (d : Bool) →
      with_bits first bits v level ≡ get_or (bits_of 64 bits) (level - first) d
  inside above below d =
      let long = bits_length 64 bits in
      high above
      ∙ get_or_default (bits_of 64 bits) (level - first) (v level) d (omega (arith, above, below, long))

  module _ (t : Table) where
    abbrev bit_at : ℕ → NodeId
    bit_at k = constant_id (get_or (bits_of 64 bits) k false)

    parts_are : substituted t (constant_parts first bits 64) v level ≡ with_bits first bits v level
    parts_are =
        elim (cases_lt level first) as (λ _.
        substituted t (constant_parts first bits 64) v level ≡ with_bits first bits v level) [
          | inl below ↦
              ap (λ o. option_map_or (λ part. means t part v) o (v level))
              (before bit_at first level 0 64 (omega (arith, below))) ∙ sym (low below)
          | inr above ↦
              elim (cases_lt level (first + 64)) as (λ _.
              substituted t (constant_parts first bits 64) v level ≡ with_bits first bits v level) [
                | inl within ↦
                    ap (λ o. option_map_or (λ part. means t part v) o (v level))
                    (found bit_at first level 0 64 (omega (arith, above)) (omega (arith, within)))
                    ∙ constant_means t (get_or (bits_of 64 bits) (level - first) false) v
                    ∙ sym (inside above within false)
                | inr behind ↦
                    let long = bits_length 64 bits in
                    ap (λ o. option_map_or (λ part. means t part v) o (v level))
                    (past bit_at first level 0 64 (omega (arith, behind)))
                    ∙ sym (get_or_past (bits_of 64 bits) (level - first) (v level) (omega (arith, behind, long)))
                    ∙ sym (high above)
              ]
        ]

-- values of levels that agree on a state agree with the same bits for the arguments
bits_agree : (first bits : ℕ) (v w : Assignment) → AreOneState first v w →
    AreOneState (first + room) (with_bits first bits v) (with_bits first bits w)
bits_agree first bits v w same k below =
    elim (cases_lt k first) as (λ _. with_bits first bits v k ≡ with_bits first bits w k) [
      | inl is_low ↦ low first bits v k is_low ∙ same k is_low ∙ sym (low first bits w k is_low)
      | inr is_high ↦
          let within : k < first + 64 = omega (arith, below, room_is) in
          inside first bits v k is_high within false ∙ sym (inside first bits w k is_high within false)
    ]

-- ---- the states
module _ (g h : GameData) (of : HasDesign g) (carried : Carried g h) (pairs : NodeId) (in_pairs : IsPairs g pairs)
    (bits : ℕ) (id : NodeId) where
  composed : IsFunction h.diagrams.table id
      (λ v. means h.diagrams.table pairs
      (substituted h.diagrams.table (constant_parts (length g.order) bits 64) v)) →
      IsFunction h.diagrams.table id (λ v. means g.diagrams.table pairs (with_bits (length g.order) bits v))
  composed function = record {
    known = function.known;
    meaning = λ v.
        function.meaning v
        ∙ ap (means h.diagrams.table pairs)
        (λ i level. parts_are (length g.order) bits v level h.diagrams.table i)
        ∙ ap (λ f. f (with_bits (length g.order) bits v))
        (means-Extends g.diagrams.table h.diagrams.table (grown g h carried).diagrams pairs in_pairs.known);
  }

  module _ (d : DesignTree) (is : IsExactOf d g) where
    reads : ReadsState (length g.order) (λ v. means g.diagrams.table pairs (with_bits (length g.order) bits v))
    reads v w same =
        in_pairs.reads (with_bits (length g.order) bits v) (with_bits (length g.order) bits w)
        (bits_agree (length g.order) bits v w same)

    within : (v : Assignment) → means g.diagrams.table pairs (with_bits (length g.order) bits v) ≡ true →
        valid_set g v ≡ true
    within v there =
        valid_reads d (coding g) (coding_told d g is) (valid_set g) (valid_told d g is) v
        (with_bits (length g.order) bits v) (λ k below. sym (low (length g.order) bits v k below))
        ∙ in_pairs.valid (with_bits (length g.order) bits v) there

  pub constant_states_are : IsFunction h.diagrams.table id
      (λ v. means h.diagrams.table pairs
      (substituted h.diagrams.table (constant_parts (length g.order) bits 64) v)) →
      Is (exact_game g).states (exact_ids h) id (constant_set g pairs bits)
  constant_states_are function =
      ∥∥₁_elim of (is_prop g h (constant_set g pairs bits) id)
      (λ x.
      is_told x.0 g h x.1 (grown g h carried)
      (λ v. means g.diagrams.table pairs (with_bits (length g.order) bits v)) (reads x.0 x.1) (within x.0 x.1)
      (constant_set g pairs bits) (λ s. refl) id (composed function))

  -- the states at which pairs hold with constant arguments, by a list that has the parts of these
  pub placed_states : (first n : ℕ) (given parts : List (ℕ × NodeId)) → given ≡ parts →
      parts ≡ constant_parts first bits n → n ≡ 64 → first ≡ length g.order →
      (Knows g.diagrams.table pairs → All (λ (p : ℕ × NodeId). Knows g.diagrams.table p.1) given →
      IsFunction h.diagrams.table id
      (λ v. means h.diagrams.table pairs (substituted h.diagrams.table given v))) →
      Is (exact_game g).states (exact_ids h) id (constant_set g pairs bits)
  placed_states first n given parts same are all begin answer =
      constant_states_are
      (subst (λ (l : List (ℕ × NodeId)). IsFunction h.diagrams.table id
      (λ v. means h.diagrams.table pairs (substituted h.diagrams.table l v))) these
      (answer in_pairs.known
      (subst (All (λ (p : ℕ × NodeId). Knows g.diagrams.table p.1)) (sym these)
      (parts_known g.diagrams.table (length g.order) bits 64))))
    where
      these : given ≡ constant_parts (length g.order) bits 64
      these = same ∙ are ∙ (λ i. constant_parts (begin i) bits (all i))
