-- The set of entries after a node was inserted.
use Rattle.std.proofs.Common.{◌≡◌, ℕ, zero, suc, ◌+◌, ◌<◌, ◌≤◌, Bool, true, false, ◌&&◌, List, [], ◌∷◌, ◌++◌, Some, length, drop, get_or, slice_get, if◌then◌else◌, eqb, refl, sym, ap, ◌∙◌, true≢false, inl, inr, arith}
use Rattle.std.proofs.lemmas.Bool.{and_parts, and_from, eqb-true, eq-eqb, or_parts, le-leb, lt-leb, cases_lt}
use Rattle.std.proofs.lemmas.Option.{get_or_from_slice_get, slice_get_within}
use Rattle.std.specs.List.{list_any}
use Rattle.tm_dd.specs.declared.node.Node.{Node}
use Rattle.tm_dd.specs.Table.{Table, kept, constant_entry, entries, entry_at}
use Rattle.tm_dd.specs.Unique.{IsEntry, IsUniqueTable, IsKept, with_node}
use Rattle.tm_dd.proofs.Extended.{IsUniqueTable-with_node, entry_at-with_node}
use Rattle.tm_dd.proofs.NodeIdLemmas.{same_number}

-- `==` of nodes
abbrev pub node_eq : Node → Node → Bool
node_eq a b = eqb a.level b.level && (eqb a.lo.0 b.lo.0 && eqb a.hi.0 b.hi.0)

pub node_eq-true : (a b : Node) → node_eq a b ≡ true → a ≡ b
node_eq-true a b e =
    let parts = and_parts (eqb a.level b.level) (eqb a.lo.0 b.lo.0 && eqb a.hi.0 b.hi.0) e in
    let ids = and_parts (eqb a.lo.0 b.lo.0) (eqb a.hi.0 b.hi.0) parts.1 in
    let level = eqb-true _ _ parts.0 in
    let lo = same_number a.lo b.lo (eqb-true _ _ ids.0) in
    let hi = same_number a.hi b.hi (eqb-true _ _ ids.1) in
    (λ i. record { level = level i; lo = lo i; hi = hi i })

node_eq-refl : (a : Node) → node_eq a a ≡ true
node_eq-refl a = and_from _ _ (eq-eqb a.level a.level refl)
    (and_from _ _ (eq-eqb a.lo.0 a.lo.0 refl) (eq-eqb a.hi.0 a.hi.0 refl))

-- a node that no element equals is at no place
not_among : (n d : Node) (xs : List Node) (k : ℕ) → list_any (node_eq n) xs ≡ false → k < length xs →
    ¬ (get_or xs k d ≡ n)
not_among n d [] k none within here = absurd (omega arith)
not_among n d (x ∷ xs) zero none within here =
    true≢false (sym (node_eq-refl n) ∙ ap (node_eq n) (sym here)
    ∙ (or_parts (node_eq n x) (list_any (node_eq n) xs) none).0)
not_among n d (x ∷ xs) (suc k) none within here =
    not_among n d xs k (or_parts (node_eq n x) (list_any (node_eq n) xs) none).1 (omega (arith, within)) here

module _ (s : Table) (n : Node) where
  pub absent : list_any (node_eq n) (entries s) ≡ false → (p : ℕ) → p ≤ kept s → ¬ (entry_at s p ≡ n)
  unfolding entry_at
  absent none p within here = not_among n (constant_entry s.levels) (entries s) p none (omega (arith, within)) here

  -- the table, as the set of entries has it after the insert
  abbrev pub inserted : Table
  inserted = if list_any (node_eq n) (entries s) then s else with_node s n

  pub IsUniqueTable-inserted : IsUniqueTable s → IsEntry s (kept s + 1) n → IsUniqueTable inserted
  IsUniqueTable-inserted unique ok =
      elim (list_any (node_eq n) (entries s))
      as (λ b. list_any (node_eq n) (entries s) ≡ b → IsUniqueTable (if b then s else with_node s n)) [
        | true ↦ λ _. unique
        | false ↦ λ none. IsUniqueTable-with_node s n unique ok (absent none)
      ] refl

  pub entries-inserted : entries inserted
      ≡ (if list_any (node_eq n) (entries s) then entries s else entries s ++ n ∷ [])
  entries-inserted =
      elim (list_any (node_eq n) (entries s))
      as (λ b. entries (if b then s else with_node s n) ≡ (if b then entries s else entries s ++ n ∷ [])) [
        | true ↦ refl
        | false ↦ refl
      ]

  pub IsKept-inserted : (p : ℕ) (k : Node) → slice_get (entries inserted) p ≡ Some k → node_eq n k ≡ true →
      IsKept s inserted n p
  unfolding entry_at
  IsKept-inserted p k at same =
      elim (list_any (node_eq n) (entries s))
      as (λ b. list_any (node_eq n) (entries s) ≡ b →
      slice_get (entries (if b then s else with_node s n)) p ≡ Some k
      → IsKept s (if b then s else with_node s n) n p) [
        | true ↦ λ _ at. was at
        | false ↦ λ none at. new none at
      ] refl at
    where
      found : (t : Table) → slice_get (entries t) p ≡ Some k → entry_at t p ≡ n
      found t at = get_or_from_slice_get (entries t) p k (constant_entry t.levels) at ∙ sym (node_eq-true n k same)

      was : slice_get (entries s) p ≡ Some k → IsKept s s n p
      was at =
          let within : p ≤ kept s = omega (arith, slice_get_within (entries s) p k at) in
          record {
            entry = found s at;
            within = within;
            table = ap (λ b. if b then s else with_node s n) (sym (le-leb p (kept s) within));
          }

      new : list_any (node_eq n) (entries s) ≡ false → slice_get (entries (with_node s n)) p ≡ Some k →
          IsKept s (with_node s n) n p
      new none at =
          let within : p ≤ kept (with_node s n) = omega (arith, slice_get_within (entries (with_node s n)) p k at) in
          let here = found (with_node s n) at in
          elim (cases_lt (kept s) p) [
            | inl after ↦ record {
              entry = here;
              within = within;
              table = ap (λ b. if b then s else with_node s n) (sym (lt-leb p (kept s) after));
            }
            | inr before ↦ absurd (absent none p before (sym (entry_at-with_node s n p before) ∙ here))
          ]

-- the table that is read off the entries after the insert
pub table-inserted : (s : Table) (n : Node) (levels : ℕ) (ranks : List ℕ) (after : List Node) → levels ≡ s.levels →
    ranks ≡ s.ranks → after ≡ entries (inserted s n)
    → (let read : Table = record { levels = levels; ranks = ranks; nodes = drop 1 after } in read) ≡ inserted s n
table-inserted s n levels ranks after same same_ranks held =
    let l : levels ≡ (inserted s n).levels = same ∙ levels_stay in
    let r : ranks ≡ (inserted s n).ranks = same_ranks ∙ ranks_stay in
    (λ i. record { levels = l i; ranks = r i; nodes = drop 1 (held i) })
  where
    ranks_stay : s.ranks ≡ (inserted s n).ranks
    ranks_stay = elim (list_any (node_eq n) (entries s))
        as (λ b. s.ranks ≡ (if b then s else with_node s n).ranks) [ true ↦ refl | false ↦ refl ]

    levels_stay : s.levels ≡ (inserted s n).levels
    levels_stay = elim (list_any (node_eq n) (entries s))
        as (λ b. s.levels ≡ (if b then s else with_node s n).levels) [ true ↦ refl | false ↦ refl ]
