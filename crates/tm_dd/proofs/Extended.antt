-- A table with one more node.
use Rattle.std.proofs.Common.{◌≡◌, ℕ, ◌+◌, ◌≤◌, inl, inr, Bool, false, List, [], ◌∷◌, ◌++◌, get_or, refl, sym, ap, subst, ◌∙◌, arith}
use Rattle.std.proofs.lemmas.Bool.{cases_lt}
use Rattle.std.proofs.lemmas.List.{get_or_append_left, get_or_push, length_push}
use Rattle.std.proofs.lemmas.List.Sums.{fold-append}
use Rattle.tm_dd.specs.declared.node.Node.{Node}
use Rattle.tm_dd.specs.declared.node.NodeId.{NodeId}
use Rattle.tm_dd.specs.NodeId.{position_of, is_marked}
use Rattle.tm_dd.specs.Reduced.{Extends}
use Rattle.tm_dd.specs.Table.{Table, kept, Knows, constant_entry, depth_of, entries, entry_at, level_of, marked_value, node_value, rank_of, values_of}
use Rattle.tm_dd.specs.Unique.{AreRanks, IsEntry, IsUniqueTable, with_node}
use Rattle.tm_dd.proofs.Meaning.{value_at, means-value_at, level_of-entry}
use Rattle.tm_dd.proofs.Nodes.{marked_node, node_of-entry}
use Rattle.tm_dd.proofs.Ranks.{rank_of-same}
use Rattle.tm_dd.proofs.Values.{values_from, length-values_from, values_from-given}

-- ---- stores that extend others

pub Extends-refl : (s : Table) → Extends s s
Extends-refl s = record {
  same_levels = refl;
  same_ranks = refl;
  rises = omega arith;
  same_level = λ id known. refl;
  same_node = λ id known. refl;
  same_meaning = λ id known v. refl;
}

pub Extends-trans : (s t u : Table) → Extends s t → Extends t u → Extends s u
Extends-trans s t u first second = record {
  same_levels = second.same_levels ∙ first.same_levels;
  same_ranks = second.same_ranks ∙ first.same_ranks;
  rises = omega arith;
  same_level = λ id known. second.same_level id (omega (arith, known)) ∙ first.same_level id known;
  same_node = λ id known. second.same_node id (omega (arith, known)) ∙ first.same_node id known;
  same_meaning = λ id known v. second.same_meaning id (omega (arith, known)) v ∙ first.same_meaning id known v;
}

-- ---- one more node

module _ (s : Table) (n : Node) where
  pub entry_at-with_node : (p : ℕ) → p ≤ kept s → entry_at (with_node s n) p ≡ entry_at s p
  unfolding entry_at
  entry_at-with_node p within =
      get_or_append_left (entries s) (n ∷ []) (constant_entry s.levels) p (omega (arith, within))

  pub entry_at-new : entry_at (with_node s n) (kept s + 1) ≡ n
  unfolding entry_at
  entry_at-new = get_or_push (entries s) n (constant_entry s.levels) (kept s + 1) (omega arith)

  pub kept-with_node : kept (with_node s n) ≡ kept s + 1
  kept-with_node = length_push s.nodes n

  value_at-with_node : (p : ℕ) (v : ℕ → Bool) → p ≤ kept s → value_at (with_node s n) p v ≡ value_at s p v
  unfolding value_at values_of
  value_at-with_node p v within =
      let step = λ (values : List Bool) (m : Node). values ++ node_value v values m ∷ [] in
      let long = length-values_from v s.nodes (false ∷ []) in
      ap (λ l. get_or l p false) (fold-append step (false ∷ []) s.nodes (n ∷ []))
      ∙ values_from-given v (n ∷ []) (values_from v (false ∷ []) s.nodes) p (omega (arith, long, within))

  level_of-with_node : (id : NodeId) → Knows s id → level_of (with_node s n) id ≡ level_of s id
  level_of-with_node id known =
      level_of-entry (with_node s n) id
      ∙ ap (λ (e : Node). e.level) (entry_at-with_node (position_of id) (omega (arith, known)))
      ∙ sym (level_of-entry s id)

  pub Extends-with_node : Extends s (with_node s n)
  Extends-with_node = record {
    same_levels = refl;
    same_ranks = refl;
    rises = omega (arith, kept-with_node);
    same_level = level_of-with_node;
    same_node = λ id known.
        node_of-entry (with_node s n) id
        ∙ ap (marked_node (is_marked id)) (entry_at-with_node (position_of id) (omega (arith, known)))
        ∙ sym (node_of-entry s id);
    same_meaning = λ id known v.
        means-value_at (with_node s n) id v
        ∙ ap (marked_value (is_marked id)) (value_at-with_node (position_of id) v (omega (arith, known)))
        ∙ sym (means-value_at s id v);
  }

  rank_of-with_node : (k : ℕ) → rank_of (with_node s n) k ≡ rank_of s k
  rank_of-with_node k = rank_of-same s (with_node s n) refl refl k

  depth_of-with_node : (id : NodeId) → Knows s id → depth_of (with_node s n) id ≡ depth_of s id
  depth_of-with_node id known =
      rank_of-with_node (level_of (with_node s n) id) ∙ ap (rank_of s) (level_of-with_node id known)

  -- an entry of s is one of the longer table
  entry_stays : (p : ℕ) (e : Node) → p ≤ kept s + 1 → IsEntry s p e → IsEntry (with_node s n) p e
  entry_stays p e within ok = record {
    below = ok.below;
    lo_before = ok.lo_before;
    hi_before = ok.hi_before;
    lo_rises = omega (
      arith,
      rank_of-with_node e.level,
      depth_of-with_node e.lo (omega (arith, ok.lo_before, within)),
      ok.lo_rises,
    );
    hi_rises = omega (
      arith,
      rank_of-with_node e.level,
      depth_of-with_node e.hi (omega (arith, ok.hi_before, within)),
      ok.hi_rises,
    );
    differ = ok.differ;
    plain = ok.plain;
  }

  -- the longer table is unique, where the node is new
  pub IsUniqueTable-with_node : IsUniqueTable s → IsEntry s (kept s + 1) n →
      ((p : ℕ) → p ≤ kept s → ¬ (entry_at s p ≡ n)) → IsUniqueTable (with_node s n)
  IsUniqueTable-with_node unique ok absent = record {
    ranks = unique.ranks;
    nodes = λ p some within.
        elim (cases_lt (kept s) p) [
          | inl new ↦
              let last : p ≡ kept s + 1 = omega (arith, kept-with_node, within, new) in
              let here : entry_at (with_node s n) p ≡ n = ap (entry_at (with_node s n)) last ∙ entry_at-new in
              subst (IsEntry (with_node s n) p) (sym here)
              (entry_stays p n (omega (arith, last)) (subst (λ q. IsEntry s q n) (sym last) ok))
          | inr old ↦
              subst (IsEntry (with_node s n) p) (sym (entry_at-with_node p old))
              (entry_stays p (entry_at s p) (omega (arith, old)) (unique.nodes p some old))
        ];
    once = λ p q wp wq same.
        elim (cases_lt (kept s) p) [
          | inl new_p ↦ elim (cases_lt (kept s) q) [
            | inl new_q ↦ omega (arith, kept-with_node, wp, wq, new_p, new_q)
            | inr old_q ↦
                let last : p ≡ kept s + 1 = omega (arith, kept-with_node, wp, new_p) in
                absurd (absent q old_q (sym (entry_at-with_node q old_q) ∙ sym same ∙ ap (entry_at (with_node s n)) last
                ∙ entry_at-new))
          ]
          | inr old_p ↦ elim (cases_lt (kept s) q) [
            | inl new_q ↦
                let last : q ≡ kept s + 1 = omega (arith, kept-with_node, wq, new_q) in
                absurd (absent p old_p (sym (entry_at-with_node p old_p) ∙ same ∙ ap (entry_at (with_node s n)) last
                ∙ entry_at-new))
            | inr old_q ↦ unique.once p q old_p old_q
                (sym (entry_at-with_node p old_p) ∙ same ∙ entry_at-with_node q old_q)
          ]
        ];
  }

-- a table without nodes is unique
pub IsUniqueTable-empty : (s : Table) → AreRanks s.levels s.ranks → kept s ≡ 0 → IsUniqueTable s
IsUniqueTable-empty s ranks none = record {
  ranks = ranks;
  nodes = λ p some within. absurd (omega (arith, none, some, within));
  once = λ p q wp wq same. omega (arith, none, wp, wq);
}
