-- What a store is after a node was kept, and what the node's id means.
use Rattle.std.proofs.Common.{◌≡◌, ℕ, ◌+◌, ◌*◌, ◌%◌, ◌<◌, ◌≤◌, ◌⊎◌, inl, inr, Bool, true, false, not, if◌then◌else◌, eqb, refl, sym, ap, subst, ◌∙◌, arith}
use Rattle.std.proofs.lemmas.Bool.{cases_lt, le-leb, lt-leb, ne_eqb}
use Rattle.tm_dd.specs.declared.node.Node.{Node}
use Rattle.tm_dd.specs.declared.node.NodeId.{NodeId}
use Rattle.tm_dd.specs.NodeId.{position_of, is_marked, complement}
use Rattle.tm_dd.specs.Reduced.{Extends, IsDeeper, MeansNode}
use Rattle.tm_dd.specs.Table.{Table, kept, Knows, depth_of, entry_at, level_of, node_of, means, rank_of}
use Rattle.tm_dd.specs.Unique.{IsEntry, IsUniqueTable, IsKept, with_node}
use Rattle.tm_dd.proofs.Canonical.{ids_canonical}
use Rattle.tm_dd.proofs.Extended.{Extends-refl, Extends-with_node, IsUniqueTable-with_node, entry_at-new, kept-with_node}
use Rattle.tm_dd.proofs.Meaning.{level_of-entry, cases_position}
use Rattle.tm_dd.proofs.NodeIdLemmas.{same_id, position_of-complement, is_marked-complement}
use Rattle.tm_dd.proofs.Ranks.{deeper_depth}
use Rattle.tm_dd.proofs.Nodes.{marked_id, marked_node, marked_id-marked_id, position_of-marked_id, depth_of-marked_id, level_of-marked_id, node_of-entry, means-marked_node}

-- the entry of the constant has the greatest level
entry_at-constant : (s : Table) → (entry_at s 0).level ≡ s.levels
unfolding entry_at
entry_at-constant s = refl

-- whether the node had a position
pub cases_kept : (old new : Table) (n : Node) (p : ℕ) → IsKept old new n p →
    ((p ≤ kept old) × (new ≡ old)) ⊎ ((p ≡ kept old + 1) × (new ≡ with_node old n))
cases_kept old new n p k =
    elim (cases_lt (kept old) p) [
      | inl after ↦
          let e : new ≡ with_node old n =
          k.table ∙ ap (λ b. if b then old else with_node old n) (lt-leb p (kept old) after) in
          let size = ap kept e in
          inr (omega (arith, k.within, size, kept-with_node old n, after), e)
      | inr before ↦ inl (before, k.table ∙ ap (λ b. if b then old else with_node old n) (le-leb p (kept old) before))
    ]

-- a node that is added to a table is kept there
pub IsKept-added : (s : Table) (n : Node) → IsKept s (with_node s n) n (kept s + 1)
IsKept-added s n = record {
  entry = entry_at-new s n;
  within = omega (arith, kept-with_node s n);
  table = ap (λ b. if b then s else with_node s n) (sym (lt-leb (kept s + 1) (kept s) (omega arith)));
}

is_marked-marked_id : (m : Bool) (id : NodeId) → is_marked id ≡ false → is_marked (marked_id m id) ≡ m
is_marked-marked_id true id plain = is_marked-complement id ∙ ap not plain
is_marked-marked_id false id plain = plain

marked_node-marked_node : (m : Bool) (n : Node) → marked_node m (marked_node m n) ≡ n
marked_node-marked_node m n =
    let lo = marked_id-marked_id m n.lo in
    let hi = marked_id-marked_id m n.hi in
    (λ i. record { level = n.level; lo = lo i; hi = hi i })

-- of a node and its complement the one with an unmarked `lo` is kept
pub IsEntry-marked : (s : Table) → IsUniqueTable s → (level : ℕ) (lo hi : NodeId) → level < s.levels → Knows s lo →
    Knows s hi → IsDeeper s level lo → IsDeeper s level hi
    → ¬ (lo ≡ hi) → IsEntry s (kept s + 1) (marked_node (is_marked lo) (record { level = level; lo = lo; hi = hi }))
IsEntry-marked s unique level lo hi below known_lo known_hi deeper_lo deeper_hi differ =
    let deep_lo = deeper_depth s unique.ranks level below lo deeper_lo in
    let deep_hi = deeper_depth s unique.ranks level below hi deeper_hi in
    let at_lo = position_of-marked_id (is_marked lo) lo in
    let at_hi = position_of-marked_id (is_marked lo) hi in
    record {
      below = below;
      lo_before = omega (arith, at_lo, known_lo);
      hi_before = omega (arith, at_hi, known_hi);
      lo_rises = omega (arith, depth_of-marked_id s (is_marked lo) lo, deep_lo);
      hi_rises = omega (arith, depth_of-marked_id s (is_marked lo) hi, deep_hi);
      differ = λ same. differ (sym (marked_id-marked_id (is_marked lo) lo) ∙ ap (marked_id (is_marked lo)) same
          ∙ marked_id-marked_id (is_marked lo) hi);
      plain = elim (is_marked lo) as (λ m. is_marked lo ≡ m → is_marked (marked_id m lo) ≡ false) [
        | true ↦ λ e. is_marked-complement lo ∙ ap not e
        | false ↦ λ e. e
      ] refl;
    }

-- what is known after a node n was kept, where r is the id that is answered
pub record IsMade (old new : Table) (n : Node) (r : NodeId) : Type 0 where
  pub extends : Extends old new
  pub adds : kept new ≤ kept old + 1
  pub known : Knows new r
  pub node : node_of new r ≡ n
  pub deep : rank_of new n.level ≤ depth_of new r
  pub meaning : (v : ℕ → Bool) → means new r v ≡ (if v n.level then means old n.hi v else means old n.lo v)
  pub found : (f : NodeId) → Knows old f → MeansNode old f n → r ≡ f
  pub unchanged : (f : NodeId) → Knows old f → MeansNode old f n → new ≡ old
  pub added : (f : NodeId) → Knows new f → Knows old f ⊎ ((f ≡ r) ⊎ (f ≡ complement r))

-- n is the node that was asked for, m the mark of its `lo`, and id that of the position at which the marked node is
-- kept
module _ (old new : Table) (unique : IsUniqueTable new) (n : Node) (m : Bool) (id : NodeId)
    (plain : is_marked id ≡ false) (below : n.level < old.levels)
    (known_lo : Knows old n.lo) (known_hi : Knows old n.hi)
    (is_kept : IsKept old new (marked_node m n) (position_of id)) where
  made_extends : Extends old new
  made_extends =
      elim (cases_kept old new (marked_node m n) (position_of id) is_kept) [
        | inl before ↦ subst (Extends old) (sym before.1) (Extends-refl old)
        | inr after ↦ subst (Extends old) (sym after.1) (Extends-with_node old (marked_node m n))
      ]

  made_adds : kept new ≤ kept old + 1
  made_adds =
      elim (cases_kept old new (marked_node m n) (position_of id) is_kept) [
        | inl before ↦ omega (arith, ap kept before.1)
        | inr after ↦ omega (arith, ap kept after.1, kept-with_node old (marked_node m n))
      ]

  made_known : Knows new (marked_id m id)
  made_known = omega (arith, position_of-marked_id m id, is_kept.within)

  made_inner : 0 < position_of id
  made_inner =
      elim (cases_position (position_of id)) [
        | inl e ↦
            let top : (entry_at new (position_of id)).level ≡ new.levels =
            ap (λ p. (entry_at new p).level) e ∙ entry_at-constant new in
            let here = ap (λ (k : Node). k.level) is_kept.entry in
            absurd (omega (arith, top, here, made_extends.same_levels, below))
        | inr some ↦ some
      ]

  made_node : node_of new (marked_id m id) ≡ n
  made_node =
      node_of-entry new (marked_id m id)
      ∙ ap (λ k. marked_node k (entry_at new (position_of (marked_id m id)))) (is_marked-marked_id m id plain)
      ∙ ap (λ p. marked_node m (entry_at new p)) (position_of-marked_id m id)
      ∙ ap (marked_node m) is_kept.entry
      ∙ marked_node-marked_node m n

  made_level : level_of new (marked_id m id) ≡ n.level
  made_level = level_of-marked_id new m id ∙ level_of-entry new id ∙ ap (λ (k : Node). k.level) is_kept.entry

  made_meaning : (v : ℕ → Bool) →
      means new (marked_id m id) v ≡ (if v n.level then means old n.hi v else means old n.lo v)
  made_meaning v =
      let r = marked_id m id in
      let inner : 0 < position_of r = omega (arith, position_of-marked_id m id, made_inner) in
      let e : marked_node (is_marked r) (entry_at new (position_of r)) ≡ n = sym (node_of-entry new r) ∙ made_node in
      let hi = made_extends.same_meaning n.hi known_hi v in
      let lo = made_extends.same_meaning n.lo known_lo v in
      means-marked_node new unique r made_known inner v
      ∙ ap (λ (k : Node). if v k.level then means new k.hi v else means new k.lo v) e
      ∙ (λ i. if v n.level then hi i else lo i)

  -- an id that was known and means the same is the answer, and nothing was added
  made_found : (f : NodeId) → Knows old f → MeansNode old f n → (marked_id m id ≡ f) × (new ≡ old)
  made_found f known same =
      let r = marked_id m id in
      let e : r ≡ f = ids_canonical new unique r f made_known (omega (arith, known, made_extends.rises))
      (λ v. made_meaning v ∙ sym (same v) ∙ sym (made_extends.same_meaning f known v)) in
      let at : position_of r ≡ position_of f = ap position_of e in
      elim (cases_kept old new (marked_node m n) (position_of id) is_kept) [
        | inl before ↦ (e, before.1)
        | inr after ↦ absurd (omega (arith, at, position_of-marked_id m id, after.0, known))
      ]

  -- what is known is known before, or it is the answer or its complement
  made_added : (f : NodeId) → Knows new f → Knows old f ⊎ ((f ≡ marked_id m id) ⊎ (f ≡ complement (marked_id m id)))
  made_added f known =
      elim (cases_kept old new (marked_node m n) (position_of id) is_kept) [
        | inl before ↦ inl (omega (arith, ap kept before.1, known))
        | inr after ↦
            elim (cases_lt (kept old) (position_of f)) [
              | inl late ↦
                  let size = ap kept after.1 in
                  let at : position_of f ≡ position_of (marked_id m id) =
                  omega (
                    arith,
                    size,
                    kept-with_node old (marked_node m n),
                    after.0,
                    position_of-marked_id m id,
                    known,
                    late,
                  ) in
                  inr (same_position f (marked_id m id) at)
              | inr early ↦ inl (omega (arith, early))
            ]
      ]
    where
      opposite : (a b : Bool) → (a ≡ b) ⊎ (a ≡ not b)
      opposite true true = inl refl
      opposite true false = inr refl
      opposite false true = inr refl
      opposite false false = inl refl

      same_position : (f g : NodeId) → position_of f ≡ position_of g → (f ≡ g) ⊎ (f ≡ complement g)
      same_position f g at =
          elim (opposite (is_marked f) (is_marked g)) [
            | inl e ↦ inl (same_id f g at e)
            | inr e ↦ inr (same_id f (complement g) (at ∙ sym (position_of-complement g))
                (e ∙ sym (is_marked-complement g)))
          ]

  pub made : IsMade old new n (marked_id m id)
  made = record {
    extends = made_extends;
    adds = made_adds;
    known = made_known;
    node = made_node;
    deep = omega (arith, ap (rank_of new) made_level);
    meaning = made_meaning;
    found = λ f known same. (made_found f known same).0;
    unchanged = λ f known same. (made_found f known same).1;
    added = made_added;
  }

even : (p : ℕ) → eqb (2 * p % 2) 1 ≡ false
even p = ne_eqb _ _ (omega arith)

-- where a node is not kept, no known id means what it means
pub not_found : (s : Table) → IsUniqueTable s → (n : Node) (m : Bool) → n.level < s.levels → Knows s n.lo → Knows s n.hi
    → IsEntry s (kept s + 1) (marked_node m n) → ((p : ℕ) → p ≤ kept s → ¬ (entry_at s p ≡ marked_node m n))
    → (f : NodeId) → Knows s f → ¬ MeansNode s f n
not_found s unique n m below known_lo known_hi ok absent f known same =
    let k = marked_node m n in
    let id : NodeId = record { 0 = 2 * (kept s + 1) } in
    let at : kept s + 1 ≡ position_of id = omega arith in
    let here : IsKept s (with_node s k) k (position_of id) = subst (IsKept s (with_node s k) k) at (IsKept-added s k) in
    let found = made s (with_node s k) (IsUniqueTable-with_node s k unique ok absent) n m id (even (kept s + 1)) below
    known_lo known_hi here in
    let size = ap kept (found.unchanged f known same) in
    absurd (omega (arith, size, kept-with_node s k))
