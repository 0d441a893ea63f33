-- The values of the kept functions, position by position.
use Rattle.std.proofs.Common.{◌≡◌, ℕ, zero, suc, ◌+◌, ◌<◌, Bool, false, List, [], ◌∷◌, ◌++◌, length, fold, get_or, cond, refl, sym, ◌∙◌, arith}
use Rattle.std.proofs.lemmas.List.{get_or_append_left, get_or_at, length_push}
use Rattle.tm_dd.specs.declared.node.Node.{Node}
use Rattle.tm_dd.specs.NodeId.{position_of, is_marked}
use Rattle.tm_dd.specs.Table.{node_value, marked_value}

-- the values, where those of the first positions are given
abbrev pub values_from : (ℕ → Bool) → List Bool → List Node → List Bool
values_from v first ns = fold (λ values n. values ++ node_value v values n ∷ []) first ns

module _ (v : ℕ → Bool) where
  -- there is one for each node
  pub length-values_from : (ns : List Node) (first : List Bool) →
      length (values_from v first ns) ≡ length first + length ns
  length-values_from [] first = omega arith
  length-values_from (n ∷ ns) first =
      omega (
        arith,
        length-values_from ns (first ++ node_value v first n ∷ []),
        length_push first (node_value v first n),
      )

  -- the given ones stay
  pub values_from-given : (ns : List Node) (first : List Bool) (p : ℕ) → p < length first →
      get_or (values_from v first ns) p false ≡ get_or first p false
  values_from-given [] first p h = refl
  values_from-given (n ∷ ns) first p h =
      let x = node_value v first n in
      values_from-given ns (first ++ x ∷ []) p (omega (arith, length_push first x))
      ∙ get_or_append_left first (x ∷ []) false p h

  -- an id of a given position has the value that it had
  pub id_value-given : (ns : List Node) (first : List Bool) (n : Node) → position_of n.lo < length first →
      position_of n.hi < length first
      → node_value v (values_from v first ns) n ≡ node_value v first n
  id_value-given ns first n lo hi =
      let l = values_from-given ns first (position_of n.lo) lo in
      let h = values_from-given ns first (position_of n.hi) hi in
      (λ i. cond (v n.level) (marked_value (is_marked n.hi) (h i)) (marked_value (is_marked n.lo) (l i)))

  -- a node whose children stand before it has the value that they give it
  pub values_from-node : (ns : List Node) (first : List Bool) (j p : ℕ) (d : Node) → p ≡ length first + j →
      j < length ns
      → position_of (get_or ns j d).lo < p → position_of (get_or ns j d).hi < p
      → get_or (values_from v first ns) p false ≡ node_value v (values_from v first ns) (get_or ns j d)
  values_from-node [] first j p d at within lo hi = absurd (omega arith)
  values_from-node (n ∷ ns) first zero p d at within lo hi =
      let x = node_value v first n in
      let here : length first ≡ p = omega (arith, at) in
      values_from-given ns (first ++ x ∷ []) p (omega (arith, length_push first x))
      ∙ get_or_at first x [] false p here
      ∙ sym (id_value-given (n ∷ ns) first n (omega (arith, here, lo)) (omega (arith, here, hi)))
  values_from-node (n ∷ ns) first (suc j) p d at within lo hi =
      let x = node_value v first n in
      values_from-node ns (first ++ x ∷ []) j p d (omega (arith, at, length_push first x)) (omega (arith, within)) lo hi
