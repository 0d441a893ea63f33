-- Counts over all nodes below a node, along an order.
use Rattle.std.proofs.Common.{◌≡◌, ℕ, zero, suc, ◌+◌, ◌<◌, Option, Some, None, List, [], ◌∷◌, ◌++◌, length, take, get_or, set, map, slice_get, inl, inr, refl, sym, ap, ◌∙◌, arith}
use Rattle.std.specs.Prelude.{◌⊎◌, Contains, unwrap_or}
use Rattle.std.specs.List.{flat_map}
use Rattle.std.proofs.lemmas.List.{take_more, get_or-set_same, get_or-set_other}
use Rattle.std.proofs.lemmas.Option.{same_Some}
use Rattle.tm_scope.specs.Graph.{HasEdge}
use Rattle.tm_scope.proofs.Entries.{same_or_not}
use Rattle.tm_limits.specs.declared.totals.Combination.{Combination}
use Rattle.tm_limits.specs.declared.totals.Combination.TheVariants.{Sum, Greatest}
use Rattle.tm_limits.specs.Amount.{capped}
use Rattle.tm_limits.specs.Orders.{targets, IsOrder}
use Rattle.tm_limits.specs.Totals.{combined, over, nodes_below}

-- ---- lists

contains_later : {X : Type 0} (x : X) (xs : List X) (y : X) → Contains xs y → Contains (x ∷ xs) y
contains_later x xs y h = let below : h.0 < length xs = h.1 in (suc h.0, (omega arith), h.2)

contains_first : {X : Type 0} (x : X) (xs : List X) → Contains (x ∷ xs) x
contains_first x xs = (0, (omega arith), refl)

flat_map-agree : {X : Type 0} (f g : ℕ → List X) (xs : List ℕ) →
    ((x : ℕ) → Contains xs x → f x ≡ g x) → flat_map f xs ≡ flat_map g xs
flat_map-agree f g [] same = refl
flat_map-agree f g (x ∷ xs) same = λ i.
    same x (contains_first x xs) i ++ flat_map-agree f g xs (λ y h. same y (contains_later x xs y h)) i

map-agree : (f g : ℕ → ℕ) (xs : List ℕ) → ((x : ℕ) → Contains xs x → f x ≡ g x) → map f xs ≡ map g xs
map-agree f g [] same = refl
map-agree f g (x ∷ xs) same = λ i.
    same x (contains_first x xs) i ∷ map-agree f g xs (λ y h. same y (contains_later x xs y h)) i

map-append : (f : ℕ → ℕ) (xs ys : List ℕ) → map f (xs ++ ys) ≡ map f xs ++ map f ys
map-append f [] ys = refl
map-append f (x ∷ xs) ys = ap (λ zs. f x ∷ zs) (map-append f xs ys)

-- an edge leads to each target
pub target_edge : (graph : List (List ℕ)) (a b : ℕ) → Contains (targets graph a) b → HasEdge graph a b
target_edge graph a b = by (slice_get graph a) refl
  where
    by : (o : Option (List ℕ)) → slice_get graph a ≡ o →
        Contains (unwrap_or o []) b → HasEdge graph a b
    by None is h = absurd (let below : h.0 < 0 = h.1 in omega arith)
    by (Some edges) is h = record { edges = edges; of_node = is; leads = h }

-- ---- counts put together

module _ (c : Combination) where
  pub combined-none : (n : ℕ) → combined c 0 n ≡ n
  combined-none n = by c
    where
      by : (c : Combination) → combined c 0 n ≡ n
      by Sum = omega arith
      by Greatest = omega arith

  pub combined-some : (n : ℕ) → combined c n 0 ≡ n
  combined-some n = by c
    where
      by : (c : Combination) → combined c n 0 ≡ n
      by Sum = omega arith
      by Greatest = omega arith

  combined-assoc : (l m n : ℕ) → combined c l (combined c m n) ≡ combined c (combined c l m) n
  combined-assoc l m n = by c
    where
      by : (c : Combination) → combined c l (combined c m n) ≡ combined c (combined c l m) n
      by Sum = omega arith
      by Greatest = omega arith

  pub over-append : (xs ys : List ℕ) → over c (xs ++ ys) ≡ combined c (over c xs) (over c ys)
  over-append [] ys = sym (combined-none (over c ys))
  over-append (x ∷ xs) ys = ap (combined c x) (over-append xs ys) ∙ combined-assoc x (over c xs) (over c ys)

  pub over-below : (count : ℕ → ℕ) (below : ℕ → List ℕ) (ts : List ℕ) →
      over c (map count (flat_map below ts)) ≡ over c (map (λ t. over c (map count (below t))) ts)
  over-below count below [] = refl
  over-below count below (t ∷ ts) =
      ap (over c) (map-append count (below t) (flat_map below ts))
      ∙ over-append (map count (below t)) (map count (flat_map below ts))
      ∙ ap (combined c (over c (map count (below t)))) (over-below count below ts)

  -- one more count
  pub total_more : (count : ℕ → ℕ) (m : ℕ) (ts : List ℕ) (i x : ℕ) → i < length ts → x ≡ get_or ts i 0 →
      combined c m (over c (map count (take (i + 1) ts)))
      ≡ combined c (combined c m (over c (map count (take i ts)))) (count x)
  total_more count m ts i x within is =
      ap (λ xs. combined c m (over c (map count xs))) (take_more ts i 0 within)
      ∙ ap (λ y. combined c m (over c (map count (take i ts ++ y ∷ [])))) (sym is)
      ∙ ap (λ xs. combined c m (over c xs)) (map-append count (take i ts) (x ∷ []))
      ∙ ap (combined c m) (over-append (map count (take i ts)) (count x ∷ []))
      ∙ ap (λ n. combined c m (combined c (over c (map count (take i ts))) n)) (combined-some (count x))
      ∙ combined-assoc m (over c (map count (take i ts))) (count x)

  pub total_none : (m : ℕ) → combined c m 0 ≡ m
  total_none m = combined-some m

  -- ---- along an order

  module _ (graph : List (List ℕ)) (order : List ℕ) (is : IsOrder graph order) where
    -- what lies below a node is the same at each depth beyond its position
    pub settled : (n k d e a : ℕ) → k < n → k < d → k < e → slice_get order k ≡ Some a →
        nodes_below d graph a ≡ nodes_below e graph a
    settled zero k d e a below deep deeper at = absurd (omega arith)
    settled (suc n) k zero e a below deep deeper at = absurd (omega arith)
    settled (suc n) k (suc d) zero a below deep deeper at = absurd (omega arith)
    settled (suc n) k (suc d) (suc e) a below deep deeper at =
        ap (λ ns. a ∷ ns) (flat_map-agree (nodes_below d graph) (nodes_below e graph) (targets graph a)
        (λ b among. earlier b (is.behind k a b at (target_edge graph a b among)) (λ j. settled n j d e b)))
      where
        earlier : (b : ℕ) → (j : ℕ) × (j < k) × (slice_get order j ≡ Some b) →
            ((j : ℕ) → j < n → j < d → j < e → slice_get order j ≡ Some b →
            nodes_below d graph b ≡ nodes_below e graph b) →
            nodes_below d graph b ≡ nodes_below e graph b
        earlier b found same =
            let before = found.1 in same found.0 (omega arith) (omega arith) (omega arith) found.2

    module _ (count : ℕ → ℕ) where
      -- the count of a node with all below it
      abbrev pub whole : ℕ → ℕ
      whole n = over c (map count (nodes_below (length order) graph n))

      -- a node's count is its own with those of the nodes to which it leads
      pub whole_of : (i a : ℕ) → slice_get order i ≡ Some a → i < length order →
          whole a ≡ combined c (count a) (over c (map whole (targets graph a)))
      whole_of i a at within = by (length order) refl
        where
          by : (d : ℕ) → length order ≡ d →
              over c (map count (nodes_below d graph a)) ≡ combined c (count a) (over c (map whole (targets graph a)))
          by zero e = absurd (omega (arith, e))
          by (suc d) e =
              ap (combined c (count a)) (over-below count (nodes_below d graph) (targets graph a)
              ∙ ap (over c) (map-agree (λ t. over c (map count (nodes_below d graph t))) whole (targets graph a)
              (λ b among. ap (λ ns. over c (map count ns))
              (deeper b (is.behind i a b at (target_edge graph a b among))))))
            where
              deeper : (b : ℕ) → (j : ℕ) × (j < i) × (slice_get order j ≡ Some b) →
                  nodes_below d graph b ≡ nodes_below (length order) graph b
              deeper b found =
                  let before = found.1 in
                  settled (length order) found.0 d (length order) b (omega arith) (omega (arith, e)) (omega arith)
                  found.2

      -- the counts of the first nodes of the order stand in a table
      abbrev pub AreTotals : ℕ → List ℕ → Type 0
      AreTotals i totals = (k n : ℕ) → k < i → slice_get order k ≡ Some n → get_or totals n 0 ≡ capped (whole n)

      pub totals_more : (i node value : ℕ) (totals : List ℕ) → slice_get order i ≡ Some node →
          node < length totals → value ≡ capped (whole node) → AreTotals i totals →
          AreTotals (i + 1) (set totals node value)
      totals_more i node value totals at room is_whole so k n below there = by (same_or_not n node)
        where
          earlier : (n ≡ node → ⊥) → (k ≡ i) ⊎ (k ≡ i → ⊥) → get_or (set totals node value) n 0 ≡ capped (whole n)
          earlier other (inl same) =
              absurd (other (same_Some n node (sym there ∙ ap (slice_get order) same ∙ at)))
          earlier other (inr apart) =
              get_or-set_other totals node n value 0 other ∙ so k n (less apart) there
            where
              less : (k ≡ i → ⊥) → k < i
              less apart = omega (arith, apart)

          by : (n ≡ node) ⊎ (n ≡ node → ⊥) → get_or (set totals node value) n 0 ≡ capped (whole n)
          by (inl same) =
              ap (λ m. get_or (set totals node value) m 0) same
              ∙ get_or-set_same totals node value 0 room ∙ is_whole ∙ ap (λ m. capped (whole m)) (sym same)
          by (inr other) = earlier other (same_or_not k i)
