-- Rows of cells and of comparisons, as far as a loop has come.
use Rattle.std.proofs.Common.{◌≡◌, ℕ, suc, ◌+◌, ◌<◌, ◌≤◌, Bool, List, [], ◌∷◌, ◌++◌, length, drop, get_or, sym, ap, ◌∙◌, subst, append_assoc, add-one, arith}
use Rattle.std.specs.Prelude.{All}
use Rattle.std.proofs.Math.Seq.{drop-cons}
use Rattle.std.proofs.Math.ListN.{get_or-map}
use Rattle.std.proofs.lemmas.List.{map-append, drop_all, length-map}
use Rattle.std.proofs.lemmas.List.Elements.{All-push, All-get_or}
use Rattle.tm_dd.specs.declared.node.NodeId.{NodeId}
use Rattle.tm_dd.specs.Table.{Table, Knows, means}
use Rattle.tm_dd.specs.Reduced.{Extends}
use Rattle.tm_dd.proofs.CallerLaws.{Extends-trans}
use Rattle.tm_ddops.specs.Manager.{IsFunction}
use Rattle.tm_blast.specs.declared.cell.Cell.{Cell}
use Rattle.tm_blast.specs.declared.compare.Comparison.{Comparison}
use Rattle.tm_blast.specs.Bits.{values_in}
use Rattle.tm_blast.specs.Cell.{cell_bit, cell_next, rippled, compared_bit, compared}
use Rattle.tm_blast.proofs.Extended.{Knows-extended, All-Knows-extended, values_in-extended}

-- what the cells from place i on give goes behind the bits that were made, and that is what all cells give
pub record IsRippled (cell : Cell) (s u : Table) (first carry : NodeId) (a b ids : List NodeId) (i : ℕ) : Type 0 where
  pub extends : Extends s u
  pub carry_known : Knows u carry
  pub known : All (Knows u) ids
  pub left : (v : ℕ → Bool) →
      values_in u ids v ++ rippled cell (means u carry v) (drop i (values_in s a v)) (drop i (values_in s b v))
      ≡ rippled cell (means s first v) (values_in s a v) (values_in s b v)

-- what the comparison from place i on gives is what the whole gives
pub record IsCompared (op : Comparison) (s u : Table) (first found : NodeId) (a b : List NodeId) (i : ℕ) : Type 0 where
  pub extends : Extends s u
  pub known : Knows u found
  pub left : (v : ℕ → Bool) →
      compared op (means u found v) (drop i (values_in s a v)) (drop i (values_in s b v))
      ≡ compared op (means s first v) (values_in s a v) (values_in s b v)

-- ---- what is left from a place on
-- the bit at a place, and what is left behind it
left_at : (s : Table) (a : List NodeId) (i : ℕ) (d : NodeId) (v : ℕ → Bool) → i < length a →
    drop i (values_in s a v) ≡ means s (get_or a i d) v ∷ drop (i + 1) (values_in s a v)
left_at s a i d v h =
    let f : NodeId → Bool = λ id. means s id v in
    let within : i < length (values_in s a v) = omega (arith, length-map a f, h) in
    let head : get_or (values_in s a v) i (means s d v) ≡ means s (get_or a i d) v = get_or-map f a i d in
    let one : i + 1 ≡ suc i = add-one i in
    drop-cons (values_in s a v) i (means s d v) within
    ∙ ap (λ x. x ∷ drop (suc i) (values_in s a v)) head
    ∙ ap (λ k. means s (get_or a i d) v ∷ drop k (values_in s a v)) (sym one)

nothing_left : (s : Table) (a : List NodeId) (i : ℕ) (v : ℕ → Bool) → length a ≤ i → drop i (values_in s a v) ≡ []
nothing_left s a i v h =
    let f : NodeId → Bool = λ id. means s id v in drop_all i (values_in s a v) (omega (arith, length-map a f, h))

pub values_in-append : (s : Table) (ids : List NodeId) (id : NodeId) (v : ℕ → Bool) →
    values_in s (ids ++ id ∷ []) v ≡ values_in s ids v ++ means s id v ∷ []
values_in-append s ids id v = let f : NodeId → Bool = λ id. means s id v in map-append f ids (id ∷ [])

-- ---- a row of cells
rippled-step : (cell : Cell) (c x y : Bool) (xs ys ps qs : List Bool) → xs ≡ x ∷ ps → ys ≡ y ∷ qs →
    rippled cell c xs ys ≡ cell_bit cell c x y ∷ rippled cell (cell_next cell c x y) ps qs
rippled-step cell c x y xs ys ps qs e f = λ k. rippled cell c (e k) (f k)

rippled-end : (cell : Cell) (c : Bool) (xs ys : List Bool) → xs ≡ [] → rippled cell c xs ys ≡ []
rippled-end cell c xs ys e = λ k. rippled cell c (e k) ys

module _ (cell : Cell) (s u : Table) (first carry : NodeId) (a b ids : List NodeId) (i : ℕ) (d : NodeId)
    (so_far : IsRippled cell s u first carry a b ids i) (within : i < length a) (same : length a ≡ length b)
    (known_a : All (Knows s) a) (known_b : All (Knows s) b) where
  abbrev x : NodeId
  x = get_or a i d

  abbrev y : NodeId
  y = get_or b i d

  x_known : Knows s x
  x_known = All-get_or (Knows s) a i d within known_a

  y_known : Knows s y
  y_known = All-get_or (Knows s) b i d (omega arith) known_b

  pub x_known_here : Knows u x
  x_known_here = Knows-extended s u so_far.extends x x_known

  pub y_known_here : Knows u y
  y_known_here = Knows-extended s u so_far.extends y y_known

  module _ (w : Table) (extends : Extends u w) (bit : NodeId)
      (is : IsFunction w bit (λ v. cell_bit cell (means w carry v) (means w x v) (means w y v))) where
    -- one more bit, and what is left by what the cell hands on
    pushed : (v : ℕ → Bool) →
        values_in w (ids ++ bit ∷ []) v
        ++ rippled cell (cell_next cell (means w carry v) (means w x v) (means w y v))
        (drop (i + 1) (values_in s a v)) (drop (i + 1) (values_in s b v))
        ≡ rippled cell (means s first v) (values_in s a v) (values_in s b v)
    pushed v =
        let before : values_in w ids v ≡ values_in u ids v = values_in-extended u w extends ids so_far.known v in
        let carry_same : means w carry v ≡ means u carry v = extends.same_meaning carry so_far.carry_known v in
        let whole = Extends-trans s u w so_far.extends extends in
        let x_same : means w x v ≡ means s x v = whole.same_meaning x x_known v in
        let y_same : means w y v ≡ means s y v = whole.same_meaning y y_known v in
        let meaning = is.meaning v in
        let ps = drop (i + 1) (values_in s a v) in
        let qs = drop (i + 1) (values_in s b v) in
        let step =
        rippled-step cell (means u carry v) (means s x v) (means s y v) (drop i (values_in s a v))
        (drop i (values_in s b v)) ps qs (left_at s a i d v within) (left_at s b i d v (omega arith)) in
        let rest : Bool → Bool → Bool → List Bool =
        λ c p q. cell_bit cell c p q ∷ rippled cell (cell_next cell c p q) ps qs in
        ap (λ front. front ++ rippled cell (cell_next cell (means w carry v) (means w x v) (means w y v)) ps qs)
        (values_in-append w ids bit v)
        ∙ append_assoc (values_in w ids v) (means w bit v ∷ []) _
        ∙ (λ k. before k
        ++ (meaning k ∷ rippled cell (cell_next cell (means w carry v) (means w x v) (means w y v)) ps qs))
        ∙ (λ k. values_in u ids v ++ rest (carry_same k) (x_same k) (y_same k))
        ∙ ap (λ ys. values_in u ids v ++ ys) (sym step)
        ∙ so_far.left v

    known_pushed : All (Knows w) (ids ++ bit ∷ [])
    known_pushed =
        All-push (Knows w) ids bit (All-Knows-extended u w extends ids so_far.known) is.known

    -- the highest cell hands nothing on
    pub rippled_last : (items : List NodeId) → items ≡ ids ++ bit ∷ [] → length a ≤ i + 1 →
        IsRippled cell s w first carry a b items (i + 1)
    rippled_last items pushes end = subst (λ zs. IsRippled cell s w first carry a b zs (i + 1)) (sym pushes) record {
      extends = Extends-trans s u w so_far.extends extends;
      carry_known = Knows-extended u w extends carry so_far.carry_known;
      known = known_pushed;
      left = λ v.
          let none = nothing_left s a (i + 1) v end in
          let front = values_in w (ids ++ bit ∷ []) v in
          ap (λ ys. front ++ ys) (rippled-end cell (means w carry v) _ (drop (i + 1) (values_in s b v)) none)
          ∙ ap (λ ys. front ++ ys) (sym (rippled-end cell _ _ (drop (i + 1) (values_in s b v)) none))
          ∙ pushed v;
    }

    -- the others hand on the next carry
    pub rippled_more : (t : Table) (next : NodeId) → Extends w t
        → IsFunction t next (λ v. cell_next cell (means t carry v) (means t x v) (means t y v))
        → (items : List NodeId) → items ≡ ids ++ bit ∷ [] → IsRippled cell s t first next a b items (i + 1)
    rippled_more t next more gives items pushes =
        let here = Extends-trans s u w so_far.extends extends in
        subst (λ zs. IsRippled cell s t first next a b zs (i + 1)) (sym pushes) record {
          extends = Extends-trans s w t here more;
          carry_known = gives.known;
          known = All-Knows-extended w t more (ids ++ bit ∷ []) known_pushed;
          left = λ v.
              let front = values_in-extended w t more (ids ++ bit ∷ []) known_pushed v in
              let c = more.same_meaning carry (Knows-extended u w extends carry so_far.carry_known) v in
              let p = more.same_meaning x (Knows-extended s w here x x_known) v in
              let q = more.same_meaning y (Knows-extended s w here y y_known) v in
              let ps = drop (i + 1) (values_in s a v) in
              let qs = drop (i + 1) (values_in s b v) in
              let meaning = gives.meaning v in
              (λ k. front k ++ rippled cell (meaning k) ps qs)
              ∙ (λ k. values_in w (ids ++ bit ∷ []) v ++ rippled cell (cell_next cell (c k) (p k) (q k)) ps qs)
              ∙ pushed v;
        }

-- ---- a comparison
compared-step : (op : Comparison) (c x y : Bool) (xs ys ps qs : List Bool) → xs ≡ x ∷ ps → ys ≡ y ∷ qs →
    compared op c xs ys ≡ compared op (compared_bit op c x y) ps qs
compared-step op c x y xs ys ps qs e f = λ k. compared op c (e k) (f k)

module _ (op : Comparison) (s u : Table) (first found : NodeId) (a b : List NodeId) (i : ℕ) (d : NodeId)
    (so_far : IsCompared op s u first found a b i) (within : i < length a) (same : length a ≡ length b)
    (known_a : All (Knows s) a) (known_b : All (Knows s) b) where
  pub x_compared : Knows u (get_or a i d)
  x_compared = Knows-extended s u so_far.extends (get_or a i d) (All-get_or (Knows s) a i d within known_a)

  pub y_compared : Knows u (get_or b i d)
  y_compared = Knows-extended s u so_far.extends (get_or b i d) (All-get_or (Knows s) b i d (omega arith) known_b)

  pub compared_more : (w : Table) (next : NodeId) → Extends u w
      → IsFunction w next (λ v. compared_bit op (means w found v) (means w (get_or a i d) v) (means w (get_or b i d) v))
      → IsCompared op s w first next a b (i + 1)
  compared_more w next extends gives =
      let whole = Extends-trans s u w so_far.extends extends in
      record {
        extends = whole;
        known = gives.known;
        left = λ v.
            let c = extends.same_meaning found so_far.known v in
            let p = whole.same_meaning (get_or a i d) (All-get_or (Knows s) a i d within known_a) v in
            let q = whole.same_meaning (get_or b i d) (All-get_or (Knows s) b i d (omega arith) known_b) v in
            let meaning = gives.meaning v in
            let ps = drop (i + 1) (values_in s a v) in
            let qs = drop (i + 1) (values_in s b v) in
            (λ k. compared op (meaning k) ps qs)
            ∙ (λ k. compared op (compared_bit op (c k) (p k) (q k)) ps qs)
            ∙ sym (compared-step op (means u found v) _ _ _ _ ps qs (left_at s a i d v within)
            (left_at s b i d v (omega arith)))
            ∙ so_far.left v;
      }
