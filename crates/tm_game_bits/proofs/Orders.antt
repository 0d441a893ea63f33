-- An order has each place once.
use Rattle.std.proofs.Common.{◌≡◌, ◌≢◌, ℕ, ◌+◌, ◌<◌, ◌≤◌, Bool, eqb, List, length, get_or, map, set, inl, inr, refl, sym, ap, ◌∙◌, subst, arith}
use Rattle.std.specs.Prelude.{All, Contains}
use Rattle.std.specs.List.{range_with_len, swap}
use Rattle.std.proofs.lemmas.Bool.{true≢false, cases_eq, cases_lt, eqb-true, eq-eqb}
use Rattle.std.proofs.lemmas.List.{get_or_default, get_or-set_same, get_or-set_other, length-set}
use Rattle.std.proofs.lemmas.List.Edits.{length-swap, swapped_from_swap}
use Rattle.std.proofs.lemmas.List.FromFn.{fill_by_all, get_or-range_with_len, length-range_with_len}
use Rattle.std.proofs.lemmas.List.Sorted.{All-permutation, Contains-permutation, IsPermutation-keeps, length_permutation}
use Rattle.std.proofs.lemmas.List.Sums.{fails_before_first, passes_at_first}
use Rattle.tm_game_bits.specs.Order.{IsOrder, level_in}

pub length_order : (count : ℕ) (order : List ℕ) → IsOrder count order → length order ≡ count
length_order count order is = length_permutation (range_with_len 0 count) order is ∙ length-range_with_len 0 count

pub order_below : (count : ℕ) (order : List ℕ) → IsOrder count order → All (λ p. p < count) order
order_below count order is =
    All-permutation (λ p. p < count) (range_with_len 0 count) order is
    (λ k d h.
    let within : k < count = omega (arith, length-range_with_len 0 count) in
    subst (λ (p : ℕ). p < count) (sym (get_or-range_with_len 0 count k d within)) (omega arith))

-- each place stands in an order
pub order_has : (count : ℕ) (order : List ℕ) → IsOrder count order → (p : ℕ) → p < count → Contains order p
order_has count order is p below =
    let same : 0 + p ≡ p = omega arith in
    Contains-permutation (range_with_len 0 count) order p is
    (p, omega (arith, length-range_with_len 0 count), get_or-range_with_len 0 count p p below ∙ same)

-- no element stands twice
abbrev IsOnce : List ℕ → Type 0
IsOnce l = (j k : ℕ) → j < length l → k < length l → get_or l j 0 ≡ get_or l k 0 → j ≡ k

range_once : (count : ℕ) → IsOnce (range_with_len 0 count)
range_once count j k below_j below_k same =
    let long = length-range_with_len 0 count in
    let at_j = get_or-range_with_len 0 count j 0 (omega (arith, long, below_j)) in
    let at_k = get_or-range_with_len 0 count k 0 (omega (arith, long, below_k)) in
    omega (arith, at_j, at_k, same)

-- where an element stood before two were swapped
data Source (a b j i : ℕ) : Type 0 where
  at_first : j ≡ a → i ≡ b → Source a b j i
  at_second : j ≡ b → i ≡ a → Source a b j i
  elsewhere : (j ≡ a → ⊥) → (j ≡ b → ⊥) → i ≡ j → Source a b j i

same_target : (a b j k i m : ℕ) → Source a b j i → Source a b k m → i ≡ m → j ≡ k
same_target a b j k i m (at_first p q) (at_first r s) e = omega arith
same_target a b j k i m (at_first p q) (at_second r s) e = omega arith
same_target a b j k i m (at_first p q) (elsewhere r s t) e = absurd (s (omega arith))
same_target a b j k i m (at_second p q) (at_first r s) e = omega arith
same_target a b j k i m (at_second p q) (at_second r s) e = omega arith
same_target a b j k i m (at_second p q) (elsewhere r s t) e = absurd (r (omega arith))
same_target a b j k i m (elsewhere p q r) (at_first s t) e = absurd (q (omega arith))
same_target a b j k i m (elsewhere p q r) (at_second s t) e = absurd (p (omega arith))
same_target a b j k i m (elsewhere p q r) (elsewhere s t u) e = omega arith

-- an element after a swap, with where it stood
record Moved (l : List ℕ) (a b j : ℕ) : Type 0 where
  from : ℕ
  below : from < length l
  same : get_or (swap l a b) j 0 ≡ get_or l from 0
  source : Source a b j from

moved : (l : List ℕ) (a b j : ℕ) → a < length l → b < length l → j < length l → Moved l a b j
moved l a b j below_a below_b below_j =
    let swapped = swapped_from_swap l (swap l a b) a b 0 below_a below_b refl in
    elim (cases_eq j a) as (λ _. Moved l a b j) [
      | inl first ↦ record {
        from = b;
        below = below_b;
        same = ap (λ k. get_or (swap l a b) k 0) first ∙ swapped.0;
        source = at_first first refl;
      }
      | inr other ↦
          elim (cases_eq j b) as (λ _. Moved l a b j) [
            | inl second ↦ record {
              from = a;
              below = below_a;
              same = ap (λ k. get_or (swap l a b) k 0) second ∙ swapped.1;
              source = at_second second refl;
            }
            | inr neither ↦ record {
              from = j;
              below = below_j;
              same = swapped.2 j other neither;
              source = elsewhere other neither refl;
            }
          ]
    ]

swapped_once : (l : List ℕ) (a b : ℕ) → a < length l → b < length l → IsOnce l → IsOnce (swap l a b)
swapped_once l a b below_a below_b once j k below_j below_k same =
    let from_j = moved l a b j below_a below_b (omega (arith, length-swap l a b, below_j)) in
    let from_k = moved l a b k below_a below_b (omega (arith, length-swap l a b, below_k)) in
    same_target a b j k from_j.from from_k.from from_j.source from_k.source
    (once from_j.from from_k.from from_j.below from_k.below (sym from_j.same ∙ same ∙ from_k.same))

-- no place stands twice in an order
pub order_once : (count : ℕ) (order : List ℕ) → IsOrder count order → (j k : ℕ) → j < length order →
    k < length order → get_or order j 0 ≡ get_or order k 0 → j ≡ k
order_once count order is =
    IsPermutation-keeps (range_with_len 0 count) IsOnce (range_once count)
    (λ l a b below_a below_b once. swapped_once l a b below_a below_b once) order is

-- a level with the place whose bit it is
pub record IsLevelOf (order : List ℕ) (p level : ℕ) : Type 0 where
  pub below : level < length order
  pub at : get_or order level 0 ≡ p

level_found : (order : List ℕ) (p k : ℕ) → k < length order → get_or order k 0 ≡ p →
    IsLevelOf order p (level_in order p)
level_found order p k below is =
    let test : ℕ → Bool = λ q. eqb q p in
    let within : level_in order p < length order =
    elim (cases_lt (level_in order p) (length order)) as (λ _. level_in order p < length order) [
      | inl found ↦ found
      | inr none ↦
          absurd (true≢false (sym (eq-eqb (get_or order k 0) p is)
          ∙ fails_before_first (λ q. eqb q p) order k 0 (omega arith)))
    ] in
    record {
      below = within;
      at = eqb-true _ _ (passes_at_first (λ q. eqb q p) order 0 within);
    }

-- each place has a level
pub level_of_place : (count : ℕ) (order : List ℕ) → IsOrder count order → (p : ℕ) → p < count →
    IsLevelOf order p (level_in order p)
level_of_place count order is p below =
    let there = order_has count order is p below in
    level_found order p there.0 there.1 (get_or_default order there.0 0 p there.1 ∙ there.2)

-- the place at a level has that level
pub level_back : (count : ℕ) (order : List ℕ) → IsOrder count order → (k : ℕ) → k < length order →
    level_in order (get_or order k 0) ≡ k
level_back count order is k below =
    let found = level_found order (get_or order k 0) k below refl in
    order_once count order is (level_in order (get_or order k 0)) k found.below below found.at

-- the places at the first levels have got these
pub record ArePlaced (order levels : List ℕ) (i : ℕ) : Type 0 where
  pub count : length levels ≡ length order
  pub each : (p : ℕ) → p < length order → level_in order p < i → get_or levels p 0 ≡ level_in order p

pub place_within : (order levels : List ℕ) (i place : ℕ) → IsOrder (length order) order → i < length order →
    place ≡ get_or order i 0 → ArePlaced order levels i → place < length levels
place_within order levels i place is below is_place so_far =
    let fits : get_or order i 0 < length order = order_below (length order) order is i 0 below in
    omega (arith, so_far.count)

pub placed_more : (order levels : List ℕ) (i place : ℕ) → IsOrder (length order) order → i < length order →
    place ≡ get_or order i 0 → ArePlaced order levels i → ArePlaced order (set levels place i) (i + 1)
placed_more order levels i place is below is_place so_far = record {
  count = length-set levels place i ∙ so_far.count;
  each = λ p p_below reached.
      elim (cases_eq p place) as (λ _. get_or (set levels place i) p 0 ≡ level_in order p) [
        | inl same ↦
            ap (λ k. get_or (set levels place i) k 0) same
            ∙ get_or-set_same levels place i 0 (place_within order levels i place is below is_place so_far)
            ∙ sym (ap (λ k. level_in order k) (same ∙ is_place) ∙ level_back (length order) order is i below)
        | inr other ↦
            let found = level_of_place (length order) order is p p_below in
            let before : level_in order p ≢ i =
            λ e. other (sym found.at ∙ ap (λ k. get_or order k 0) e ∙ sym is_place) in
            get_or-set_other levels place p i 0 other ∙ so_far.each p p_below (omega arith)
      ];
}

pub placed_all : (order levels : List ℕ) (i : ℕ) → IsOrder (length order) order → length order ≤ i →
    ArePlaced order levels i → levels ≡ map (level_in order) (range_with_len 0 (length order))
placed_all order levels i is end placed =
    fill_by_all (level_in order) levels (length order) 0 placed.count
    (λ k below.
    let found = level_of_place (length order) order is k below in
    placed.each k below (omega (arith, found.below)))
