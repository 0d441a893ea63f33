-- Levels that are put there input by input.
use Rattle.std.proofs.Common.{◌≡◌, ℕ, ◌+◌, ◌<◌, ◌≤◌, List, [], ◌∷◌, ◌++◌, Vec, length, get_or, map, take, drop, refl, sym, ap, ◌∙◌, append_assoc, arith}
use Rattle.std.specs.Prelude.{sum}
use Rattle.std.specs.List.{range_with_len}
use Rattle.std.specs.declared.alloc.Global.{Global}
use Rattle.std.proofs.lemmas.List.{append-nil, drop-drop, drop_all, drop_at, drop_more, map-append, map_push, take_at}
use Rattle.std.proofs.lemmas.List.FromFn.{length-map-range_with_len, map-range_with_len_more}
use Rattle.std.proofs.lemmas.List.Sums.{sum_by-cons, sum_by-drop_more}
use Rattle.tm_blast.specs.Numbers.{level_lists}
use Rattle.tm_flat.specs.Inputs.{room}
use Rattle.tm_game_bits.specs.Order.{IsOrder, level_in}
use Rattle.tm_game_bits.proofs.Orders.{length_order}
use Rattle.tm_game_bits.proofs.Weights.{range_split}
use Rattle.tm_game_bits.specs.Inner.Pieces.{pieces}
use Rattle.tm_game_bits.specs.Inputs.{bit_levels, input_levels, number_levels}

-- ---- numbers
-- the pieces of the levels by place are the levels of numbers
pieces_are : (order ws : List ℕ) (place : ℕ) →
    pieces (map (level_in order) (range_with_len place (sum ws))) ws ≡ number_levels order ws place
pieces_are order [] place = refl
pieces_are order (w ∷ ws) place =
    let first = map (level_in order) (range_with_len place w) in
    let split : map (level_in order) (range_with_len place (sum (w ∷ ws)))
    ≡ map (level_in order) (range_with_len place w) ++ map (level_in order) (range_with_len (place + w) (sum ws)) =
    ap (λ k. map (level_in order) (range_with_len place k)) (sum_by-cons (λ x. x) w ws)
    ∙ ap (map (level_in order)) (range_split place w (sum ws))
    ∙ map-append (level_in order) (range_with_len place w) (range_with_len (place + w) (sum ws)) in
    let long = length-map-range_with_len (level_in order) place w in
    ap (λ xs. pieces xs (w ∷ ws)) split
    ∙ (λ i.
    take_at (map (level_in order) (range_with_len place w))
    (map (level_in order) (range_with_len (place + w) (sum ws))) w long i
    ∷ pieces
    (drop_at (map (level_in order) (range_with_len place w))
    (map (level_in order) (range_with_len (place + w) (sum ws))) w long i) ws)
    ∙ ap (λ xs. map (level_in order) (range_with_len place w) ∷ xs) (pieces_are order ws (place + w))

-- behind the pieces that were put there come those that are left
pub record ArePieces (by_place widths : List ℕ) (levels : List (Vec ℕ Global)) (place i : ℕ) : Type 0 where
  pub offset : place + sum (drop i widths) ≡ sum widths
  pub rest : level_lists levels ++ pieces (drop place by_place) (drop i widths) ≡ pieces by_place widths

pub pieces_first : (by_place widths : List ℕ) → ArePieces by_place widths [] 0 0
pieces_first by_place widths = record { offset = omega arith; rest = refl }

pub end_within : (by_place widths : List ℕ) (levels : List (Vec ℕ Global)) (place i width : ℕ) → i < length widths →
    width ≡ get_or widths i 0 → ArePieces by_place widths levels place i → place + width ≤ sum widths
end_within by_place widths levels place i width below is so_far =
    omega (arith, so_far.offset, sum_by-drop_more (λ x. x) widths i 0 below)

pub pieces_more : (by_place widths : List ℕ) (levels new : List (Vec ℕ Global)) (place i width : ℕ)
    (piece : Vec ℕ Global) → i < length widths → width ≡ get_or widths i 0 →
    ArePieces by_place widths levels place i → piece.items ≡ take width (drop place by_place) →
    new ≡ levels ++ piece ∷ [] → ArePieces by_place widths new (place + width) (i + 1)
pieces_more by_place widths levels new place i width piece below is so_far is_piece pushes =
    let split : drop i widths ≡ width ∷ drop (i + 1) widths =
    drop_more widths i 0 below ∙ ap (λ k. k ∷ drop (i + 1) widths) (sym is) in
    let left = pieces (drop (place + width) by_place) (drop (i + 1) widths) in
    record {
      offset = omega (arith, so_far.offset, sum_by-drop_more (λ x. x) widths i 0 below);
      rest =
          ap (λ ls. level_lists ls ++ pieces (drop (place + width) by_place) (drop (i + 1) widths)) pushes
          ∙ ap (λ ls. ls ++ pieces (drop (place + width) by_place) (drop (i + 1) widths))
          (map_push (λ (list : Vec ℕ Global). list.items) levels piece)
          ∙ append_assoc (level_lists levels) (piece.items ∷ [])
          (pieces (drop (place + width) by_place) (drop (i + 1) widths))
          ∙ (λ j.
          level_lists levels
          ++ (is_piece j ∷ pieces (sym (drop-drop width place by_place) j) (drop (i + 1) widths)))
          ∙ ap (λ ws. level_lists levels ++ pieces (drop place by_place) ws) (sym split)
          ∙ so_far.rest;
    }

pub pieces_all : (by_place widths : List ℕ) (levels : List (Vec ℕ Global)) (place i : ℕ) → length widths ≤ i →
    ArePieces by_place widths levels place i → level_lists levels ≡ pieces by_place widths
pieces_all by_place widths levels place i end so_far =
    sym (append-nil (level_lists levels))
    ∙ ap (λ ws. level_lists levels ++ pieces (drop place by_place) ws) (sym (drop_all i widths end))
    ∙ so_far.rest

-- ---- bits
pub bits_more : (old new items : List (Vec ℕ Global)) (first k : ℕ) (level : Vec ℕ Global) →
    level_lists items ≡ level_lists old ++ bit_levels first k → level.items ≡ (first + k) ∷ [] →
    new ≡ items ++ level ∷ [] → level_lists new ≡ level_lists old ++ bit_levels first (k + 1)
bits_more old new items first k level so_far is pushes =
    ap level_lists pushes
    ∙ map_push (λ (list : Vec ℕ Global). list.items) items level
    ∙ (λ i. so_far i ++ is i ∷ [])
    ∙ append_assoc (level_lists old) (bit_levels first k) (((first + k) ∷ []) ∷ [])
    ∙ ap (λ ls. level_lists old ++ ls)
    (sym (map-range_with_len_more (λ (n : ℕ). n ∷ []) first k (first + k) refl))

pub bits_all : (old items : List (Vec ℕ Global)) (first k : ℕ) → 64 ≤ k → k ≤ 64 →
    level_lists items ≡ level_lists old ++ bit_levels first k →
    level_lists items ≡ level_lists old ++ bit_levels first room
unfolding room
bits_all old items first k end within so_far =
    let all : k ≡ 64 = omega arith in so_far ∙ ap (λ n. level_lists old ++ bit_levels first n) all

-- ---- all inputs
pub input_levels_are : (order widths by_place : List ℕ) (numbers choices arguments : List (Vec ℕ Global)) →
    IsOrder (sum widths) order → by_place ≡ map (level_in order) (range_with_len 0 (length order)) →
    level_lists numbers ≡ pieces by_place widths →
    level_lists choices ≡ level_lists numbers ++ bit_levels (length order + 64) room →
    level_lists arguments ≡ level_lists choices ++ bit_levels (length order) room →
    level_lists arguments ≡ input_levels order widths
unfolding room
input_levels_are order widths by_place numbers choices arguments is placed cut second third =
    let all : by_place ≡ map (level_in order) (range_with_len 0 (sum widths)) =
    placed ∙ ap (λ k. map (level_in order) (range_with_len 0 k)) (length_order (sum widths) order is) in
    third
    ∙ ap (λ ls. ls ++ bit_levels (length order) 64) second
    ∙ ap (λ ls. ls ++ bit_levels (length order + 64) 64 ++ bit_levels (length order) 64)
    (cut ∙ ap (λ xs. pieces xs widths) all ∙ pieces_are order widths 0)

-- there are levels enough for all numbers
pub by_place_long : (order widths by_place : List ℕ) → IsOrder (sum widths) order →
    by_place ≡ map (level_in order) (range_with_len 0 (length order)) → sum widths ≤ length by_place
by_place_long order widths by_place is placed =
    omega (
      arith,
      ap length placed,
      length-map-range_with_len (level_in order) 0 (length order),
      length_order (sum widths) order is,
    )
