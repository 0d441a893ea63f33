-- Levels with their diagrams, pair by pair.
use Rattle.std.proofs.Common.{◌≡◌, ℕ, ◌+◌, ◌<◌, ◌≤◌, List, [], ◌∷◌, ◌++◌, length, get_or, drop, refl, sym, ap, ◌∙◌, append_assoc, arith}
use Rattle.std.specs.List.{zip}
use Rattle.std.proofs.lemmas.List.{append-nil, drop_all, drop_more}
use Rattle.tm_dd.specs.declared.node.NodeId.{NodeId}

-- behind the pairs that were put there come those that are left
pub record ArePairs (levels : List ℕ) (bits : List NodeId) (old items : List (ℕ × NodeId)) (i : ℕ) : Type 0 where
  pub rest : items ++ zip (drop i levels) (drop i bits) ≡ old ++ zip levels bits

pub pairs_first : (levels : List ℕ) (bits : List NodeId) (old : List (ℕ × NodeId)) → ArePairs levels bits old old 0
pairs_first levels bits old = record { rest = refl }

pub pairs_more : (levels : List ℕ) (bits : List NodeId) (old items new : List (ℕ × NodeId)) (i level : ℕ)
    (bit : NodeId) → length levels ≡ length bits → i < length levels → level ≡ get_or levels i 0 →
    bit ≡ get_or bits i bit → ArePairs levels bits old items i → new ≡ items ++ (level, bit) ∷ [] →
    ArePairs levels bits old new (i + 1)
pairs_more levels bits old items new i level bit long below is_level is_bit so_far pushes =
    let first : drop i levels ≡ level ∷ drop (i + 1) levels =
    drop_more levels i 0 below ∙ ap (λ k. k ∷ drop (i + 1) levels) (sym is_level) in
    let second : drop i bits ≡ bit ∷ drop (i + 1) bits =
    drop_more bits i bit (omega arith) ∙ ap (λ k. k ∷ drop (i + 1) bits) (sym is_bit) in
    record {
      rest =
          ap (λ ps. ps ++ zip (drop (i + 1) levels) (drop (i + 1) bits)) pushes
          ∙ append_assoc items ((level, bit) ∷ []) (zip (drop (i + 1) levels) (drop (i + 1) bits))
          ∙ (λ j. items ++ zip (sym first j) (sym second j))
          ∙ so_far.rest;
    }

pub pairs_all : (levels : List ℕ) (bits : List NodeId) (old items : List (ℕ × NodeId)) (i : ℕ) →
    length levels ≡ length bits → length levels ≤ i → ArePairs levels bits old items i →
    items ≡ old ++ zip levels bits
pairs_all levels bits old items i long end so_far =
    sym (append-nil items)
    ∙ (λ j. items ++ zip (sym (drop_all i levels end) j) (sym (drop_all i bits (omega arith)) j))
    ∙ so_far.rest
