use Rattle.std.proofs.Common.{◌≡◌, ◌+◌, ◌++◌, [], ◌∷◌, List, ℕ, ap, sym, ◌∙◌, arith}
use Rattle.std.proofs.lemmas.List.{map-id}
use Rattle.std.proofs.lemmas.List.FromFn.{map-range_with_len_more}
use Rattle.std.specs.List.{range_with_len}
use Rattle.tm_dd.proofs.store.numbers.Goals as goal

-- one more number
one_more : (n : ℕ) → range_with_len 0 (n + 1) ≡ range_with_len 0 n ++ n ∷ []
one_more n =
    sym (map-id (range_with_len 0 (n + 1)))
    ∙ map-range_with_len_more (λ (k : ℕ). k) 0 n n (omega arith)
    ∙ ap (λ (xs : List ℕ). xs ++ n ∷ []) (map-id (range_with_len 0 n))

pub loop-level-preserved : goal.loop-level-preserved
loop-level-preserved c =
    c.in_ok-push.ensures.items
    ∙ ap (λ (xs : List ℕ). xs ++ c.loop-level.level ∷ []) c.loop-level.invariant
    ∙ sym (one_more c.loop-level.level)
