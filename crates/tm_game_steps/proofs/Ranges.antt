-- Ranges of numbers.
use Rattle.std.proofs.Common.{◌≡◌, ℕ, zero, suc, ◌+◌, [], ◌∷◌, ◌++◌, ap, ◌∙◌, arith}
use Rattle.std.specs.List.{range_with_len}

-- one more behind a range
pub range_more : (a n : ℕ) → range_with_len a (n + 1) ≡ range_with_len a n ++ (a + n) ∷ []
range_more a zero = let here : a ≡ a + 0 = omega arith in ap (λ k. k ∷ []) here
range_more a (suc n) =
    let next : suc n + 1 ≡ suc (n + 1) = omega arith in
    let here : a + 1 + n ≡ a + suc n = omega arith in
    ap (range_with_len a) next
    ∙ ap (λ xs. a ∷ xs) (range_more (a + 1) n)
    ∙ ap (λ k. a ∷ range_with_len (a + 1) n ++ k ∷ []) here
