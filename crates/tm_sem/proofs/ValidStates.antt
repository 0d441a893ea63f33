-- The locations of valid states.
use Rattle.std.proofs.Common.{◌≡◌, ℕ, zero, suc, ◌+◌, ◌<◌, ◌≤◌, List, [], ◌∷◌, length, get_or, subst, arith}
use Rattle.std.specs.List.{AllZip, range_with_len}

-- each number of a list is within the bound of its place
pub zip_of_places : (end : ℕ → ℕ) (first n : ℕ) (places : List ℕ) → length places ≡ n →
    ((i : ℕ) → i < n → get_or places i 0 ≤ end (first + i)) →
    AllZip (λ p k. k ≤ end p) (range_with_len first n) places
zip_of_places end first zero [] long within = tt
zip_of_places end first zero (k ∷ ks) long within = absurd (omega arith)
zip_of_places end first (suc n) [] long within = absurd (omega arith)
zip_of_places end first (suc n) (k ∷ ks) long within =
    let none : first + 0 ≡ first = omega arith in
    let shorter : length ks ≡ n = omega arith in
    (subst (λ x. k ≤ end x) none (within 0 (omega arith)), zip_of_places end (first + 1) n ks shorter next)
  where
    next : (i : ℕ) → i < n → get_or ks i 0 ≤ end (first + 1 + i)
    next i less = let same : first + suc i ≡ first + 1 + i = omega arith in
        subst (λ x. get_or ks i 0 ≤ end x) same (within (suc i) (omega arith))
