-- The rank of a state, and the regions of the first ranks.
use Rattle.std.proofs.Common.{◌≡◌, ℕ, zero, suc, ◌+◌, ◌<◌, ◌≤◌, ◌⊎◌, inl, inr, Bool, true, false, List, [], ◌∷◌, length, take, cond, refl, sym, ◌∙◌, arith, true≢false}
use Rattle.std.specs.Prelude.{◌||◌, not}
use Rattle.std.specs.List.{list_any, position_or_len}
use Rattle.tm_sem.specs.Certificates.{RankedSet, rank}
use Rattle.tm_sem.specs.State.{StateData}
use Rattle.tm_verdict.specs.Found.{IsOfRank, within_rank}

module _ {A : Type 0} (p : A → Bool) where
  -- what is found among the first elements stands there
  pub stands_before : (xs : List A) (k : ℕ) → list_any p (take k xs) ≡ true → position_or_len p xs < k
  stands_before [] zero is = absurd (true≢false (sym is))
  stands_before [] (suc k) is = absurd (true≢false (sym is))
  stands_before (x ∷ xs) zero is = absurd (true≢false (sym is))
  stands_before (x ∷ xs) (suc k) is = by (stands_before xs k) (p x) is
    where
      by : (list_any p (take k xs) ≡ true → position_or_len p xs < k) → (b : Bool) →
          (b || list_any p (take k xs)) ≡ true → cond (not b) (1 + position_or_len p xs) 0 < suc k
      by rest true is = omega arith
      by rest false is = omega (arith, rest is)

  -- what stands among the first elements is found there
  pub stands : (xs : List A) (k : ℕ) → position_or_len p xs < k → position_or_len p xs < length xs →
      list_any p (take k xs) ≡ true
  stands [] k before within = absurd (omega arith)
  stands (x ∷ xs) zero before within = absurd (omega arith)
  stands (x ∷ xs) (suc k) before within = by (stands xs k) (p x) before within
    where
      by : (position_or_len p xs < k → position_or_len p xs < length xs → list_any p (take k xs) ≡ true) → (b : Bool) →
          cond (not b) (1 + position_or_len p xs) 0 < suc k →
          cond (not b) (1 + position_or_len p xs) 0 < suc (length xs) → (b || list_any p (take k xs)) ≡ true
      by rest true before within = refl
      by rest false before within = rest (omega arith) (omega arith)

  -- what is found in a list stands there
  pub some_place : (xs : List A) → list_any p xs ≡ true → position_or_len p xs < length xs
  some_place [] is = absurd (true≢false (sym is))
  some_place (x ∷ xs) is = by (some_place xs) (p x) is
    where
      by : (list_any p xs ≡ true → position_or_len p xs < length xs) → (b : Bool) → (b || list_any p xs) ≡ true →
          cond (not b) (1 + position_or_len p xs) 0 < suc (length xs)
      by rest true is = omega arith
      by rest false is = omega (arith, rest is)

pub before_or_not : (n k : ℕ) → (n < k) ⊎ (k ≤ n)
before_or_not n k = grind arith

module _ (ranked : List RankedSet) where
  -- a state of one of the first regions has such a rank
  pub low_rank : (k : ℕ) (s : StateData) → within_rank ranked k s ≡ true → rank ranked s ≤ k
  low_rank k s within = let less = stands_before (λ (r : RankedSet). r.set s) ranked k within in omega arith

  -- a state of none of them has a greater one
  pub high_rank : (k : ℕ) (s : StateData) → k ≤ length ranked → within_rank ranked k s ≡ false → k < rank ranked s
  high_rank k s few outside = by (before_or_not (position_or_len (λ (r : RankedSet). r.set s) ranked) k)
    where
      by : (position_or_len (λ (r : RankedSet). r.set s) ranked < k)
          ⊎ (k ≤ position_or_len (λ (r : RankedSet). r.set s) ranked) → k < rank ranked s
      by (inl before) =
          absurd (true≢false
          (sym (stands (λ (r : RankedSet). r.set s) ranked k before (omega arith)) ∙ outside))
      by (inr behind) = omega arith

  -- the rank of a state of a region that no earlier one holds
  pub rank_is : (k : ℕ) (s : StateData) → k < length ranked → IsOfRank ranked k s → rank ranked s ≡ 1 + k
  rank_is k s few of =
      let low = low_rank (1 + k) s of.within in
      let high = high_rank k s (omega arith) of.not_before in
      omega arith

  -- a state that has a rank is of it
  pub of_rank : (k : ℕ) (s : StateData) → k < length ranked → rank ranked s ≡ 1 + k → IsOfRank ranked k s
  of_rank k s few is = record {
    within = stands (λ (r : RankedSet). r.set s) ranked (1 + k) (omega arith) (omega arith);
    not_before = none (within_rank ranked k s) refl;
  }
    where
      none : (b : Bool) → within_rank ranked k s ≡ b → within_rank ranked k s ≡ false
      none false same = same
      none true same = let low = low_rank k s same in absurd (omega arith)
