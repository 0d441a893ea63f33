-- The bits of a number, of a type and of a choice hold every value.
use Rattle.std.proofs.Common.{◌≡◌, ℕ, zero, suc, ◌+◌, ◌-◌, ◌^◌, ◌<◌, ◌≤◌, ◌∷◌, [], ◌++◌, Bool, true, false, not, cond, length, map}
use Rattle.std.proofs.Common.{refl, ap, subst, arith, nat_lt, ltb-true}
use Rattle.std.specs.Prelude.{sum, sum_by}
use Rattle.std.specs.List.{position_or_len, range_with_len}
use Rattle.std.proofs.lemmas.List.FromFn.{length-range_with_len}
use Rattle.std.proofs.lemmas.List.Sums.{prefix_len-le-length, sum-map, sum_by-append, sum_by-le}
use Rattle.tm_base.specs.Arithmetic.{IsWidth}
use Rattle.tm_sem.specs.StateBits.{state_widths}
use Rattle.tm_syntax.proofs.Limits as limits
use Rattle.tm_syntax.specs.declared.design.Ty.{Ty}
use Rattle.tm_syntax.specs.declared.design.Ty.TheVariants as types
use Rattle.tm_syntax.specs.declared.design.Var.{Var}
use Rattle.tm_syntax.specs.Tree.{BlockRow, blocks_of, SpecTree}
use Rattle.tm_syntax.specs.Design.{DesignTree}
use Rattle.tm_syntax.specs.Design.Locations.{end_number}
use Rattle.tm_syntax.specs.Design.Sizes.{bits_of_number, type_size, type_bits}
use Rattle.tm_syntax.specs.Faults.{IsSound}
use Rattle.tm_flat.specs.Fitting.{ChoiceFits}

-- the first of so many counts with a power above a number, or the count behind them where that has one
first_power : (n a k : ℕ) → n < 2 ^ (a + k) →
    n < 2 ^ (a + position_or_len (λ c. nat_lt n (2 ^ c)) (range_with_len a k))
first_power n a zero below = below
first_power n a (suc k) below = of (nat_lt n (2 ^ a)) refl (first_power n (a + 1) k)
  where
    of : (b : Bool) → nat_lt n (2 ^ a) ≡ b →
        (n < 2 ^ (a + 1 + k) → n < 2 ^ (a + 1 + position_or_len (λ c. nat_lt n (2 ^ c)) (range_with_len (a + 1) k))) →
        n < 2 ^ (a + cond (not b) (1 + position_or_len (λ c. nat_lt n (2 ^ c)) (range_with_len (a + 1) k)) 0)
    of true is rest =
        let here : a ≡ a + 0 = omega arith in
        subst (λ c. n < 2 ^ c) here (ltb-true n (2 ^ a) is)
    of false is rest =
        let count : a + suc k ≡ a + 1 + k = omega arith in
        let there : a + 1 + position_or_len (λ c. nat_lt n (2 ^ c)) (range_with_len (a + 1) k)
        ≡ a + (1 + position_or_len (λ c. nat_lt n (2 ^ c)) (range_with_len (a + 1) k)) = omega arith in
        subst (λ c. n < 2 ^ c) there (rest (subst (λ c. n < 2 ^ c) count below))

pub number_has_bits : (n : ℕ) → n < 2 ^ 64 → n < 2 ^ bits_of_number n
number_has_bits n below = first_power n 1 63 below

-- so many values need the bits of the greatest of them
size_has_bits : (size : ℕ) → size ≤ 2 ^ 64 → size ≤ 2 ^ bits_of_number (size - 1)
size_has_bits zero h = omega arith
size_has_bits (suc n) h =
    let one_less : n ≡ suc n - 1 = omega arith in
    let below : n < 2 ^ bits_of_number n = number_has_bits n (omega arith) in
    let same : 2 ^ bits_of_number n ≡ 2 ^ bits_of_number (suc n - 1) = ap (λ c. 2 ^ bits_of_number c) one_less in
    omega arith

pub type_has_bits : (spec : SpecTree) (ty : Ty) → type_size spec ty ≤ 2 ^ 64 → type_size spec ty ≤ 2 ^ type_bits spec ty
type_has_bits spec types.Bool small = omega arith
type_has_bits spec (types.Uint n) small = omega arith
type_has_bits spec (types.Enum name) small = size_has_bits (type_size spec (types.Enum name)) small

pub choice_has_bits : (blocks : BlockRow) → length (blocks_of blocks) ≤ 2 ^ 64 → ChoiceFits blocks
choice_has_bits blocks small = size_has_bits (length (blocks_of blocks)) small

-- the bits of a number are a width
pub number_wide : (n : ℕ) → IsWidth (bits_of_number n)
number_wide n =
    let within : position_or_len (λ count. nat_lt n (2 ^ count)) (range_with_len 1 63) ≤ length (range_with_len 1 63) =
    prefix_len-le-length (λ count. not (nat_lt n (2 ^ count))) (range_with_len 1 63) in
    (omega arith, omega (arith, within, length-range_with_len 1 63))

-- a state of a sound design has few bits
pub few_state_bits : (d : DesignTree) → IsSound d → sum (state_widths d) ≤ 2240
few_state_bits d sound =
    let variables = map (λ (v : Var). type_bits d.spec v.ty) d.vars in
    let processes = range_with_len 0 (length d.processes) in
    let places = map (λ p. bits_of_number (end_number d p)) processes in
    let last = bits_of_number (1 + length d.processes) in
    let whole : sum (state_widths d) ≡ sum_by (λ (n : ℕ). n) ((variables ++ places) ++ last ∷ []) = refl in
    omega (
      arith,
      whole,
      sum_by-append (λ (n : ℕ). n) (variables ++ places) (last ∷ []),
      sum_by-append (λ (n : ℕ). n) variables places,
      sum-map (λ (v : Var). type_bits d.spec v.ty) d.vars,
      limits.few_bits d sound,
      sum-map (λ p. bits_of_number (end_number d p)) processes,
      sum_by-le (λ p. bits_of_number (end_number d p)) 64 processes (λ k p below. (number_wide (end_number d _)).1),
      length-range_with_len 0 (length d.processes),
      limits.few_processes d sound,
      (number_wide (1 + length d.processes)).1,
    )
