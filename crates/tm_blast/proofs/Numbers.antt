-- What rows of cells, comparisons and placed bits do to the numbers that their bits are.
use Rattle.std.proofs.Common.{◌≡◌, ℕ, zero, suc, ◌+◌, ◌-◌, ◌*◌, ◌/◌, ◌%◌, ◌^◌, ◌<◌, ◌≤◌, Bool, true, false, List, [], ◌∷◌, length, map, drop, refl, sym, ap, ◌∙◌, ⊎_elim, arith}
use Rattle.std.proofs.lemmas.Bool.{cases_lt, cases_eq, lt-ltb, le-ltb, eq-eqb, ne_eqb}
use Rattle.std.specs.Prelude.{bit_and, bit_or, bit_xor, ◌==◌, ◌&&◌, ◌||◌, not, nat_lt, if◌then◌else◌}
use Rattle.std.proofs.Math.Nat.{pow-suc, mod-eq_of_lt}
use Rattle.std.proofs.lemmas.Nat.{pow_pos, shr_le}
use Rattle.tm_base.specs.Arithmetic.{bit}
use Rattle.tm_base.specs.Bits.{number_from_lowest}
use Rattle.tm_base.proofs.BitLists.{mod-bit, div-bit, lowest_bit, bit_and-lowest, bit_or-lowest, bit_xor-lowest}
use Rattle.tm_ddops.specs.Connective.{xor}
use Rattle.tm_blast.specs.declared.cell.Cell.{Cell}
use Rattle.tm_blast.specs.declared.cell.Cell.TheVariants.{And, Or, Xor, Sum, Choice}
use Rattle.tm_blast.specs.declared.compare.Comparison.TheVariants.{Equal, Less}
use Rattle.tm_blast.specs.Cell.{cell_bit, cell_next, rippled, compared_bit, compared, placed, bits_of}

-- ---- rows of cells
pub length-rippled : (cell : Cell) (c : Bool) (xs ys : List Bool) → length xs ≡ length ys →
    length (rippled cell c xs ys) ≡ length xs
length-rippled cell c [] ys same = refl
length-rippled cell c (x ∷ xs) [] same = absurd (omega arith)
length-rippled cell c (x ∷ xs) (y ∷ ys) same = ap suc (length-rippled cell (cell_next cell c x y) xs ys (omega arith))

pub number-And : (c : Bool) (xs ys : List Bool) → length xs ≡ length ys →
    number_from_lowest (rippled And c xs ys) ≡ bit_and (number_from_lowest xs) (number_from_lowest ys)
number-And c [] [] same = refl
number-And c [] (y ∷ ys) same = absurd (omega arith)
number-And c (x ∷ xs) [] same = absurd (omega arith)
number-And c (x ∷ xs) (y ∷ ys) same =
    ap (λ n. bit (x && y) + 2 * n) (number-And c xs ys (omega arith))
    ∙ sym (bit_and-lowest x y (number_from_lowest xs) (number_from_lowest ys))

pub number-Or : (c : Bool) (xs ys : List Bool) → length xs ≡ length ys →
    number_from_lowest (rippled Or c xs ys) ≡ bit_or (number_from_lowest xs) (number_from_lowest ys)
number-Or c [] [] same = refl
number-Or c [] (y ∷ ys) same = absurd (omega arith)
number-Or c (x ∷ xs) [] same = absurd (omega arith)
number-Or c (x ∷ xs) (y ∷ ys) same =
    ap (λ n. bit (x || y) + 2 * n) (number-Or c xs ys (omega arith))
    ∙ sym (bit_or-lowest x y (number_from_lowest xs) (number_from_lowest ys))

pub number-Xor : (c : Bool) (xs ys : List Bool) → length xs ≡ length ys →
    number_from_lowest (rippled Xor c xs ys) ≡ bit_xor (number_from_lowest xs) (number_from_lowest ys)
number-Xor c [] [] same = refl
number-Xor c [] (y ∷ ys) same = absurd (omega arith)
number-Xor c (x ∷ xs) [] same = absurd (omega arith)
number-Xor c (x ∷ xs) (y ∷ ys) same =
    ap (λ n. bit (xor x y) + 2 * n) (number-Xor c xs ys (omega arith))
    ∙ sym (bit_xor-lowest x y (number_from_lowest xs) (number_from_lowest ys))

pub number-Choice : (c : Bool) (xs ys : List Bool) → length xs ≡ length ys →
    number_from_lowest (rippled Choice c xs ys) ≡ (if c then number_from_lowest xs else number_from_lowest ys)
number-Choice true [] [] same = refl
number-Choice false [] [] same = refl
number-Choice c [] (y ∷ ys) same = absurd (omega arith)
number-Choice c (x ∷ xs) [] same = absurd (omega arith)
number-Choice true (x ∷ xs) (y ∷ ys) same = ap (λ n. bit x + 2 * n) (number-Choice true xs ys (omega arith))
number-Choice false (x ∷ xs) (y ∷ ys) same = ap (λ n. bit y + 2 * n) (number-Choice false xs ys (omega arith))

-- a full adder: two bits and a carry, as the bit and the carry that they give
full_adder : (c x y : Bool) (a b : ℕ) →
    bit (cell_bit Sum c x y) + 2 * (a + b + bit (cell_next Sum c x y)) ≡ bit x + 2 * a + (bit y + 2 * b) + bit c
full_adder true true true a b = omega arith
full_adder true true false a b = omega arith
full_adder true false true a b = omega arith
full_adder true false false a b = omega arith
full_adder false true true a b = omega arith
full_adder false true false a b = omega arith
full_adder false false true a b = omega arith
full_adder false false false a b = omega arith

pub number-Sum : (c : Bool) (xs ys : List Bool) → length xs ≡ length ys →
    number_from_lowest (rippled Sum c xs ys)
    ≡ (number_from_lowest xs + number_from_lowest ys + bit c) % 2 ^ length xs
number-Sum c [] [] same = omega arith
number-Sum c [] (y ∷ ys) same = absurd (omega arith)
number-Sum c (x ∷ xs) [] same = absurd (omega arith)
number-Sum c (x ∷ xs) (y ∷ ys) same =
    let a = number_from_lowest xs in
    let b = number_from_lowest ys in
    let carry = cell_next Sum c x y in
    ap (λ n. bit (cell_bit Sum c x y) + 2 * n) (number-Sum carry xs ys (omega arith))
    ∙ sym (mod-bit (cell_bit Sum c x y) (a + b + bit carry) (length xs))
    ∙ ap (λ n. n % 2 ^ suc (length xs)) (full_adder c x y a b)

-- ---- each bit turned over
opposite : (xs : List Bool) → number_from_lowest (map not xs) + number_from_lowest xs + 1 ≡ 2 ^ length xs
opposite [] = omega arith
opposite (true ∷ xs) = omega (arith, opposite xs, pow-suc 2 (length xs))
opposite (false ∷ xs) = omega (arith, opposite xs, pow-suc 2 (length xs))

pub number-not : (xs : List Bool) → number_from_lowest (map not xs) ≡ 2 ^ length xs - 1 - number_from_lowest xs
number-not xs = omega (arith, opposite xs)

-- ---- comparisons
not_below : (c d : ℕ) → (c < d → ⊥) → d ≤ c
not_below c d never = ⊎_elim (λ h. absurd (never h)) (λ h. h) (cases_lt c d)

both_ways : (a b : ℕ) → a < b → b ≤ a → ⊥
both_ways a b h k = omega arith

same_test : (a b c d : ℕ) → (a < b → c < d) → (c < d → a < b) → nat_lt a b ≡ nat_lt c d
same_test a b c d there back =
    ⊎_elim (λ h. lt-ltb a b h ∙ sym (lt-ltb c d (there h)))
    (λ h. le-ltb a b h ∙ sym (le-ltb c d (not_below c d (λ k. both_ways a b (back k) h)))) (cases_lt a b)

less_bit : (c x y : Bool) (a b : ℕ) →
    nat_lt a (b + bit (compared_bit Less c x y)) ≡ nat_lt (bit x + 2 * a) (bit y + 2 * b + bit c)
less_bit true true true a b = same_test _ _ _ _ (λ h. omega arith) (λ h. omega arith)
less_bit true true false a b = same_test _ _ _ _ (λ h. omega arith) (λ h. omega arith)
less_bit true false true a b = same_test _ _ _ _ (λ h. omega arith) (λ h. omega arith)
less_bit true false false a b = same_test _ _ _ _ (λ h. omega arith) (λ h. omega arith)
less_bit false true true a b = same_test _ _ _ _ (λ h. omega arith) (λ h. omega arith)
less_bit false true false a b = same_test _ _ _ _ (λ h. omega arith) (λ h. omega arith)
less_bit false false true a b = same_test _ _ _ _ (λ h. omega arith) (λ h. omega arith)
less_bit false false false a b = same_test _ _ _ _ (λ h. omega arith) (λ h. omega arith)

less_or : (c : Bool) (xs ys : List Bool) → length xs ≡ length ys →
    compared Less c xs ys ≡ nat_lt (number_from_lowest xs) (number_from_lowest ys + bit c)
less_or true [] [] same = refl
less_or false [] [] same = refl
less_or c [] (y ∷ ys) same = absurd (omega arith)
less_or c (x ∷ xs) [] same = absurd (omega arith)
less_or c (x ∷ xs) (y ∷ ys) same =
    less_or (compared_bit Less c x y) xs ys (omega arith)
    ∙ less_bit c x y (number_from_lowest xs) (number_from_lowest ys)

pub test-Less : (xs ys : List Bool) → length xs ≡ length ys →
    compared Less false xs ys ≡ nat_lt (number_from_lowest xs) (number_from_lowest ys)
test-Less xs ys same =
    let e : number_from_lowest ys + 0 ≡ number_from_lowest ys = omega arith in
    less_or false xs ys same ∙ ap (nat_lt (number_from_lowest xs)) e

same_equality : (a b c d : ℕ) → (a ≡ b → c ≡ d) → (c ≡ d → a ≡ b) → (a == b) ≡ (c == d)
same_equality a b c d there back =
    ⊎_elim (λ h. eq-eqb a b h ∙ sym (eq-eqb c d (there h)))
    (λ h. ne_eqb a b h ∙ sym (ne_eqb c d (λ k. h (back k)))) (cases_eq a b)

never_equal : (c d : ℕ) → (c ≡ d → ⊥) → false ≡ (c == d)
never_equal c d never = sym (ne_eqb c d never)

equal_bit : (x y : Bool) (a b : ℕ) →
    (compared_bit Equal true x y && (a == b)) ≡ ((bit x + 2 * a) == (bit y + 2 * b))
equal_bit true true a b = same_equality a b _ _ (λ h. omega arith) (λ h. omega arith)
equal_bit true false a b = never_equal _ _ (λ h. omega arith)
equal_bit false true a b = never_equal _ _ (λ h. omega arith)
equal_bit false false a b = same_equality a b _ _ (λ h. omega arith) (λ h. omega arith)

unequal : (xs ys : List Bool) → compared Equal false xs ys ≡ false
unequal [] ys = refl
unequal (x ∷ xs) [] = refl
unequal (x ∷ xs) (y ∷ ys) = unequal xs ys

equal_or : (c : Bool) (xs ys : List Bool) → length xs ≡ length ys →
    compared Equal c xs ys ≡ (c && (number_from_lowest xs == number_from_lowest ys))
equal_or false xs ys same = unequal xs ys
equal_or true [] [] same = refl
equal_or true [] (y ∷ ys) same = absurd (omega arith)
equal_or true (x ∷ xs) [] same = absurd (omega arith)
equal_or true (x ∷ xs) (y ∷ ys) same =
    equal_or (compared_bit Equal true x y) xs ys (omega arith)
    ∙ equal_bit x y (number_from_lowest xs) (number_from_lowest ys)

pub test-Equal : (xs ys : List Bool) → length xs ≡ length ys →
    compared Equal true xs ys ≡ (number_from_lowest xs == number_from_lowest ys)
test-Equal xs ys same = equal_or true xs ys same

-- ---- bits that are placed
doubled : (n low : ℕ) → 0 + 2 * (n * 2 ^ low) ≡ n * 2 ^ suc low
doubled n low =
    let e : 0 + 2 * (n * 2 ^ low) ≡ n * (2 ^ low * 2) = omega arith in
    e ∙ ap (λ p. n * p) (sym (pow-suc 2 low))

pub number-placed : (low width : ℕ) (xs : List Bool) →
    number_from_lowest (placed low width xs) ≡ number_from_lowest xs * 2 ^ low % 2 ^ width
number-placed low zero xs = omega arith
number-placed zero (suc width) [] =
    let none : 0 % 2 ^ width ≡ 0 = mod-eq_of_lt (pow_pos width) in
    ap (λ n. 0 + 2 * n) (number-placed zero width [] ∙ none) ∙ sym (mod-eq_of_lt (pow_pos (suc width)))
number-placed zero (suc width) (b ∷ xs) =
    let n = number_from_lowest xs in
    let e : n * 1 ≡ n = omega arith in
    let f : (bit b + 2 * n) * 1 ≡ bit b + 2 * n = omega arith in
    ap (λ m. bit b + 2 * m) (number-placed zero width xs ∙ ap (λ m. m % 2 ^ width) e)
    ∙ sym (mod-bit b n width)
    ∙ ap (λ m. m % 2 ^ suc width) (sym f)
number-placed (suc low) (suc width) xs =
    let n = number_from_lowest xs in
    let e : 0 + 2 * (n * 2 ^ low) ≡ n * 2 ^ suc low = doubled n low in
    ap (λ m. 0 + 2 * m) (number-placed low width xs)
    ∙ sym (mod-bit false (n * 2 ^ low) width)
    ∙ ap (λ m. m % 2 ^ suc width) e

pub number-bits_of : (width n : ℕ) → number_from_lowest (bits_of width n) ≡ n % 2 ^ width
number-bits_of zero n = omega arith
number-bits_of (suc width) n =
    ap (λ m. bit (n % 2 == 1) + 2 * m) (number-bits_of width (n / 2))
    ∙ sym (mod-bit (n % 2 == 1) (n / 2) width)
    ∙ ap (λ m. m % 2 ^ suc width) (lowest_bit n)

pub length-bits_of : (width n : ℕ) → length (bits_of width n) ≡ width
length-bits_of zero n = refl
length-bits_of (suc width) n = ap suc (length-bits_of width (n / 2))

pub number-drop : (k : ℕ) (xs : List Bool) → number_from_lowest (drop k xs) ≡ number_from_lowest xs / 2 ^ k
number-drop zero xs = omega arith
number-drop (suc k) [] = omega (arith, shr_le 0 (suc k))
number-drop (suc k) (b ∷ xs) = number-drop k xs ∙ sym (div-bit b (number_from_lowest xs) k)
