-- Numbers as lists of bits.
use Rattle.std.proofs.Common.{◌≡◌, ℕ, zero, suc, ◌+◌, ◌*◌, ◌/◌, ◌%◌, ◌^◌, ◌<◌, ◌≤◌, Bool, true, false, List, [], ◌∷◌, ◌++◌, length, refl, sym, ap, ◌∙◌, arith}
use Rattle.std.specs.Prelude.{reverse, bit_and, bit_or, bit_xor, ◌==◌, ◌&&◌, ◌||◌, not, if◌then◌else◌}
use Rattle.std.proofs.lemmas.List.{reverse-append, length-append}
use Rattle.std.proofs.lemmas.Nat.{mod-pow-add, shr-shr, and_block, or_block, xor_block}
use Rattle.std.proofs.Math.Nat.{pow-suc}
use Rattle.tm_base.specs.Arithmetic.{bit}
use Rattle.tm_base.specs.Bits.{number_of, number_from_lowest}

bit_at_most : (b : Bool) → bit b ≤ 1
bit_at_most true = omega arith
bit_at_most false = omega arith

double_power : (bits : List Bool) (b : Bool) → 2 ^ length (bits ++ b ∷ []) ≡ 2 * 2 ^ length bits
double_power bits b =
    let more : length (bits ++ b ∷ []) ≡ suc (length bits) = omega (arith, length-append bits (b ∷ [])) in
    ap (λ k. 2 ^ k) more ∙ omega (arith, pow-suc 2 (length bits))

-- a number of one bit more at its low end
pub number_of-append : (bits : List Bool) (b : Bool) → number_of (bits ++ b ∷ []) ≡ bit b + 2 * number_of bits
number_of-append [] true = omega arith
number_of-append [] false = omega arith
number_of-append (true ∷ bits) b = omega (arith, number_of-append bits b, double_power bits b)
number_of-append (false ∷ bits) b = omega (arith, number_of-append bits b, double_power bits b)

-- the number of the bits in the other order
pub number_of-reverse : (bits : List Bool) → number_of (reverse bits) ≡ number_from_lowest bits
number_of-reverse [] = refl
number_of-reverse (b ∷ bits) =
    ap number_of (reverse-append (b ∷ []) bits)
    ∙ number_of-append (reverse bits) b
    ∙ ap (λ n. bit b + 2 * n) (number_of-reverse bits)

-- a number is below 2 to the count of its bits
pub number_from_lowest-below : (bits : List Bool) → number_from_lowest bits < 2 ^ length bits
number_from_lowest-below [] = omega arith
number_from_lowest-below (b ∷ bits) =
    omega (arith, number_from_lowest-below bits, bit_at_most b, pow-suc 2 (length bits))

-- ---- a number by its lowest bit
-- a remainder by twice as much
mod-double : (r n m : ℕ) → r < 2 → (r + 2 * n) % 2 ^ suc m ≡ r + 2 * (n % 2 ^ m)
mod-double r n m h =
    let half : (r + 2 * n) / 2 ≡ n = omega arith in
    let odd : (r + 2 * n) % 2 ≡ r = omega arith in
    let one_more : suc m ≡ m + 1 = omega arith in
    ap (λ k. (r + 2 * n) % 2 ^ k) one_more
    ∙ mod-pow-add (r + 2 * n) m 1
    ∙ (λ k. half k % 2 ^ m * 2 + odd k)
    ∙ omega arith

pub mod-bit : (b : Bool) (n m : ℕ) → (bit b + 2 * n) % 2 ^ suc m ≡ bit b + 2 * (n % 2 ^ m)
mod-bit b n m = mod-double (bit b) n m (omega (arith, bit_at_most b))

-- a number without its lowest bits
pub div-bit : (b : Bool) (n k : ℕ) → (bit b + 2 * n) / 2 ^ suc k ≡ n / 2 ^ k
div-bit b n k =
    let one_more : 1 + k ≡ suc k = omega arith in
    let half : (bit b + 2 * n) / 2 ≡ n = omega (arith, bit_at_most b) in
    ap (λ j. (bit b + 2 * n) / 2 ^ j) (sym one_more)
    ∙ sym (shr-shr (bit b + 2 * n) 1 k)
    ∙ ap (λ m. m / 2 ^ k) half

-- ---- bit by bit
block : (b : Bool) (n : ℕ) → n * 2 + bit b ≡ bit b + 2 * n
block b n = omega arith

bit_small : (b : Bool) → bit b < 2 ^ 1
bit_small b = omega (arith, bit_at_most b)

bit_and-bit : (x y : Bool) → bit_and (bit x) (bit y) ≡ bit (x && y)
bit_and-bit true true = refl
bit_and-bit true false = refl
bit_and-bit false true = refl
bit_and-bit false false = refl

bit_or-bit : (x y : Bool) → bit_or (bit x) (bit y) ≡ bit (x || y)
bit_or-bit true true = refl
bit_or-bit true false = refl
bit_or-bit false true = refl
bit_or-bit false false = refl

bit_xor-bit : (x y : Bool) → bit_xor (bit x) (bit y) ≡ bit (if x then not y else y)
bit_xor-bit true true = refl
bit_xor-bit true false = refl
bit_xor-bit false true = refl
bit_xor-bit false false = refl

pub bit_and-lowest : (x y : Bool) (a b : ℕ) → bit_and (bit x + 2 * a) (bit y + 2 * b) ≡ bit (x && y) + 2 * bit_and a b
bit_and-lowest x y a b =
    (λ k. bit_and (sym (block x a) k) (sym (block y b) k))
    ∙ and_block 1 a b (bit x) (bit y) (bit_small x) (bit_small y)
    ∙ ap (λ r. bit_and a b * 2 + r) (bit_and-bit x y)
    ∙ block (x && y) (bit_and a b)

pub bit_or-lowest : (x y : Bool) (a b : ℕ) → bit_or (bit x + 2 * a) (bit y + 2 * b) ≡ bit (x || y) + 2 * bit_or a b
bit_or-lowest x y a b =
    (λ k. bit_or (sym (block x a) k) (sym (block y b) k))
    ∙ or_block 1 a b (bit x) (bit y) (bit_small x) (bit_small y)
    ∙ ap (λ r. bit_or a b * 2 + r) (bit_or-bit x y)
    ∙ block (x || y) (bit_or a b)

pub bit_xor-lowest : (x y : Bool) (a b : ℕ) →
    bit_xor (bit x + 2 * a) (bit y + 2 * b) ≡ bit (if x then not y else y) + 2 * bit_xor a b
bit_xor-lowest x y a b =
    (λ k. bit_xor (sym (block x a) k) (sym (block y b) k))
    ∙ xor_block 1 a b (bit x) (bit y) (bit_small x) (bit_small y)
    ∙ ap (λ r. bit_xor a b * 2 + r) (bit_xor-bit x y)
    ∙ block (if x then not y else y) (bit_xor a b)

-- a number has its remainder by 2 as its lowest bit
pub lowest_bit : (n : ℕ) → bit (n % 2 == 1) + 2 * (n / 2) ≡ n
lowest_bit n = let is : bit (n % 2 == 1) ≡ n % 2 = remainder (n % 2) (omega arith) in omega arith where
  remainder : (r : ℕ) → r < 2 → bit (r == 1) ≡ r
  remainder zero h = refl
  remainder (suc zero) h = refl
  remainder (suc (suc r)) h = absurd (omega arith)
