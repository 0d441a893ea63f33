-- Numbers that are written as bits.
use Rattle.std.proofs.Common.{◌≡◌, ◌⊎◌, ℕ, zero, suc, ◌+◌, ◌-◌, ◌*◌, ◌/◌, ◌%◌, ◌^◌, ◌<◌, ◌≤◌, ◌==◌, ◌&&◌, Bool, true, false, List, [], ◌∷◌, ◌++◌, length, map, inl, inr, refl, sym, ap, ◌∙◌, subst, append_assoc, arith, zero-add}
use Rattle.std.specs.Prelude.{nat_eq, nat_le, nat_lt}
use Rattle.std.specs.List.{AllZip, flat_map, list_all, range_with_len, zip}
use Rattle.std.proofs.Math.Nat.{one-le-pow, pow-le-pow_right}
use Rattle.std.proofs.lemmas.Bool.{eq-eqb, eqb-true, lt-ltb, ltb-true, ltb-false}
use Rattle.std.proofs.lemmas.Bool.Decides.{nat_tests}
use Rattle.std.proofs.lemmas.List.{append-nil}
use Rattle.std.proofs.lemmas.Nat.{shr_below}
use Rattle.tm_game_bits.proofs.Numbers.{Fits}
use Rattle.tm_base.specs.Bits.{bits_of}
use Rattle.tm_dd.specs.Table.{assignment}
use Rattle.tm_game_bits.proofs.Sets.{both_true}
use Rattle.tm_game.specs.Inner.Called.{have_widths}

-- ---- a number
-- one of which nothing is left behind its low bits has no others
no_more : (n k : ℕ) → n / 2 ^ k ≡ 0 → n < 2 ^ k
no_more n k none =
    let positive : 1 ≤ 2 ^ k = one-le-pow k 2 (omega arith) in
    let product : 2 ^ k * (n / 2 ^ k) ≡ 2 ^ k * 0 = ap (λ q. 2 ^ k * q) none in
    omega (arith, product, positive)

none_left : (n k : ℕ) → n < 2 ^ k → n / 2 ^ k ≡ 0
none_left n k less =
    let below : n / 2 ^ k < 2 ^ 0 = shr_below n 0 k (subst (λ j. n < 2 ^ j) (sym (zero-add k)) less) in omega arith

pub width_test : (n k : ℕ) → nat_eq (n / 2 ^ k) 0 ≡ nat_lt n (2 ^ k)
width_test n k = by (nat_lt n (2 ^ k)) refl
  where
    some : (q : ℕ) → n / 2 ^ k ≡ q → 2 ^ k ≤ n → nat_eq q 0 ≡ false
    some zero none more = let less = no_more n k none in absurd (omega (arith, less))
    some (suc q) is more = grind (arith, nat_tests)

    by : (b : Bool) → nat_lt n (2 ^ k) ≡ b → nat_eq (n / 2 ^ k) 0 ≡ b
    by true is = ap (λ q. nat_eq q 0) (none_left n k (ltb-true n (2 ^ k) is))
    by false is = some (n / 2 ^ k) refl (ltb-false n (2 ^ k) is)

-- a number of 64 bits is below each greater power
wide : (n k : ℕ) → n < 2 ^ 64 → 64 ≤ k → n < 2 ^ k
wide n k less above =
    let two : 0 < 2 = omega arith in
    let more : 2 ^ 64 ≤ 2 ^ k = pow-le-pow_right two above in
    omega arith

pub wide_test : (n k : ℕ) → n < 2 ^ 64 → 64 ≤ k → nat_le 64 k ≡ nat_lt n (2 ^ k)
wide_test n k less above = let more = wide n k less above in grind (arith, nat_tests)

-- and has no bits there
pub no_bit : (n k : ℕ) → n < 2 ^ 64 → 64 ≤ k → nat_lt k 64 ≡ (n / 2 ^ k % 2 == 1)
no_bit n k less above =
    let fails : nat_lt k 64 ≡ false = grind (arith, nat_tests) in
    fails ∙ sym (ap (λ q. q % 2 == 1) (none_left n k (wide n k less above)))

-- one more bit
pub bit_written : (w n passed : ℕ) (b : Bool) (olds news whole : List Bool) → passed < w →
    b ≡ (n / 2 ^ (w - 1 - passed) % 2 == 1) → news ≡ olds ++ b ∷ [] → olds ++ bits_of (w - passed) n ≡ whole →
    news ++ bits_of (w - (passed + 1)) n ≡ whole
bit_written w n passed b olds news whole below is pushes so_far =
    let less : w - (passed + 1) ≡ w - 1 - passed = omega arith in
    let more : suc (w - 1 - passed) ≡ w - passed = omega arith in
    ap (λ xs. xs ++ bits_of (w - (passed + 1)) n) pushes
    ∙ append_assoc olds (b ∷ []) (bits_of (w - (passed + 1)) n)
    ∙ (λ i. olds ++ is i ∷ bits_of (less i) n)
    ∙ ap (λ k. olds ++ bits_of k n) more
    ∙ so_far

-- all bits
pub bits_written : (w n passed : ℕ) (bits whole : List Bool) → w ≤ passed → bits ++ bits_of (w - passed) n ≡ whole →
    bits ≡ whole
bits_written w n passed bits whole past is =
    let none : w - passed ≡ 0 = omega arith in
    sym (append-nil bits) ∙ ap (λ k. bits ++ bits_of k n) (sym none) ∙ is

-- ---- bits in order
pub bit_put : (bits : List Bool) (count place : ℕ) (b : Bool) (olds news whole : List Bool) → place < count →
    b ≡ assignment bits place → news ≡ olds ++ b ∷ [] →
    olds ++ map (assignment bits) (range_with_len place (count - place)) ≡ whole →
    news ++ map (assignment bits) (range_with_len (place + 1) (count - (place + 1))) ≡ whole
bit_put bits count place b olds news whole below is pushes so_far =
    let more : suc (count - (place + 1)) ≡ count - place = omega arith in
    ap (λ xs. xs ++ map (assignment bits) (range_with_len (place + 1) (count - (place + 1)))) pushes
    ∙ append_assoc olds (b ∷ []) (map (assignment bits) (range_with_len (place + 1) (count - (place + 1))))
    ∙ (λ i. olds ++ is i ∷ map (assignment bits) (range_with_len (place + 1) (count - (place + 1))))
    ∙ ap (λ n. olds ++ map (assignment bits) (range_with_len place n)) more
    ∙ so_far

pub bits_put : (bits : List Bool) (count place : ℕ) (values whole : List Bool) → count ≤ place →
    values ++ map (assignment bits) (range_with_len place (count - place)) ≡ whole → values ≡ whole
bits_put bits count place values whole past is =
    let none : count - place ≡ 0 = omega arith in
    sym (append-nil values) ∙ ap (λ n. values ++ map (assignment bits) (range_with_len place n)) (sym none) ∙ is

-- ---- some numbers
zip_empty : {A B C : Type 0} (f : A × B → List C) (xs : List A) (ys : List B) → (xs ≡ []) ⊎ (ys ≡ []) →
    flat_map f (zip xs ys) ≡ []
zip_empty f xs ys (inl e) = ap (λ zs. flat_map f (zip zs ys)) e
zip_empty f [] ys (inr e) = refl
zip_empty f (x ∷ xs) ys (inr e) = ap (λ zs. flat_map f (zip (x ∷ xs) zs)) e

-- where one of two lists ended, nothing of their pairs is left
pub zip_ended : {A B C : Type 0} (f : A × B → List C) (xs : List A) (ys : List B) (line all : List C) →
    (xs ≡ []) ⊎ (ys ≡ []) → line ++ flat_map f (zip xs ys) ≡ all → line ≡ all
zip_ended f xs ys line all ended is = sym (append-nil line) ∙ ap (λ zs. line ++ zs) (sym (zip_empty f xs ys ended)) ∙ is

-- ---- whether numbers have widths
abbrev pub has_its_width : ℕ × ℕ → Bool
has_its_width p = nat_lt p.1 (2 ^ p.0)

same_count : (widths numbers : List ℕ) → length widths ≡ length numbers →
    list_all has_its_width (zip widths numbers) ≡ have_widths widths numbers
same_count widths numbers same = by (nat_eq (length widths) (length numbers)) refl
  where
    by : (b : Bool) → nat_eq (length widths) (length numbers) ≡ b →
        list_all has_its_width (zip widths numbers) ≡ (b && list_all has_its_width (zip widths numbers))
    by true is = refl
    by false is = let test : nat_eq (length widths) (length numbers) ≡ true = grind (arith, nat_tests) in absurd (cc)

pub none_fails : (ws ns widths numbers : List ℕ) → (ws ≡ []) ⊎ (ns ≡ []) → length widths ≡ length numbers →
    list_all has_its_width (zip ws ns) ≡ list_all has_its_width (zip widths numbers) →
    true ≡ have_widths widths numbers
none_fails ws ns widths numbers ended same is = none ws ns ended ∙ is ∙ same_count widths numbers same
  where
    none : (ws ns : List ℕ) → (ws ≡ []) ⊎ (ns ≡ []) → true ≡ list_all has_its_width (zip ws ns)
    none ws ns (inl e) = ap (λ zs. list_all has_its_width (zip zs ns)) (sym e)
    none [] ns (inr e) = refl
    none (w ∷ ws) ns (inr e) = ap (λ zs. list_all has_its_width (zip (w ∷ ws) zs)) (sym e)

-- numbers that have widths fit them, one by one
each_of : (ws ns : List ℕ) → length ws ≡ length ns → list_all has_its_width (zip ws ns) ≡ true → AllZip Fits ws ns
each_of [] [] long all = tt
each_of [] (n ∷ ns) long all = absurd (omega arith)
each_of (w ∷ ws) [] long all = absurd (omega arith)
each_of (w ∷ ws) (n ∷ ns) long all =
    let parts : (nat_lt n (2 ^ w) ≡ true) × (list_all has_its_width (zip ws ns) ≡ true) =
    both_true (nat_lt n (2 ^ w)) (list_all has_its_width (zip ws ns)) all in (
      ltb-true n (2 ^ w) parts.0,
      each_of ws ns (omega arith) parts.1,
    )

pub each_fits : (widths numbers : List ℕ) → have_widths widths numbers ≡ true → AllZip Fits widths numbers
each_fits widths numbers has =
    let parts : (nat_eq (length widths) (length numbers) ≡ true)
    × (list_all has_its_width (zip widths numbers) ≡ true) =
    both_true (nat_eq (length widths) (length numbers)) (list_all has_its_width (zip widths numbers)) has in
    each_of widths numbers (eqb-true (length widths) (length numbers) parts.0) parts.1

pub have_all : (widths numbers : List ℕ) → AllZip Fits widths numbers → have_widths widths numbers ≡ true
have_all widths numbers fit =
    let same : nat_eq (length widths) (length numbers) ≡ true =
    eq-eqb (length widths) (length numbers) (long widths numbers fit) in
    let every = each widths numbers fit in
    λ i. same i && every i
  where
    long : (ws ns : List ℕ) → AllZip Fits ws ns → length ws ≡ length ns
    long [] [] all = refl
    long [] (n ∷ ns) all = absurd all
    long (w ∷ ws) [] all = absurd all
    long (w ∷ ws) (n ∷ ns) all = ap suc (long ws ns all.1)

    each : (ws ns : List ℕ) → AllZip Fits ws ns → list_all has_its_width (zip ws ns) ≡ true
    each [] [] all = refl
    each [] (n ∷ ns) all = refl
    each (w ∷ ws) [] all = refl
    each (w ∷ ws) (n ∷ ns) all =
        let this : nat_lt n (2 ^ w) ≡ true = lt-ltb n (2 ^ w) all.0 in
        let rest = each ws ns all.1 in
        λ i. this i && rest i
