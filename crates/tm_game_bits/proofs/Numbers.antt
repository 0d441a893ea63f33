-- Numbers and their bits by place.
use Rattle.std.proofs.Common.{◌≡◌, ℕ, zero, suc, ◌+◌, ◌^◌, ◌<◌, ◌≤◌, Bool, true, false, List, [], ◌∷◌, ◌++◌, length, get_or, map, refl, sym, ap, ◌∙◌, subst, append_assoc, arith}
use Rattle.std.specs.Prelude.{sum}
use Rattle.std.specs.List.{AllZip, range_with_len}
use Rattle.std.proofs.Math.Nat.{pow-suc}
use Rattle.std.proofs.lemmas.List.{get_or_at, length-append, length_push, map-append}
use Rattle.std.proofs.lemmas.List.FromFn.{length-map-range_with_len}
use Rattle.std.proofs.lemmas.List.Sums.{sum_by-cons}
use Rattle.tm_base.specs.Bits.{bits_of, number_of}
use Rattle.tm_base.proofs.NumberBits.{number_is_its_bits}
use Rattle.tm_sem.specs.StateBits.{bits_of_numbers}
use Rattle.tm_game_bits.proofs.Weights.{range_split}
use Rattle.tm_game_bits.specs.AssignedStates.{numbers_from}

-- ---- one number
pub number_below : (bits : List Bool) → number_of bits < 2 ^ length bits
number_below [] = omega arith
number_below (true ∷ bits) = omega (arith, number_below bits, pow-suc 2 (length bits))
number_below (false ∷ bits) = omega (arith, number_below bits, pow-suc 2 (length bits))

-- bits of one length that have one number are the same
same_bits : (xs ys : List Bool) → length xs ≡ length ys → number_of xs ≡ number_of ys → xs ≡ ys
same_bits [] [] long same = refl
same_bits [] (y ∷ ys) long same = absurd (omega arith)
same_bits (x ∷ xs) [] long same = absurd (omega arith)
same_bits (true ∷ xs) (true ∷ ys) long same =
    let shorter : length xs ≡ length ys = omega arith in
    let power : 2 ^ length xs ≡ 2 ^ length ys = ap (λ k. 2 ^ k) shorter in
    ap (λ zs. true ∷ zs) (same_bits xs ys shorter (omega (arith, power, same)))
same_bits (true ∷ xs) (false ∷ ys) long same =
    let shorter : length xs ≡ length ys = omega arith in
    let power : 2 ^ length xs ≡ 2 ^ length ys = ap (λ k. 2 ^ k) shorter in
    absurd (omega (arith, power, same, number_below ys))
same_bits (false ∷ xs) (true ∷ ys) long same =
    let shorter : length xs ≡ length ys = omega arith in
    let power : 2 ^ length xs ≡ 2 ^ length ys = ap (λ k. 2 ^ k) shorter in
    absurd (omega (arith, power, same, number_below xs))
same_bits (false ∷ xs) (false ∷ ys) long same =
    let shorter : length xs ≡ length ys = omega arith in
    let power : 2 ^ length xs ≡ 2 ^ length ys = ap (λ k. 2 ^ k) shorter in
    ap (λ zs. false ∷ zs) (same_bits xs ys shorter (omega (arith, power, same)))

length-bits_of : (w n : ℕ) → length (bits_of w n) ≡ w
length-bits_of zero n = refl
length-bits_of (suc w) n = omega (arith, length-bits_of w n)

-- the bits of the number of bits are these
pub bits_back : (w : ℕ) (bits : List Bool) → length bits ≡ w → bits_of w (number_of bits) ≡ bits
bits_back w bits long =
    let power : 2 ^ length bits ≡ 2 ^ w = ap (λ k. 2 ^ k) long in
    same_bits (bits_of w (number_of bits)) bits (length-bits_of w (number_of bits) ∙ sym long)
    (number_is_its_bits w (number_of bits) (omega (arith, power, number_below bits)))

-- ---- numbers of widths
pub length-numbers_from : (ws : List ℕ) (bits : ℕ → Bool) (place : ℕ) → length (numbers_from ws bits place) ≡ length ws
length-numbers_from [] bits place = refl
length-numbers_from (w ∷ ws) bits place = ap suc (length-numbers_from ws bits (place + w))

-- their bits are those that they were made of
pub bits_of-numbers_from : (ws : List ℕ) (bits : ℕ → Bool) (place : ℕ) →
    bits_of_numbers ws (numbers_from ws bits place) ≡ map bits (range_with_len place (sum ws))
bits_of-numbers_from [] bits place = refl
bits_of-numbers_from (w ∷ ws) bits place =
    (λ i.
    bits_back w (map bits (range_with_len place w)) (length-map-range_with_len bits place w) i
    ++ bits_of-numbers_from ws bits (place + w) i)
    ∙ sym (map-append bits (range_with_len place w) (range_with_len (place + w) (sum ws)))
    ∙ ap (map bits) (sym (range_split place w (sum ws)))
    ∙ ap (λ k. map bits (range_with_len place k)) (sym (sum_by-cons (λ x. x) w ws))

map_agree : (f g : ℕ → Bool) (place n : ℕ) → ((q : ℕ) → place ≤ q → q < place + n → f q ≡ g q) →
    map f (range_with_len place n) ≡ map g (range_with_len place n)
map_agree f g place zero same = refl
map_agree f g place (suc n) same =
    λ i. same place (omega arith) (omega arith) i
    ∷ map_agree f g (place + 1) n (λ q above below. same q (omega arith) (omega arith)) i

-- numbers depend on the bits of their places alone
pub numbers_agree : (ws : List ℕ) (f g : ℕ → Bool) (place : ℕ) →
    ((q : ℕ) → place ≤ q → q < place + sum ws → f q ≡ g q) → numbers_from ws f place ≡ numbers_from ws g place
numbers_agree [] f g place same = refl
numbers_agree (w ∷ ws) f g place same =
    let all = sum_by-cons (λ x. x) w ws in
    λ i.
    number_of (map_agree f g place w (λ q above below. same q above (omega (arith, all))) i)
    ∷ numbers_agree ws f g (place + w) (λ q above below. same q (omega arith) (omega (arith, all))) i

-- bits that stand in a list are read there
read_here : (front bits back : List Bool) →
    map (λ q. get_or (front ++ (bits ++ back)) q false) (range_with_len (length front) (length bits)) ≡ bits
read_here front [] back = refl
read_here front (b ∷ bits) back =
    let assoc : (front ++ b ∷ []) ++ (bits ++ back) ≡ front ++ (b ∷ (bits ++ back)) =
    append_assoc front (b ∷ []) (bits ++ back) in
    let later = read_here (front ++ b ∷ []) bits back in
    let moved = subst (λ (xs : List Bool).
    map (λ q. get_or xs q false) (range_with_len (length (front ++ b ∷ [])) (length bits)) ≡ bits) assoc later in
    let rest = subst (λ (k : ℕ).
    map (λ q. get_or (front ++ (b ∷ (bits ++ back))) q false) (range_with_len k (length bits)) ≡ bits)
    (length_push front b) moved in
    λ i. get_or_at front b (bits ++ back) false (length front) refl i ∷ rest i

-- a number is of a width
abbrev pub Fits : ℕ → ℕ → Type 0
Fits width n = n < 2 ^ width

-- numbers are those of their bits
pub numbers_back : (front : List Bool) (ws ns : List ℕ) → AllZip Fits ws ns →
    numbers_from ws (λ q. get_or (front ++ bits_of_numbers ws ns) q false) (length front) ≡ ns
numbers_back front [] [] fit = refl
numbers_back front [] (n ∷ ns) fit = absurd fit
numbers_back front (w ∷ ws) [] fit = absurd fit
numbers_back front (w ∷ ws) (n ∷ ns) fit =
    let back = bits_of_numbers ws ns in
    let here = subst (λ (k : ℕ).
    map (λ q. get_or (front ++ (bits_of w n ++ bits_of_numbers ws ns)) q false) (range_with_len (length front) k)
    ≡ bits_of w n) (length-bits_of w n) (read_here front (bits_of w n) (bits_of_numbers ws ns)) in
    let assoc : (front ++ bits_of w n) ++ bits_of_numbers ws ns ≡ front ++ (bits_of w n ++ bits_of_numbers ws ns) =
    append_assoc front (bits_of w n) (bits_of_numbers ws ns) in
    let later = numbers_back (front ++ bits_of w n) ws ns fit.1 in
    let moved = subst (λ (xs : List Bool).
    numbers_from ws (λ q. get_or xs q false) (length (front ++ bits_of w n)) ≡ ns) assoc later in
    let end : length (front ++ bits_of w n) ≡ length front + w =
    length-append front (bits_of w n) ∙ ap (λ k. length front + k) (length-bits_of w n) in
    let rest = subst (λ (k : ℕ).
    numbers_from ws (λ q. get_or (front ++ (bits_of w n ++ bits_of_numbers ws ns)) q false) k ≡ ns) end moved in
    let first = ap number_of here ∙ number_is_its_bits w n fit.0 in
    λ i. first i ∷ rest i

-- numbers that fit one by one
pub fits_by_index : (ws ns : List ℕ) → length ns ≡ length ws →
    ((i : ℕ) → i < length ns → get_or ns i 0 < 2 ^ get_or ws i 0) → AllZip Fits ws ns
fits_by_index [] [] long each = tt
fits_by_index [] (n ∷ ns) long each = absurd (omega arith)
fits_by_index (w ∷ ws) [] long each = absurd (omega arith)
fits_by_index (w ∷ ws) (n ∷ ns) long each =
    (each 0 (omega arith), fits_by_index ws ns (omega arith) (λ i below. each (suc i) (omega arith)))
