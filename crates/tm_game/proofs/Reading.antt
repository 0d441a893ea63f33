-- Numbers that are read from bits.
use Rattle.std.proofs.Common.{◌≡◌, ℕ, zero, suc, ◌+◌, ◌-◌, ◌*◌, ◌^◌, ◌<◌, ◌≤◌, Bool, true, false, List, [], ◌∷◌, ◌++◌, length, get_or, map, take, drop, refl, sym, ap, ◌∙◌, subst, append_assoc, arith}
use Rattle.std.specs.Prelude.{All, sum}
use Rattle.std.specs.List.{range_with_len}
use Rattle.std.proofs.Math.Nat.{pow-le-pow_right}
use Rattle.std.proofs.lemmas.List.{append-nil, drop_all, drop_more, drop-drop, get_or-drop, get_or-take, get_or_default, length-drop, length-take-le, take-append-drop, take_more}
use Rattle.std.proofs.lemmas.List.FromFn.{length-map-range_with_len}
use Rattle.std.proofs.lemmas.List.Sums.{sum_by-drop_more}
use Rattle.tm_game_bits.specs.AssignedStates.{numbers_from}
use Rattle.tm_game_bits.proofs.Numbers.{length-numbers_from, number_below}
use Rattle.tm_base.specs.Arithmetic.{bit}
use Rattle.tm_base.specs.Bits.{number_of}
use Rattle.tm_base.proofs.BitLists.{number_of-append}
use Rattle.tm_dd.specs.Table.{assignment}
use Rattle.tm_sem.specs.State.{StateData}
use Rattle.tm_sem.specs.StateBits.{state_numbers}
use mir.Val.{bool_byte}

-- ---- one number
-- a truth as a word is its bit
pub bit_of : (b : Bool) → bool_byte b ≡ bit b
bit_of true = refl
bit_of false = refl

-- one more bit
pub number_more : (bits : List Bool) (i n : ℕ) (b : Bool) → i < length bits → b ≡ get_or bits i false →
    n ≡ number_of (take i bits) → 2 * n + bit b ≡ number_of (take (i + 1) bits)
number_more bits i n b below is so_far =
    let read : number_of (take (i + 1) bits) ≡ bit b + 2 * number_of (take i bits) =
    ap number_of (take_more bits i false below)
    ∙ number_of-append (take i bits) (get_or bits i false)
    ∙ ap (λ c. bit c + 2 * number_of (take i bits)) (sym is) in
    omega arith

-- it is a number of 64 bits
pub number_small : (bits : List Bool) (i : ℕ) → i ≤ length bits → length bits ≤ 64 →
    number_of (take i bits) < 2 ^ 64
number_small bits i within few =
    let long = length-take-le i bits within in
    let two : 0 < 2 = omega arith in
    let wide : length (take i bits) ≤ 64 = omega arith in
    let power : 2 ^ length (take i bits) ≤ 2 ^ 64 = pow-le-pow_right two wide in
    omega (arith, number_below (take i bits))

-- ---- numbers one behind the other
-- bits of a slice are those at its places
read_slice : (bits : List Bool) (place w : ℕ) → place + w ≤ length bits →
    map (assignment bits) (range_with_len place w) ≡ take w (drop place bits)
read_slice bits place zero within = refl
read_slice bits place (suc w) within =
    ap (λ xs. get_or bits place false ∷ xs) (read_slice bits (place + 1) w (omega arith))
    ∙ sym (ap (take (suc w)) (drop_more bits place false (omega arith)))

-- the numbers that were read, and behind them those that are left
pub record AreRead (bits : List Bool) (widths numbers : List ℕ) (place i : ℕ) : Type 0 where
  pub offset : place + sum (drop i widths) ≡ sum widths
  pub rest : numbers ++ numbers_from (drop i widths) (assignment bits) place
      ≡ numbers_from widths (assignment bits) 0

pub read_within : (bits : List Bool) (widths numbers : List ℕ) (place i width : ℕ) → i < length widths →
    width ≡ get_or widths i 0 → AreRead bits widths numbers place i → place + width ≤ sum widths
read_within bits widths numbers place i width below is so_far =
    omega (arith, so_far.offset, sum_by-drop_more (λ x. x) widths i 0 below)

pub read_more : (bits : List Bool) (widths numbers new : List ℕ) (place i width number : ℕ) → i < length widths →
    width ≡ get_or widths i 0 → sum widths ≤ length bits → AreRead bits widths numbers place i →
    number ≡ number_of (take width (drop place bits)) → new ≡ numbers ++ number ∷ [] →
    AreRead bits widths new (place + width) (i + 1)
read_more bits widths numbers new place i width number below is enough so_far read pushes =
    let within = read_within bits widths numbers place i width below is so_far in
    let split : drop i widths ≡ width ∷ drop (i + 1) widths =
    drop_more widths i 0 below ∙ ap (λ k. k ∷ drop (i + 1) widths) (sym is) in
    let left = numbers_from (drop (i + 1) widths) (assignment bits) (place + width) in
    let this : number ≡ number_of (map (assignment bits) (range_with_len place width)) =
    read ∙ ap number_of (sym (read_slice bits place width (omega (arith, within, enough)))) in
    record {
      offset = omega (arith, so_far.offset, sum_by-drop_more (λ x. x) widths i 0 below);
      rest =
          ap (λ ns. ns ++ numbers_from (drop (i + 1) widths) (assignment bits) (place + width)) pushes
          ∙ append_assoc numbers (number ∷ []) (numbers_from (drop (i + 1) widths) (assignment bits) (place + width))
          ∙ ap (λ n. numbers ++ (n ∷ numbers_from (drop (i + 1) widths) (assignment bits) (place + width))) this
          ∙ ap (λ ws. numbers ++ numbers_from ws (assignment bits) place) (sym split)
          ∙ so_far.rest;
    }

pub read_all : (bits : List Bool) (widths numbers : List ℕ) (place i : ℕ) → length widths ≤ i →
    AreRead bits widths numbers place i → numbers ≡ numbers_from widths (assignment bits) 0
read_all bits widths numbers place i end so_far =
    sym (append-nil numbers)
    ∙ ap (λ ws. numbers ++ numbers_from ws (assignment bits) place) (sym (drop_all i widths end))
    ∙ so_far.rest

-- each is of its width
number_fits : (widths : List ℕ) (bits : ℕ → Bool) (place i : ℕ) → i < length widths →
    get_or (numbers_from widths bits place) i 0 < 2 ^ get_or widths i 0
number_fits [] bits place i below = absurd (omega arith)
number_fits (w ∷ ws) bits place zero below =
    subst (λ (k : ℕ). number_of (map bits (range_with_len place w)) < 2 ^ k)
    (length-map-range_with_len bits place w) (number_below (map bits (range_with_len place w)))
number_fits (w ∷ ws) bits place (suc i) below = number_fits ws bits (place + w) i (omega arith)

-- ---- the numbers of a state
module _ (bits : List Bool) (widths numbers : List ℕ) (first : ℕ)
    (are : numbers ≡ numbers_from widths (assignment bits) 0) where
  pub read_long : length numbers ≡ length widths
  read_long = ap length are ∙ length-numbers_from widths (assignment bits) 0

  -- from the first location on they are short
  pub read_short : All (λ w. w ≤ 32) (drop first widths) → (i : ℕ) → first ≤ i → i < length widths →
      get_or numbers i 0 < 2 ^ 32
  read_short short i behind below =
      let place : first + (i - first) ≡ i = omega arith in
      let width : get_or widths i 0 ≤ 32 =
      subst (λ (k : ℕ). get_or widths k 0 ≤ 32) place
      (subst (λ (w : ℕ). w ≤ 32) (get_or-drop first widths (i - first) 0)
      (short (i - first) 0 (omega (arith, length-drop first widths)))) in
      let fits : get_or numbers i 0 < 2 ^ get_or widths i 0 =
      subst (λ (ns : List ℕ). get_or ns i 0 < 2 ^ get_or widths i 0) (sym are)
      (number_fits widths (assignment bits) 0 i below) in
      let two : 0 < 2 = omega arith in
      let power : 2 ^ get_or widths i 0 ≤ 2 ^ 32 = pow-le-pow_right two width in
      omega arith

  -- and so are those that the locations are read from
  pub slice_short : All (λ w. w ≤ 32) (drop first widths) → (last : ℕ) → last < length widths →
      All (λ n. n < 2 ^ 32) (take (last - first) (drop first numbers))
  slice_short short last below k d small =
      let left = length-drop first numbers in
      let count = length-take-le (last - first) (drop first numbers) (omega (arith, left, read_long, below)) in
      let inside : k < last - first = omega (arith, count, small) in
      let at : get_or numbers (first + k) 0 ≡ get_or (take (last - first) (drop first numbers)) k d =
      get_or_default numbers (first + k) 0 d (omega (arith, read_long, inside, below))
      ∙ sym (get_or-drop first numbers k d)
      ∙ sym (get_or-take (last - first) (drop first numbers) k d inside) in
      subst (λ (n : ℕ). n < 2 ^ 32) at (read_short short (first + k) (omega arith) (omega (arith, inside, below)))

-- the numbers of a state whose parts are these
pub state_read : (numbers : List ℕ) (first last : ℕ) (s : StateData) → length numbers ≡ last + 1 → first ≤ last →
    s.values ≡ take first numbers → s.places ≡ take (last - first) (drop first numbers) →
    s.last ≡ get_or numbers last 0 → state_numbers s ≡ numbers
state_read numbers first last s long within values places final =
    let left : length (drop first numbers) ≡ last - first + 1 = omega (arith, length-drop first numbers) in
    let end : first + (last - first) ≡ last = omega arith in
    let tail : drop (last - first) (drop first numbers) ≡ get_or numbers last 0 ∷ [] =
    drop-drop (last - first) first numbers
    ∙ ap (λ k. drop k numbers) end
    ∙ drop_more numbers last 0 (omega arith)
    ∙ ap (λ ys. get_or numbers last 0 ∷ ys) (drop_all (last + 1) numbers (omega arith)) in
    (λ i. values i ++ places i ++ final i ∷ [])
    ∙ append_assoc (take first numbers) (take (last - first) (drop first numbers)) (get_or numbers last 0 ∷ [])
    ∙ ap (λ ys. take first numbers ++ (take (last - first) (drop first numbers) ++ ys)) (sym tail)
    ∙ ap (λ ys. take first numbers ++ ys) (take-append-drop (last - first) (drop first numbers))
    ∙ take-append-drop first numbers
