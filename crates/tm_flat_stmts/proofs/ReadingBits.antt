-- Numbers that are read from bits of choices.
use Rattle.std.proofs.Common.{◌≡◌, ℕ, zero, suc, ◌+◌, ◌*◌, ◌^◌, ◌<◌, ◌≤◌, ◌==◌, Bool, true, false, Some, List, [], ◌∷◌, ◌++◌, length, map, refl, sym, ap, ◌∙◌, subst, arith, lt_of_lt_of_le, pow-suc, pow_mono}
use Rattle.std.specs.Prelude.{bit_or, slice_get, slice_index}
use Rattle.std.specs.List.{range_with_len}
use Rattle.std.proofs.lemmas.Nat.{or_shifted, shl_whole}
use Rattle.std.proofs.lemmas.Option.{none-some, same_Some, slice_get_within}
use Rattle.tm_base.specs.Arithmetic.{IsWidth, bit, resize, shift_left}
use Rattle.tm_base.specs.Bits.{number_of}
use Rattle.tm_base.proofs.BitLists.{number_of-append}
use Rattle.tm_base.proofs.Cuts.{resize-same}
use Rattle.tm_term.specs.declared.term.TermId.{TermId}
use Rattle.tm_term.specs.Table.{Table, width_of}
use Rattle.tm_term.specs.Value.{AreInputs, value_of, Extends}
use Rattle.tm_term.proofs.Valued.{Extends-trans}
use Rattle.tm_flat.specs.BitRun.{number_at}
use Rattle.tm_flat.specs.Steps.{IsTerm}
use Rattle.tm_flat_exprs.specs.Made.{Makes}
use Rattle.tm_flat_stmts.specs.Choices.{AreChoiceBits, choice_bit}

bits_more : (f : ℕ → Bool) (a n : ℕ) →
    map f (range_with_len a (suc n)) ≡ map f (range_with_len a n) ++ f (a + n) ∷ []
bits_more f a zero =
    let same : a ≡ a + 0 = omega arith in
    ap (λ k. f k ∷ []) same
bits_more f a (suc n) =
    let same : a + 1 + n ≡ a + suc n = omega arith in
    ap (λ ks. f a ∷ ks) (bits_more f (a + 1) n ∙ ap (λ k. map f (range_with_len (a + 1) n) ++ f k ∷ []) same)

-- a number with one more bit at its low end
pub number_more : (f : ℕ → Bool) (a n : ℕ) → number_at f a (suc n) ≡ bit (f (a + n)) + 2 * number_at f a n
number_more f a n = ap number_of (bits_more f a n) ∙ number_of-append (map f (range_with_len a n)) (f (a + n))

below_more : (b : Bool) (n x y : ℕ) → y ≡ bit b + 2 * x → x < 2 ^ n → y < 2 ^ suc n
below_more true n x y is below = omega (arith, is, below, pow-suc 2 n)
below_more false n x y is below = omega (arith, is, below, pow-suc 2 n)

pub number_below : (f : ℕ → Bool) (a n : ℕ) → number_at f a n < 2 ^ n
number_below f a zero = omega arith
number_below f a (suc n) = below_more (f (a + n)) n (number_at f a n) (number_at f a (suc n)) (number_more f a n)
    (number_below f a n)

-- ---- the inputs that are bits
bit_of : (x : ℕ) → x < 2 ^ 1 → x ≡ bit (x == 1)
bit_of zero below = refl
bit_of (suc zero) below = refl
bit_of (suc (suc x)) below = absurd (omega (arith, below))

at_index : (xs : List ℕ) (i x : ℕ) → slice_get xs i ≡ Some x → slice_index xs i ≡ x
at_index [] i x is = absurd (none-some x is)
at_index (y ∷ xs) zero x is = same_Some y x is
at_index (y ∷ xs) (suc i) x is = at_index xs i x is

module _ (t : Table) (first k width : ℕ) (bits : AreChoiceBits t first k width) where
  pub bit_input : (u : Table) → Extends t u → (v : List ℕ) → AreInputs u v → (i : ℕ) → i < width →
      slice_index v (first + k + i) ≡ bit (choice_bit first v (k + i))
  bit_input u more v inputs i below =
      let there : slice_get u.inputs (first + k + i) ≡ Some 1 =
      ap (λ xs. slice_get xs (first + k + i)) more.inputs ∙ bits.bits i below in
      let within : first + k + i < length v =
      omega (arith, slice_get_within u.inputs (first + k + i) 1 there, inputs.count) in
      let small : slice_index v (first + k + i) < 2 ^ 1 =
      subst (λ w. slice_index v (first + k + i) < 2 ^ w) (at_index u.inputs (first + k + i) 1 there)
      (inputs.in_range (first + k + i) within) in
      let same : first + k + i ≡ first + (k + i) = omega arith in
      bit_of (slice_index v (first + k + i)) small ∙ ap (λ j. bit (slice_index v j == 1)) same

  -- ---- the terms of numbers
  pub first_bit : (n p : Table) (top id : TermId) → Extends t n → IsWidth width →
      Makes n p width id (λ u v. resize width (value_of u v top)) →
      ((u : Table) → Extends n u → (v : List ℕ) → AreInputs u v → value_of u v top ≡ slice_index v (first + k)) →
      Makes t p width id (λ u v. number_at (choice_bit first v) k 1)
  first_bit n p top id grown is_width made top_is = record {
    grown = Extends-trans t n p grown made.grown;
    sound = made.sound;
    term = made.term;
    value = λ u more v inputs.
        let later : Extends n u = Extends-trans n p u made.grown more in
        let here : Extends t u = Extends-trans t n u grown later in
        let same : first + k ≡ first + k + 0 = omega arith in
        let input_is : value_of u v top ≡ bit (choice_bit first v (k + 0)) =
        top_is u later v inputs ∙ ap (slice_index v) same ∙ bit_input u here v inputs 0 (omega (arith, is_width.0)) in
        made.value u more v inputs
        ∙ ap (resize width) input_is
        ∙ resize-same width (bit (choice_bit first v (k + 0)))
        (bit_fits (choice_bit first v (k + 0)) width is_width.0)
        ∙ sym (number_more (choice_bit first v) k 0 ∙ nothing_more (bit (choice_bit first v (k + 0))));
  }
    where
      bit_fits : (b : Bool) (w : ℕ) → 1 ≤ w → bit b < 2 ^ w
      bit_fits true w low = lt_of_lt_of_le (omega arith) (pow_mono low)
      bit_fits false w low = lt_of_lt_of_le (omega arith) (pow_mono low)

      nothing_more : (x : ℕ) → x + 2 * 0 ≡ x
      nothing_more x = omega arith

  pub more_bits : (j : ℕ) → j < width → (n p : Table) (id next : TermId) →
      Makes t n width id (λ u v. number_at (choice_bit first v) k j) →
      Makes n p width next
      (λ u v. bit_or (shift_left width (value_of u v id) 1) (resize width (slice_index v (first + k + j)))) →
      Makes t p width next (λ u v. number_at (choice_bit first v) k (j + 1))
  more_bits j below n p id next so_far made = record {
    grown = Extends-trans t n p so_far.grown made.grown;
    sound = made.sound;
    term = made.term;
    value = λ u more v inputs.
        let later : Extends n u = Extends-trans n p u made.grown more in
        let here : Extends t u = Extends-trans t n u so_far.grown later in
        made.value u more v inputs
        ∙ (λ i. bit_or (shift_left width (so_far.value u later v inputs i) 1)
        (resize width (bit_input u here v inputs j below i)))
        ∙ joined (choice_bit first v) j below
        ∙ ap (number_at (choice_bit first v) k) one_more;
  }
    where
      bit_small : (b : Bool) → bit b < 2 ^ 1
      bit_small true = omega arith
      bit_small false = omega arith

      one_more : suc j ≡ j + 1
      one_more = omega arith

      joined : (f : ℕ → Bool) (j : ℕ) → j < width →
          bit_or (shift_left width (number_at f k j) 1) (resize width (bit (f (k + j)))) ≡ number_at f k (suc j)
      joined f j below =
          let a = number_at f k j in
          let b = bit (f (k + j)) in
          let small : b < 2 ^ width =
          lt_of_lt_of_le (bit_small (f (k + j))) (pow_mono {i = 1} {j = width} (omega (arith, below))) in
          (λ i. bit_or (shl_whole a j 1 width (number_below f k j) (omega (arith, below)) i)
          (resize-same width b small i))
          ∙ or_shifted a 1 b (bit_small (f (k + j)))
          ∙ omega (arith, number_more f k j)

-- ---- a number and one more bit
pub bit_joined : (t a b c n : Table) (width wide input : ℕ) (id twice bit low next : TermId) → IsTerm t width id →
    Makes t a (width_of t id) twice (λ u v. shift_left (width_of u id) (value_of u v id) 1) →
    Makes a b wide bit (λ u v. slice_index v input) → Makes b c width low (λ u v. resize width (value_of u v bit)) →
    Makes c n (width_of c twice) next (λ u v. bit_or (value_of u v twice) (value_of u v low)) →
    Makes t n width next (λ u v. bit_or (shift_left width (value_of u v id) 1) (resize width (slice_index v input)))
bit_joined t a b c n width wide input id twice bit low next known makes_twice makes_bit makes_low makes_next =
    let middle : Extends a c = Extends-trans a b c makes_bit.grown makes_low.grown in
    let late : Extends a n = Extends-trans a c n middle makes_next.grown in
    let whole : Extends t n = Extends-trans t a n makes_twice.grown late in
    record {
      grown = whole;
      sound = makes_next.sound;
      term = (
        makes_next.term.0,
        makes_next.term.1 ∙ middle.widths twice makes_twice.term.0 ∙ makes_twice.term.1 ∙ known.1,
      );
      value = λ u more v inputs.
          let here : Extends t u = Extends-trans t n u whole more in
          let of_c : Extends c u = Extends-trans c n u makes_next.grown more in
          let of_b : Extends b u = Extends-trans b c u makes_low.grown of_c in
          let twice_is : value_of u v twice ≡ shift_left width (value_of u v id) 1 =
          makes_twice.value u (Extends-trans a n u late more) v inputs
          ∙ ap (λ w. shift_left w (value_of u v id) 1) (here.widths id known.0 ∙ known.1) in
          let low_is : value_of u v low ≡ resize width (slice_index v input) =
          makes_low.value u of_c v inputs ∙ ap (resize width) (makes_bit.value u of_b v inputs) in
          makes_next.value u more v inputs ∙ (λ i. bit_or (twice_is i) (low_is i));
    }
