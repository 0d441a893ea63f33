-- The bits of a term, from the bits of its parts.
use Rattle.std.proofs.Common.{◌≡◌, ℕ, ◌+◌, ◌-◌, ◌*◌, Bool, List, [], ◌∷◌, length, take, drop, get_or, Some, refl, sym, ap, ◌∙◌, subst, arith, length-drop}
use Rattle.std.proofs.lemmas.List.{take_all}
use Rattle.tm_base.specs.Arithmetic.{resize, complement, sum, difference, shift_left, shift_right, bit, equal, less}
use Rattle.std.specs.Prelude.{bit_and, bit_or, bit_xor}
use Rattle.tm_dd.specs.declared.node.NodeId.{NodeId}
use Rattle.tm_dd.specs.Table.{Table, Knows, means}
use Rattle.tm_term.specs.declared.term.Term.{Term}
use Rattle.tm_term.specs.declared.term.Term.TheVariants.{Const, Input, Not, And, Or, Xor, Add, Sub, Shl, Shr, Eq, Less, Ite, Resize}
use Rattle.tm_term.specs.declared.term.TermId.{TermId}
use Rattle.tm_term.specs.declared.term.Parts.TheVariants as parts
use Rattle.tm_term.specs.Parts.{parts_of}
use Rattle.tm_term.specs.Table.{Table as Terms, width_of, FitsBelow, term_width}
use Rattle.tm_term.specs.Value.{value_over, value_of}
use Rattle.tm_blast.specs.declared.cell.Cell.TheVariants as cells
use Rattle.tm_blast.specs.Bits.{values_in, input_values}
use Rattle.tm_blast.specs.Cell.{rippled, MeanBits}
use Rattle.tm_blast.specs.Memory.{Made, made_at, AreMade}
use Rattle.tm_blast.specs.Numbers.{number_in, MeanNumber}
use Rattle.tm_blast.specs.Shapes.{single_width, single_value, pair_width, pair_value}
use Rattle.tm_blast.proofs.TermNumbers.{part_number, number-choice}
use Rattle.tm_blast.proofs.PartNumbers.{IsPairOf, IsTermOf}

-- the end of a slice, as the code takes it
pub slice_end : {X : Type 0} (xs : List X) (by : ℕ) → take (length xs - by) (drop by xs) ≡ drop by xs
slice_end xs by = take_all (length xs - by) (drop by xs) (omega (arith, length-drop by xs))

-- ---- widths of parts
pub alike : (t : Terms) (n : ℕ) (term : Term) (a b : TermId) → FitsBelow t n term → parts.Two a b ≡ parts_of term →
    width_of t a ≡ width_of t b
alike t n (Const width number) a b fits is = cc
alike t n (Input i) a b fits is = cc
alike t n (Not p) a b fits is = cc
alike t n (And p q) a b fits is = let e : a ≡ p = cc in let f : q ≡ b = cc in
    ap (width_of t) e ∙ fits.2 ∙ ap (width_of t) f
alike t n (Or p q) a b fits is = let e : a ≡ p = cc in let f : q ≡ b = cc in
    ap (width_of t) e ∙ fits.2 ∙ ap (width_of t) f
alike t n (Xor p q) a b fits is = let e : a ≡ p = cc in let f : q ≡ b = cc in
    ap (width_of t) e ∙ fits.2 ∙ ap (width_of t) f
alike t n (Add p q) a b fits is = let e : a ≡ p = cc in let f : q ≡ b = cc in
    ap (width_of t) e ∙ fits.2 ∙ ap (width_of t) f
alike t n (Sub p q) a b fits is = let e : a ≡ p = cc in let f : q ≡ b = cc in
    ap (width_of t) e ∙ fits.2 ∙ ap (width_of t) f
alike t n (Shl p by) a b fits is = cc
alike t n (Shr p by) a b fits is = cc
alike t n (Eq p q) a b fits is = let e : a ≡ p = cc in let f : q ≡ b = cc in
    ap (width_of t) e ∙ fits.2 ∙ ap (width_of t) f
alike t n (Less p q) a b fits is = let e : a ≡ p = cc in let f : q ≡ b = cc in
    ap (width_of t) e ∙ fits.2 ∙ ap (width_of t) f
alike t n (Ite r p q) a b fits is = cc
alike t n (Resize width p) a b fits is = cc

-- what a term of three parts is, and its widths
pub record IsChoice (t : Terms) (term : Term) (c a b : TermId) : Type 0 where
  pub shape : term ≡ Ite c a b
  pub test : width_of t c ≡ 1
  pub same : width_of t a ≡ width_of t b

pub is_choice : (t : Terms) (n : ℕ) (term : Term) (c a b : TermId) → FitsBelow t n term
    → parts.Three c a b ≡ parts_of term → IsChoice t term c a b
is_choice t n (Const width number) c a b fits is = cc
is_choice t n (Input i) c a b fits is = cc
is_choice t n (Not p) c a b fits is = cc
is_choice t n (And p q) c a b fits is = cc
is_choice t n (Or p q) c a b fits is = cc
is_choice t n (Xor p q) c a b fits is = cc
is_choice t n (Add p q) c a b fits is = cc
is_choice t n (Sub p q) c a b fits is = cc
is_choice t n (Shl p by) c a b fits is = cc
is_choice t n (Shr p by) c a b fits is = cc
is_choice t n (Eq p q) c a b fits is = cc
is_choice t n (Less p q) c a b fits is = cc
is_choice t n (Ite r p q) c a b fits is =
    let d : c ≡ r = cc in
    let e : a ≡ p = cc in
    let f : b ≡ q = cc in
    record {
      shape = cc;
      test = ap (width_of t) d ∙ fits.1;
      same = ap (width_of t) e ∙ fits.2.2 ∙ ap (width_of t) (sym f);
    }
is_choice t n (Resize width p) c a b fits is = cc

-- ---- values and widths of a term by its parts
module _ (t : Terms) (values : List ℕ) (value : TermId → ℕ) where
  pair_value-over : (term : Term) (a b : TermId) → parts.Two a b ≡ parts_of term →
      pair_value term (width_of t a) (value a) (value b) ≡ value_over t values value term
  pair_value-over (Const width number) a b is = cc
  pair_value-over (Input i) a b is = cc
  pair_value-over (Not p) a b is = cc
  pair_value-over (And p q) a b is = let e : a ≡ p = cc in let f : b ≡ q = cc in
      λ k. bit_and (value (e k)) (value (f k))
  pair_value-over (Or p q) a b is = let e : a ≡ p = cc in let f : b ≡ q = cc in λ k. bit_or (value (e k)) (value (f k))
  pair_value-over (Xor p q) a b is = let e : a ≡ p = cc in let f : b ≡ q = cc in
      λ k. bit_xor (value (e k)) (value (f k))
  pair_value-over (Add p q) a b is = let e : a ≡ p = cc in let f : b ≡ q = cc in
      λ k. sum (width_of t (e k)) (value (e k)) (value (f k))
  pair_value-over (Sub p q) a b is = let e : a ≡ p = cc in let f : b ≡ q = cc in
      λ k. difference (width_of t (e k)) (value (e k)) (value (f k))
  pair_value-over (Shl p by) a b is = cc
  pair_value-over (Shr p by) a b is = cc
  pair_value-over (Eq p q) a b is = let e : a ≡ p = cc in let f : b ≡ q = cc in λ k. equal (value (e k)) (value (f k))
  pair_value-over (Less p q) a b is = let e : a ≡ p = cc in let f : b ≡ q = cc in λ k. less (value (e k)) (value (f k))
  pair_value-over (Ite r p q) a b is = cc
  pair_value-over (Resize width p) a b is = cc

  pair_width-over : (term : Term) (a b : TermId) → parts.Two a b ≡ parts_of term →
      pair_width term (width_of t a) ≡ term_width t term
  pair_width-over (Const width number) a b is = cc
  pair_width-over (Input i) a b is = cc
  pair_width-over (Not p) a b is = cc
  pair_width-over (And p q) a b is = let e : a ≡ p = cc in ap (width_of t) e
  pair_width-over (Or p q) a b is = let e : a ≡ p = cc in ap (width_of t) e
  pair_width-over (Xor p q) a b is = let e : a ≡ p = cc in ap (width_of t) e
  pair_width-over (Add p q) a b is = let e : a ≡ p = cc in ap (width_of t) e
  pair_width-over (Sub p q) a b is = let e : a ≡ p = cc in ap (width_of t) e
  pair_width-over (Shl p by) a b is = cc
  pair_width-over (Shr p by) a b is = cc
  pair_width-over (Eq p q) a b is = refl
  pair_width-over (Less p q) a b is = refl
  pair_width-over (Ite r p q) a b is = cc
  pair_width-over (Resize width p) a b is = cc

  single_value-over : (term : Term) (a : TermId) → parts.One a ≡ parts_of term →
      single_value term (width_of t a) (value a) ≡ value_over t values value term
  single_value-over (Const width number) a is = cc
  single_value-over (Input i) a is = cc
  single_value-over (Not p) a is = let e : a ≡ p = cc in λ k. complement (width_of t (e k)) (value (e k))
  single_value-over (And p q) a is = cc
  single_value-over (Or p q) a is = cc
  single_value-over (Xor p q) a is = cc
  single_value-over (Add p q) a is = cc
  single_value-over (Sub p q) a is = cc
  single_value-over (Shl p by) a is = let e : a ≡ p = cc in λ k. shift_left (width_of t (e k)) (value (e k)) by
  single_value-over (Shr p by) a is = let e : a ≡ p = cc in λ k. shift_right (value (e k)) by
  single_value-over (Eq p q) a is = cc
  single_value-over (Less p q) a is = cc
  single_value-over (Ite r p q) a is = cc
  single_value-over (Resize width p) a is = let e : a ≡ p = cc in λ k. resize width (value (e k))

  single_width-over : (term : Term) (a : TermId) → parts.One a ≡ parts_of term →
      single_width term (width_of t a) ≡ term_width t term
  single_width-over (Const width number) a is = cc
  single_width-over (Input i) a is = cc
  single_width-over (Not p) a is = let e : a ≡ p = cc in ap (width_of t) e
  single_width-over (And p q) a is = cc
  single_width-over (Or p q) a is = cc
  single_width-over (Xor p q) a is = cc
  single_width-over (Add p q) a is = cc
  single_width-over (Sub p q) a is = cc
  single_width-over (Shl p by) a is = let e : a ≡ p = cc in ap (width_of t) e
  single_width-over (Shr p by) a is = let e : a ≡ p = cc in ap (width_of t) e
  single_width-over (Eq p q) a is = cc
  single_width-over (Less p q) a is = cc
  single_width-over (Ite r p q) a is = cc
  single_width-over (Resize width p) a is = refl

-- ---- the bits of a term
module _ (t : Terms) (levels : List (List ℕ)) (s : Table) (made : Made) (are_made : AreMade t levels s made) where
  -- what was made of a part means its value
  pub part_means : (a : TermId) (xs : List NodeId) → made_at made a ≡ Some xs →
      MeanNumber s xs (width_of t a) (λ v. value_of t (input_values levels v) a)
  part_means a xs is = part_number t levels s a xs (are_made a xs is).1

  module _ (u : Table) (term : Term) (ids : List NodeId) where
    pub single_term : (a : TermId) (xs : List NodeId) (w : ℕ) → made_at made a ≡ Some xs → parts.One a ≡ parts_of term
        → w ≡ width_of t a
        → MeanNumber u ids (single_width term w) (λ v. single_value term w (number_in s xs v))
        → IsTermOf t levels u term ids
    single_term a xs w is is_one wide are =
        let part = part_means a xs is in
        record {
          known = are.known;
          count = are.count ∙ ap (single_width term) wide ∙ single_width-over t [] (λ id. 0) term a is_one;
          number = λ v.
              let values = input_values levels v in
              are.number v
              ∙ (λ k. single_value term (wide k) (part.number v k))
              ∙ single_value-over t values (value_of t values) term a is_one;
        }

    pub pair_term : (a b : TermId) (xs ys : List NodeId) → made_at made a ≡ Some xs → made_at made b ≡ Some ys
        → parts.Two a b ≡ parts_of term → IsPairOf s u xs ys term ids → IsTermOf t levels u term ids
    pair_term a b xs ys is_a is_b is_two are =
        let first = part_means a xs is_a in
        let second = part_means b ys is_b in
        record {
          known = are.known;
          count = are.count ∙ ap (pair_width term) first.count ∙ pair_width-over t [] (λ id. 0) term a b is_two;
          number = λ v.
              let values = input_values levels v in
              are.number v
              ∙ (λ k. pair_value term (first.count k) (first.number v k) (second.number v k))
              ∙ pair_value-over t values (value_of t values) term a b is_two;
        }

  -- the one bit of a test
  test_bit : (zs : List NodeId) (f : (ℕ → Bool) → ℕ) (d : NodeId) → MeanNumber s zs 1 f → (v : ℕ → Bool) →
      bit (means s (get_or zs 0 d) v) ≡ f v
  test_bit [] f d is v = absurd (omega (arith, is.count))
  test_bit (z ∷ []) f d is v =
      let e : bit (means s z v) + 2 * 0 ≡ bit (means s z v) = omega arith in sym e ∙ is.number v
  test_bit (z ∷ y ∷ zs) f d is v = absurd (omega (arith, is.count))

  pub test_known : (c : TermId) (zs : List NodeId) (d : NodeId) → made_at made c ≡ Some zs → width_of t c ≡ 1 →
      Knows s (get_or zs 0 d)
  test_known c zs d is wide =
      let part = part_means c zs is in part.known 0 d (omega (arith, part.count, wide))

  pub choice_term : (u : Table) (term : Term) (ids : List NodeId) (c a b : TermId) (zs xs ys : List NodeId) (d : NodeId)
      → made_at made c ≡ Some zs → made_at made a ≡ Some xs → made_at made b ≡ Some ys → IsChoice t term c a b
      → MeanBits u ids (λ v. rippled cells.Choice (means s (get_or zs 0 d) v) (values_in s xs v) (values_in s ys v))
      → IsTermOf t levels u term ids
  choice_term u term ids c a b zs xs ys d is_c is_a is_b is are =
      let value : TermId → (ℕ → Bool) → ℕ = λ p v. value_of t (input_values levels v) p in
      let test = subst (λ w. MeanNumber s zs w (value c)) is.test (part_means c zs is_c) in
      let second = subst (λ w. MeanNumber s ys w (value b)) (sym is.same) (part_means b ys is_b) in
      subst (λ x. IsTermOf t levels u x ids) (sym is.shape)
      (number-choice s xs ys (width_of t a) (value a) (value b) (part_means a xs is_a) second u ids (get_or zs 0 d)
      (value c) (test_bit zs (value c) d test) are)
