-- Whether the driver can be picked, location by location and process by process.
use Rattle.std.proofs.Common.{◌≡◌, ◌⊎◌, inl, inr, ℕ, zero, suc, ◌+◌, ◌<◌, ◌≤◌, ◌==◌, ◌&&◌, ◌||◌, Bool, true, false, Option, None, Some, List, [], ◌∷◌, length, take, slice_get, refl, sym, ap, ◌∙◌, arith}
use Rattle.std.specs.Prelude.{slice_index}
use Rattle.std.specs.List.{list_any, range_with_len}
use Rattle.std.specs.Option.{option_map_or}
use Rattle.std.proofs.lemmas.List.{take_all}
use Rattle.std.proofs.lemmas.Bool.Decides.{nat_tests}
use Rattle.tm_base.specs.Arithmetic.{bit, is_nonzero}
use Rattle.tm_syntax.specs.Design.{DesignTree}
use Rattle.tm_syntax.specs.Design.Locations.{is_magic_at}
use Rattle.tm_locations.specs.Locations.{AreLocations, LocationTable}
use Rattle.tm_locations.specs.declared.table.LocationRow.{LocationRow}
use Rattle.tm_term.specs.declared.term.Term.TheVariants.{Const, Eq, Input}
use Rattle.tm_term.specs.declared.term.TermId.{TermId}
use Rattle.tm_term.specs.Table.{Fits, IsSound, Table, term_width}
use Rattle.tm_term.specs.Value.{AreInputs, Extends, term_value, value_of}
use Rattle.tm_term.proofs.Valued.{Extends-trans}
use Rattle.tm_flat.specs.Steps.{IsTerm}
use Rattle.tm_flat_exprs.proofs.Later.{Extends-refl, term_along, truth_along}
use Rattle.tm_flat_exprs.specs.Made.{IsTruth, Makes, MakesTruth, truth_at}
use Rattle.tm_plain.proofs.Places.{magic_none, magic_row}
use Rattle.tm_flat_moves.proofs.InputWidths.{below_or_past}
use Rattle.tm_flat_moves.specs.Turn.{MakesTurn, TellsTurn, stands_in}

-- whether the location of a number is a magic block, by rows; the start, of number 0, is none
abbrev is_magic_in : List LocationRow → ℕ → Bool
is_magic_in rows zero = false
is_magic_in rows (suc k) = option_map_or (λ (r : LocationRow). r.is_magic) (slice_get rows k) false

-- a truth was made, which tells whether an input is the number of one of the first rows, of so many, that are magic
-- blocks
pub record MagicSoFar (t n : Table) (rows : List LocationRow) (input width : ℕ) (place : TermId) (count : ℕ)
    (stands : Option TermId) : Type 0 where
  pub grown : Extends t n
  pub sound : IsSound n
  pub term : IsTruth n stands
  pub place_is : IsTerm n width place
  pub value : (u : Table) → Extends n u → (v : List ℕ) → AreInputs u v → value_of u v place ≡ slice_index v input
  pub truth : (u : Table) → Extends n u → (v : List ℕ) → AreInputs u v →
      truth_at u v stands ≡ is_magic_in (take count rows) (slice_index v input)

bit_is : (b : Bool) → is_nonzero (bit b) ≡ b
bit_is true = refl
bit_is false = refl

-- ---- one more location
module _ (t k : Table) (width number : ℕ) (place here : TermId) (is : IsTerm t width place)
    (constant : Makes t k (term_width t (Const width number)) here (λ u v. term_value u v (Const width number))) where
  pub test_fits : Fits k (Eq place here)
  test_fits = (
    constant.grown.known place is.0,
    constant.term.0,
    constant.grown.widths place is.0 ∙ is.1 ∙ sym constant.term.1,
  )

  pub one_more : (m n : Table) (before truth : Option TermId) (stands : TermId) →
      Makes k m (term_width k (Eq place here)) stands (λ u v. term_value u v (Eq place here)) →
      MakesTruth m n truth (λ u v. truth_at u v before || truth_at u v (Some stands)) →
      MakesTruth t n truth (λ u v. truth_at u v before || (value_of u v place == number))
  one_more m n before truth stands test made =
      let later : Extends k n = Extends-trans k m n test.grown made.grown in
      record {
        grown = Extends-trans t k n constant.grown later;
        sound = made.sound;
        term = made.term;
        truth = λ u more v are.
            made.truth u more v are
            ∙ ap (λ b. truth_at u v before || b)
            (ap is_nonzero (test.value u (Extends-trans m n u made.grown more) v are)
            ∙ bit_is (value_of u v place == value_of u v here)
            ∙ ap (λ c. value_of u v place == c) (constant.value u (Extends-trans k n u later more) v are));
      }

-- ---- locations, one after the other
taken_before : (rows : List LocationRow) (i k : ℕ) → k < i → slice_get (take i rows) k ≡ slice_get rows k
taken_before [] zero k below = refl
taken_before [] (suc i) k below = refl
taken_before (r ∷ rows) zero k below = absurd (omega arith)
taken_before (r ∷ rows) (suc i) zero below = refl
taken_before (r ∷ rows) (suc i) (suc k) below = taken_before rows i k (omega arith)

taken_past : (rows : List LocationRow) (i k : ℕ) → i ≤ k → slice_get (take i rows) k ≡ None
taken_past [] zero k past = refl
taken_past [] (suc i) k past = refl
taken_past (r ∷ rows) zero k past = refl
taken_past (r ∷ rows) (suc i) zero past = absurd (omega arith)
taken_past (r ∷ rows) (suc i) (suc k) past = taken_past rows i k (omega arith)

and_false : (b : Bool) → (b && false) ≡ false
and_false true = refl
and_false false = refl

and_true : (b : Bool) → (b && true) ≡ b
and_true true = refl
and_true false = refl

pub or_false : (b : Bool) → (b || false) ≡ b
or_false true = refl
or_false false = refl

other : (j k : ℕ) → (j ≡ k → ⊥) → (j == k) ≡ false
other j k apart = by (j == k) refl
  where
    by : (b : Bool) → (j == k) ≡ b → (j == k) ≡ false
    by false is = is
    by true is = absurd (apart (grind (arith, nat_tests)))

same : (j k : ℕ) → j ≡ k → (j == k) ≡ true
same j k is = grind (arith, nat_tests)

abbrev magic_of : Option LocationRow → Bool
magic_of o = option_map_or (λ (r : LocationRow). r.is_magic) o false

pub magic_more : (rows : List LocationRow) (i : ℕ) (row : LocationRow) → slice_get rows i ≡ Some row → (k : ℕ) →
    is_magic_in (take (i + 1) rows) k ≡ (is_magic_in (take i rows) k || (row.is_magic && (k == i + 1)))
magic_more rows i row here zero =
    sym (ap (λ b. row.is_magic && b) (other 0 (i + 1) (λ e. absurd (omega (arith, e)))) ∙ and_false row.is_magic)
magic_more rows i row here (suc j) = by (below_or_past j i)
  where
    by : (j < i) ⊎ ((n : ℕ) × (j ≡ i + n)) →
        magic_of (slice_get (take (i + 1) rows) j)
        ≡ (magic_of (slice_get (take i rows) j) || (row.is_magic && (suc j == i + 1)))
    by (inl below) =
        ap magic_of (taken_before rows (i + 1) j (omega arith) ∙ sym (taken_before rows i j below))
        ∙ sym (or_false (magic_of (slice_get (take i rows) j)))
        ∙ ap (λ b. magic_of (slice_get (take i rows) j) || b)
        (sym (ap (λ b. row.is_magic && b) (other (suc j) (i + 1) (λ e. absurd (omega (arith, e, below))))
        ∙ and_false row.is_magic))
    by (inr (zero, at)) =
        ap magic_of (taken_before rows (i + 1) j (omega (arith, at)) ∙ ap (slice_get rows) (omega (arith, at)) ∙ here)
        ∙ sym (and_true row.is_magic)
        ∙ ap (λ b. row.is_magic && b) (sym (same (suc j) (i + 1) (omega (arith, at))))
        ∙ ap (λ o. magic_of o || (row.is_magic && (suc j == i + 1))) (sym (taken_past rows i j (omega (arith, at))))
    by (inr (suc n, at)) =
        ap magic_of (taken_past rows (i + 1) j (omega (arith, at)))
        ∙ (λ l. magic_of (sym (taken_past rows i j (omega (arith, at))) l)
        || sym (ap (λ b. row.is_magic && b) (other (suc j) (i + 1) (λ e. absurd (omega (arith, e, at))))
        ∙ and_false row.is_magic) l)

-- all rows tell whether a location is a magic block
pub magic_all : (t : LocationTable) (d : DesignTree) (p : ℕ) → AreLocations t d p → (k : ℕ) →
    is_magic_in t.rows k ≡ is_magic_at d p k
magic_all t d p are zero = refl
magic_all t d p are (suc j) = by (slice_get t.rows j) refl
  where
    by : (o : Option LocationRow) → slice_get t.rows j ≡ o → magic_of (slice_get t.rows j) ≡ is_magic_at d p (suc j)
    by None here = ap magic_of here ∙ magic_none t d p are (suc j) j refl here
    by (Some row) here = ap magic_of here ∙ magic_row t d p are (suc j) j refl row here

-- ---- processes, one after the other
pub any_more : (f : ℕ → Bool) (a n : ℕ) →
    list_any f (range_with_len a (n + 1)) ≡ (list_any f (range_with_len a n) || f (a + n))
any_more f a n = by n (n + 1) (omega arith)
  where
    or_all : (a b c : Bool) → (a || (b || c)) ≡ ((a || b) || c)
    or_all true b c = refl
    or_all false b c = refl

    more : (a n : ℕ) → list_any f (range_with_len a (suc n)) ≡ (list_any f (range_with_len a n) || f (a + n))
    more a zero = or_false (f a) ∙ ap f (omega arith)
    more a (suc n) =
        ap (λ b. f a || b) (more (a + 1) n ∙ ap (λ k. list_any f (range_with_len (a + 1) n) || f k) (omega arith))
        ∙ or_all (f a) (list_any f (range_with_len (a + 1) n)) (f (a + suc n))

    by : (n m : ℕ) → suc n ≡ m → list_any f (range_with_len a m) ≡ (list_any f (range_with_len a n) || f (a + n))
    by n m is = ap (λ k. list_any f (range_with_len a k)) (sym is) ∙ more a n

-- ---- the rows, as they are met
no_magic : (k : ℕ) → false ≡ is_magic_in [] k
no_magic zero = refl
no_magic (suc k) = refl

module _ (t : Table) (rows : List LocationRow) (input width : ℕ) (place : TermId) where
  pub magic_begins : (n : Table) → Makes t n width place (λ u v. term_value u v (Input input)) →
      MagicSoFar t n rows input width place 0 None
  magic_begins n made = record {
    grown = made.grown;
    sound = made.sound;
    term = tt;
    place_is = made.term;
    value = made.value;
    truth = λ u more v are. no_magic (slice_index v input);
  }

  pub magic_goes_on : (n m : Table) (i : ℕ) (stands truth : Option TermId) (row : LocationRow) →
      slice_get rows i ≡ Some row → MagicSoFar t n rows input width place i stands →
      MakesTruth n m truth (λ u v. truth_at u v stands || (row.is_magic && (value_of u v place == i + 1))) →
      MagicSoFar t m rows input width place (i + 1) truth
  magic_goes_on n m i stands truth row here far made = record {
    grown = Extends-trans t n m far.grown made.grown;
    sound = made.sound;
    term = made.term;
    place_is = term_along n m width place made.grown far.place_is;
    value = λ u more v are. far.value u (Extends-trans n m u made.grown more) v are;
    truth = λ u more v are.
        let earlier = Extends-trans n m u made.grown more in
        made.truth u more v are
        ∙ (λ j. far.truth u earlier v are j || (row.is_magic && (far.value u earlier v are j == i + 1)))
        ∙ sym (magic_more rows i row here (slice_index v input));
  }

  pub magic_ends : (n : Table) (i : ℕ) (stands : Option TermId) → length rows ≤ i →
      MagicSoFar t n rows input width place i stands → (l : LocationTable) (d : DesignTree) (p : ℕ) → l.rows ≡ rows →
      AreLocations l d p → MakesTruth t n stands (λ u v. is_magic_at d p (slice_index v input))
  magic_ends n i stands all far l d p same are = record {
    grown = far.grown;
    sound = far.sound;
    term = far.term;
    truth = λ u more v inputs.
        far.truth u more v inputs
        ∙ ap (λ rs. is_magic_in rs (slice_index v input)) (take_all i rows all ∙ sym same)
        ∙ magic_all l d p are (slice_index v input);
  }

-- ---- the processes, as they are met
module _ (t : Table) (d : DesignTree) where
  pub turn_begins : IsSound t → MakesTruth t t None (λ u v. stands_in d 0 v)
  turn_begins sound = record {
    grown = Extends-refl t;
    sound = sound;
    term = tt;
    truth = λ u more v are. refl;
  }

  pub turn_goes_on : (n m k : Table) (i : ℕ) (turn here both : Option TermId) →
      MakesTruth t n turn (λ u v. stands_in d i v) →
      MakesTruth n m here (λ u v. is_magic_at d i (slice_index v (length d.vars + i))) →
      MakesTruth m k both (λ u v. truth_at u v turn || truth_at u v here) →
      MakesTruth t k both (λ u v. stands_in d (i + 1) v)
  turn_goes_on n m k i turn here both far one made = record {
    grown = Extends-trans t n k far.grown (Extends-trans n m k one.grown made.grown);
    sound = made.sound;
    term = made.term;
    truth = λ u more v are.
        let late = Extends-trans m k u made.grown more in
        let same : 0 + i ≡ i = omega arith in
        made.truth u more v are
        ∙ (λ j. far.truth u (Extends-trans n m u one.grown late) v are j || one.truth u late v are j)
        ∙ sym (any_more (λ p. is_magic_at d p (slice_index v (length d.vars + p))) 0 i
        ∙ ap (λ p. stands_in d i v || is_magic_at d p (slice_index v (length d.vars + p))) same);
  }

  -- all of them tell whether the driver can be picked
  pub turn_ends : (n : Table) (i : ℕ) (turn : Option TermId) → i ≡ length d.processes →
      MakesTruth t n turn (λ u v. stands_in d i v) → MakesTurn t n d turn
  turn_ends n i turn all made = record {
    grown = made.grown;
    sound = made.sound;
    tells = record {
      term = made.term;
      truth = λ u more v are. made.truth u more v are ∙ ap (λ k. stands_in d k v) all;
    };
  }

-- a truth that tells it does so as terms are added
pub turn_along : (t n : Table) (d : DesignTree) (turn : Option TermId) → Extends t n → TellsTurn t d turn →
    TellsTurn n d turn
turn_along t n d turn grown tells = record {
  term = truth_along t n turn grown tells.term;
  truth = λ u more v are. tells.truth u (Extends-trans t n u grown more) v are;
}
