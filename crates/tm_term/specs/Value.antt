-- The value of a term over the values of the inputs: unsigned numbers of its width, by the arithmetic of such numbers.
use Rattle.std.specs.Prelude.{◌≡◌, ℕ, zero, suc, ◌^◌, ◌<◌, List, Option, Some, None, length, slice_index, bit_and, bit_or, bit_xor}
use Rattle.tm_base.specs.Arithmetic.{resize, complement, sum, difference, shift_left, shift_right, equal, less, choice}
use Rattle.tm_term.specs.declared.term.Term.{Term}
use Rattle.tm_term.specs.declared.term.Term.TheVariants.{Const, Input, Not, And, Or, Xor, Add, Sub, Shl, Shr, Eq, Less, Ite, Resize}
use Rattle.tm_term.specs.declared.term.TermId.{TermId}
use Rattle.tm_term.specs.Table.{Table, IsKnown, term_of, width_of}

-- one value for each input, below 2 to its width
pub record AreInputs (t : Table) (values : List ℕ) : Type 0 where
  pub count : length values ≡ length t.inputs
  pub in_range : (i : ℕ) → i < length values → slice_index values i < 2 ^ slice_index t.inputs i

-- the value of a term, where `value` gives the value of each part
abbrev pub value_over : Table → List ℕ → (TermId → ℕ) → Term → ℕ
value_over t values value (Const width number) = number
value_over t values value (Input i) = slice_index values i
value_over t values value (Not a) = complement (width_of t a) (value a)
value_over t values value (And a b) = bit_and (value a) (value b)
value_over t values value (Or a b) = bit_or (value a) (value b)
value_over t values value (Xor a b) = bit_xor (value a) (value b)
value_over t values value (Add a b) = sum (width_of t a) (value a) (value b)
value_over t values value (Sub a b) = difference (width_of t a) (value a) (value b)
value_over t values value (Shl a by) = shift_left (width_of t a) (value a) by
value_over t values value (Shr a by) = shift_right (value a) by
value_over t values value (Eq a b) = equal (value a) (value b)
value_over t values value (Less a b) = less (value a) (value b)
value_over t values value (Ite c a b) = choice (value c) (value a) (value b)
value_over t values value (Resize width a) = resize width (value a)

-- the value of the term that an id has, and 0 where it has none
abbrev pub value_from : Table → List ℕ → (TermId → ℕ) → Option Term → ℕ
value_from t values value None = 0
value_from t values value (Some term) = value_over t values value term

-- the value of the term of an id, down to n levels of parts
unfoldable pub value_within : ℕ → Table → List ℕ → TermId → ℕ
value_within zero t values id = 0
value_within (suc n) t values id = value_from t values (value_within n t values) (term_of t id)

-- the value of the term of an id: its parts have smaller ids, so it has no more levels than its id and one
unfoldable pub value_of : Table → List ℕ → TermId → ℕ
value_of t values id = value_within (suc id.0) t values id

-- the value that a term has over the known ids
abbrev pub term_value : Table → List ℕ → Term → ℕ
term_value t values term = value_over t values (value_of t values) term

-- the values of the first ids
abbrev pub AreValues : Table → List ℕ → List ℕ → Type 0
AreValues t values found = (id : TermId) → id.0 < length found → slice_index found id.0 ≡ value_of t values id

-- every known id of the old table means in the new one what it meant
pub record Extends (old new : Table) : Type 0 where
  pub inputs : new.inputs ≡ old.inputs
  pub known : (id : TermId) → IsKnown old id → IsKnown new id
  pub terms : (id : TermId) → IsKnown old id → term_of new id ≡ term_of old id
  pub widths : (id : TermId) → IsKnown old id → width_of new id ≡ width_of old id
  pub values : (values : List ℕ) (id : TermId) → IsKnown old id → value_of new values id ≡ value_of old values id
