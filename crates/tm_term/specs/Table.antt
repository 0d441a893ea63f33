-- The table of terms: a term of bit-vectors for each id, in the order of the ids.
-- Terms are shared by ids (hash-consing): a part of a term is the id of an earlier term.
use Rattle.std.specs.Prelude.{◌≡◌, ℕ, ◌^◌, ◌<◌, List, Option, Some, None, length, slice_get, slice_index}
use Rattle.tm_base.specs.Arithmetic.{IsWidth}
use Rattle.tm_term.specs.declared.term.Term.{Term}
use Rattle.tm_term.specs.declared.term.Term.TheVariants.{Const, Input, Not, And, Or, Xor, Add, Sub, Shl, Shr, Eq, Less, Ite, Resize}
use Rattle.tm_term.specs.declared.term.TermId.{TermId}

-- the widths of the inputs, and the terms in the order of their ids, each with its width
pub record Table : Type 0 where
  pub inputs : List ℕ
  pub kept : List (Term × ℕ)

-- the term of an entry
abbrev pub term_in : Option (Term × ℕ) → Option Term
term_in None = None
term_in (Some e) = Some e.0

-- the width of an entry, or 0 where there is none
abbrev pub width_in : Option (Term × ℕ) → ℕ
width_in None = 0
width_in (Some e) = e.1

-- the number of known ids, which are the numbers below it
abbrev pub count_of : Table → ℕ
count_of t = length t.kept

-- an id that was handed out
abbrev pub IsKnown : Table → TermId → Type 0
IsKnown t id = id.0 < count_of t

-- the term of an id
abbrev pub term_of : Table → TermId → Option Term
term_of t id = term_in (slice_get t.kept id.0)

-- the width of the term of an id, in bits
abbrev pub width_of : Table → TermId → ℕ
width_of t id = width_in (slice_get t.kept id.0)

-- the two ids are below n, and their terms have one width
abbrev pub AreAlike : Table → ℕ → TermId → TermId → Type 0
AreAlike t n a b = (a.0 < n) × (b.0 < n) × (width_of t a ≡ width_of t b)

-- the parts of a term are ids below n whose widths fit its operator, and its numbers are in range
abbrev pub FitsBelow : Table → ℕ → Term → Type 0
FitsBelow t n (Const width number) = IsWidth width × (number < 2 ^ width)
FitsBelow t n (Input i) = i < length t.inputs
FitsBelow t n (Not a) = a.0 < n
FitsBelow t n (And a b) = AreAlike t n a b
FitsBelow t n (Or a b) = AreAlike t n a b
FitsBelow t n (Xor a b) = AreAlike t n a b
FitsBelow t n (Add a b) = AreAlike t n a b
FitsBelow t n (Sub a b) = AreAlike t n a b
FitsBelow t n (Shl a by) = (a.0 < n) × (by < width_of t a)
FitsBelow t n (Shr a by) = (a.0 < n) × (by < width_of t a)
FitsBelow t n (Eq a b) = AreAlike t n a b
FitsBelow t n (Less a b) = AreAlike t n a b
FitsBelow t n (Ite c a b) = (c.0 < n) × (width_of t c ≡ 1) × AreAlike t n a b
FitsBelow t n (Resize width a) = IsWidth width × (a.0 < n)

-- a term that may be added: its parts are known, and it fits
abbrev pub Fits : Table → Term → Type 0
Fits t term = FitsBelow t (count_of t) term

-- the width of a term over its parts: a comparison has one bit
abbrev pub term_width : Table → Term → ℕ
term_width t (Const width number) = width
term_width t (Input i) = slice_index t.inputs i
term_width t (Not a) = width_of t a
term_width t (And a b) = width_of t a
term_width t (Or a b) = width_of t a
term_width t (Xor a b) = width_of t a
term_width t (Add a b) = width_of t a
term_width t (Sub a b) = width_of t a
term_width t (Shl a by) = width_of t a
term_width t (Shr a by) = width_of t a
term_width t (Eq a b) = 1
term_width t (Less a b) = 1
term_width t (Ite c a b) = width_of t a
term_width t (Resize width a) = width

-- an entry at place k: the term fits over smaller ids, and the width is the term's
pub record IsEntry (t : Table) (k : ℕ) (term : Term) (width : ℕ) : Type 0 where
  pub fits : FitsBelow t k term
  pub sized : width ≡ term_width t term
  pub in_range : IsWidth width

-- every input has a width, every entry is one over smaller ids, and no term stands twice
pub record IsSound (t : Table) : Type 0 where
  pub inputs : (i : ℕ) → i < length t.inputs → IsWidth (slice_index t.inputs i)
  pub entries : (k : ℕ) (term : Term) (width : ℕ) → slice_get t.kept k ≡ Some (term, width) → IsEntry t k term width
  pub distinct : (a b : TermId) (term : Term) → term_of t a ≡ Some term → term_of t b ≡ Some term → a ≡ b
