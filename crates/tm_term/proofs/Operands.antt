-- The parts of a term.
use Rattle.std.proofs.Common.{ℕ}
use Rattle.tm_term.specs.declared.term.Term.{Term}
use Rattle.tm_term.specs.declared.term.Term.TheVariants.{Const, Input, Not, And, Or, Xor, Add, Sub, Shl, Shr, Eq, Less, Ite, Resize}
use Rattle.tm_term.specs.Parts.{parts_of, AreBelow}
use Rattle.tm_term.specs.Table.{Table, FitsBelow}

-- the parts of a term that fits are below
pub AreBelow-parts_of : (t : Table) (n : ℕ) (term : Term) → FitsBelow t n term → AreBelow n (parts_of term)
AreBelow-parts_of t n (Const width number) h = tt
AreBelow-parts_of t n (Input i) h = tt
AreBelow-parts_of t n (Not a) h = h
AreBelow-parts_of t n (And a b) h = (h.0, h.1)
AreBelow-parts_of t n (Or a b) h = (h.0, h.1)
AreBelow-parts_of t n (Xor a b) h = (h.0, h.1)
AreBelow-parts_of t n (Add a b) h = (h.0, h.1)
AreBelow-parts_of t n (Sub a b) h = (h.0, h.1)
AreBelow-parts_of t n (Shl a by) h = h.0
AreBelow-parts_of t n (Shr a by) h = h.0
AreBelow-parts_of t n (Eq a b) h = (h.0, h.1)
AreBelow-parts_of t n (Less a b) h = (h.0, h.1)
AreBelow-parts_of t n (Ite c a b) h = (h.0, h.2.0, h.2.1)
AreBelow-parts_of t n (Resize width a) h = h.1
