-- The parts of a term.
use Rattle.std.specs.Prelude.{◌≡◌, ℕ, ◌<◌}
use Rattle.tm_term.specs.declared.term.TermId.{TermId}
use Rattle.tm_term.specs.declared.term.Term.{Term}
use Rattle.tm_term.specs.declared.term.Term.TheVariants.{Const, Input, Not, And, Or, Xor, Add, Sub, Shl, Shr, Eq, Less, Ite, Resize}
use Rattle.tm_term.specs.declared.term.Parts.{Parts}
use Rattle.tm_term.specs.declared.term.Parts.TheVariants.{None, One, Two, Three}

-- the ids that a term names, in order
abbrev pub parts_of : Term → Parts
parts_of (Const width number) = None
parts_of (Input i) = None
parts_of (Not a) = One a
parts_of (And a b) = Two a b
parts_of (Or a b) = Two a b
parts_of (Xor a b) = Two a b
parts_of (Add a b) = Two a b
parts_of (Sub a b) = Two a b
parts_of (Shl a by) = One a
parts_of (Shr a by) = One a
parts_of (Eq a b) = Two a b
parts_of (Less a b) = Two a b
parts_of (Ite c a b) = Three c a b
parts_of (Resize width a) = One a

-- every part is an id below n
abbrev pub AreBelow : ℕ → Parts → Type 0
AreBelow n None = Unit {0}
AreBelow n (One a) = a.0 < n
AreBelow n (Two a b) = (a.0 < n) × (b.0 < n)
AreBelow n (Three c a b) = (c.0 < n) × (a.0 < n) × (b.0 < n)

-- the first of three numbers are the values of the parts
abbrev pub AreOperands : (TermId → ℕ) → Parts → ℕ × ℕ × ℕ → Type 0
AreOperands value None xs = Unit {0}
AreOperands value (One a) xs = xs.0 ≡ value a
AreOperands value (Two a b) xs = (xs.0 ≡ value a) × (xs.1 ≡ value b)
AreOperands value (Three c a b) xs = (xs.0 ≡ value c) × (xs.1 ≡ value a) × (xs.2 ≡ value b)
