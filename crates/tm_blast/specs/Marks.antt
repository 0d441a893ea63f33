-- Which terms are wanted for the bits of a term. No definition of what a term's bits mean cites these.
use Rattle.std.specs.Prelude.{◌≡◌, ℕ, ◌+◌, ◌-◌, ◌<◌, ◌≤◌, ◌⊎◌, Bool, true, false, List, length, Some, slice_index_or}
use Rattle.tm_term.specs.declared.term.TermId.{TermId}
use Rattle.tm_term.specs.declared.term.Term.{Term}
use Rattle.tm_term.specs.declared.term.Parts.{Parts}
use Rattle.tm_term.specs.declared.term.Parts.TheVariants as parts
use Rattle.tm_term.specs.Parts.{parts_of, AreBelow}
use Rattle.tm_term.specs.Table.{Table as Terms, term_of}
use Rattle.tm_blast.specs.Memory.{Made, IsMade}

-- the term that stands so far below another one
abbrev pub term_below : TermId → ℕ → TermId
term_below id distance = record { 0 = id.0 - distance }

-- whether the term that stands so far below is wanted
abbrev pub is_marked : List Bool → ℕ → Bool
is_marked marks distance = slice_index_or marks distance false

-- the bits of a term were made, or it is wanted
abbrev pub IsSettled : Made → TermId → List Bool → TermId → Type 0
IsSettled made id marks a = IsMade made a ⊎ (is_marked marks (id.0 - a.0) ≡ true)

-- the bits of all parts of a term were made, or the parts are wanted
abbrev pub AreSettled : Made → TermId → List Bool → Parts → Type 0
AreSettled made id marks parts.None = Unit {0}
AreSettled made id marks (parts.One a) = IsSettled made id marks a
AreSettled made id marks (parts.Two a b) = IsSettled made id marks a × IsSettled made id marks b
AreSettled made id marks (parts.Three c a b) =
    IsSettled made id marks c × IsSettled made id marks a × IsSettled made id marks b

-- the term itself is wanted, and of the wanted terms that are nearer than a distance each part has a smaller id and is
-- made or wanted
pub record AreWanted (t : Terms) (made : Made) (id : TermId) (marks : List Bool) (distance : ℕ) : Type 0 where
  pub first : is_marked marks 0 ≡ true
  pub within : length marks ≤ id.0 + 1
  pub parts : (d : ℕ) → d < distance → is_marked marks d ≡ true → (term : Term) →
      term_of t (term_below id d) ≡ Some term → AreSettled made id marks (parts_of term)
  pub below : (d : ℕ) → d < distance → is_marked marks d ≡ true → (term : Term) →
      term_of t (term_below id d) ≡ Some term → AreBelow (id.0 - d) (parts_of term)
