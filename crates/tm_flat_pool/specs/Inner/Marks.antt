-- Which state variables are atoms.
use Rattle.std.specs.Prelude.{◌≡◌, ℕ, ◌<◌, ◌==◌, Bool, false, Option, None, Some, List, length, slice_index_or}
use Rattle.std.specs.List.{list_any}
use Rattle.std.specs.Option.{option_map_or}
use Rattle.tm_syntax.specs.Design.{DesignTree}
use Rattle.tm_syntax.specs.Design.Atoms.{Atom, Resolved, a_variable, resolved_atom}

-- the state variable that a resolved expression is, if it is one
abbrev pub variable_in : Resolved → Option ℕ
variable_in (a_variable k) = Some k
variable_in _ = None

-- whether an atom is the state variable of this number
abbrev pub is_variable : DesignTree → ℕ → Atom → Bool
is_variable d v a = option_map_or (λ k. k == v) (variable_in (resolved_atom d a)) false

-- each variable is marked exactly where it is one of these atoms
pub record AreMarked (d : DesignTree) (atoms : List Atom) (marks : List Bool) : Type 0 where
  pub as_many : length marks ≡ length d.vars
  pub each : (v : ℕ) → v < length d.vars → slice_index_or marks v false ≡ list_any (is_variable d v) atoms
