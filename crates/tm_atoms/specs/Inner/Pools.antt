-- The atoms that the code has noted.
use Rattle.std.specs.Prelude.{◌≡◌, ℕ, Bool, true, false, not, Option, List, map}
use Rattle.std.specs.List.{AllByRecursion}
use Rattle.tm_syntax.specs.declared.tree.BinaryOperator.{BinaryOperator}
use Rattle.tm_syntax.specs.declared.tree.BinaryOperator.TheVariants as operator
use Rattle.tm_syntax.specs.declared.design.Ty.{Ty}
use Rattle.tm_syntax.specs.Design.{DesignTree}
use Rattle.tm_syntax.specs.Design.Atoms.{Atom, compares_bools, resolved_atom}
use Rattle.tm_atoms.specs.declared.atom.AtomAt.{AtomAt}
use Rattle.tm_atoms.specs.declared.pool.Pool.{Pool}
use Rattle.tm_atoms.specs.Atoms.{atom_of}
use Rattle.tm_atoms.specs.Pool.{with_atoms}
use Rattle.tm_atoms.specs.Inner.Numbers.{IsNumber, NumberTables}

-- the tables of a pool: the numbers of expressions, and the atoms behind the numbers of theirs
pub record PoolTables : Type 0 where
  pub numbers : NumberTables
  pub atoms : List (ℕ × AtomAt)

-- the tables of a pool, as lists
abbrev pub pool_of : Pool → PoolTables
pool_of p = record { numbers = p.table; atoms = p.atoms.entries }

-- the atoms of a pool
abbrev pub noted_atoms : PoolTables → List Atom
noted_atoms p = map (λ e. atom_of e.1) p.atoms

-- each atom stands behind the number of its resolved expression
abbrev pub AreNumbered : DesignTree → PoolTables → Type 0
AreNumbered d p = AllByRecursion (λ e. IsNumber p.numbers e.0 (resolved_atom d (atom_of e.1))) p.atoms

-- a pool to which these atoms are added in turn
pub record HasAdded (d : DesignTree) (old new : PoolTables) (atoms : List Atom) : Type 0 where
  pub numbered : AreNumbered d new
  pub are : noted_atoms new ≡ with_atoms d (noted_atoms old) atoms

-- what adds these atoms to a pool
abbrev pub Adds : DesignTree → PoolTables → PoolTables → List Atom → Type 0
Adds d old new atoms = AreNumbered d old → HasAdded d old new atoms

-- whether an operator makes one atom of two expressions, given the type of these
abbrev pub is_whole : BinaryOperator → Option Ty → Bool
is_whole operator.AndAlso ty = false
is_whole operator.OrElse ty = false
is_whole operator.Equal ty = not (compares_bools ty)
is_whole operator.NotEqual ty = not (compares_bools ty)
is_whole _ ty = true
