-- Truths that stand in a body of an instance, and the terms that were made of them.
use Rattle.std.specs.Prelude.{◌≡◌, ℕ, Bool, List}
use Rattle.std.specs.List.{AllZip}
use Rattle.tm_base.specs.Arithmetic.{bit}
use Rattle.tm_syntax.specs.declared.design.Design.{Design}
use Rattle.tm_syntax.specs.Tree.{ExprTree}
use Rattle.tm_syntax.specs.Design.{DesignTree}
use Rattle.tm_syntax.specs.Design.Atoms.{Atom}
use Rattle.tm_syntax.specs.Design.Scope.{Scope}
use Rattle.tm_scope.specs.Cells.{ScopedCells}
use Rattle.tm_scope.specs.declared.cells.site_body.SiteBody.{SiteBody}
use Rattle.tm_term.specs.declared.term.TermId.{TermId}
use Rattle.tm_term.specs.Table.{Table, IsSound}
use Rattle.tm_term.specs.Value.{AreInputs, value_of, Extends}
use Rattle.tm_sem.specs.Value.{holds_in}
use Rattle.tm_flat.specs.Steps.{IsTerm}
use Rattle.tm_flat_exprs.specs.Tables.{cells_of}
use Rattle.tm_flat_states.specs.Conditions.{memory_in}

-- a body of an instance, with the tables of the design
abbrev pub body_of : Design → SiteBody → ScopedCells
body_of d at = record { tables = cells_of d; at = at }

-- whether an expression of a scope holds, over values of the inputs
abbrev pub held : DesignTree → Scope → List ℕ → ExprTree → Bool
held d scope v e = holds_in d scope (memory_in d v) e

-- over a table a term is a truth that holds where an atom does
pub record IsHeld (d : DesignTree) (u : Table) (a : Atom) (id : TermId) : Type 0 where
  pub term : IsTerm u 1 id
  pub value : (v : List ℕ) → AreInputs u v → value_of u v id ≡ bit (held d a.scope v a.expr)

-- such terms were made of some atoms
pub record AreHeld (d : DesignTree) (atoms : List Atom) (t n : Table) (ids : List TermId) : Type 0 where
  pub grown : Extends t n
  pub sound : IsSound n
  pub each : (u : Table) → Extends n u → AllZip (IsHeld d u) atoms ids
