-- What the code's atoms are as plain data.
use Rattle.std.specs.Prelude.{List, map}
use Rattle.tm_syntax.specs.Tree.View.{expr_tree}
use Rattle.tm_syntax.specs.Design.Atoms.{Atom}
use Rattle.tm_scope.specs.Cells.{scope_of}
use Rattle.tm_atoms.specs.declared.atom.AtomAt.{AtomAt}
use Rattle.tm_atoms.specs.declared.atoms.Atoms.{Atoms}

-- an atom
abbrev pub atom_of : AtomAt → Atom
atom_of a = record { scope = scope_of a.scope; expr = expr_tree a.expr.now }

-- the atoms of a list
abbrev pub listed : Atoms → List AtomAt
listed t = map (λ e. e.1) t.atoms.entries
