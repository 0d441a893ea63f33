-- What is found where an option has something.
use Rattle.std.proofs.Common.{refl}
use Rattle.tm_syntax.specs.declared.design.Design.{Design}
use Rattle.tm_syntax.specs.Design.View.{design_tree}
use Rattle.tm_scope.specs.Cells.{HasCells}
use Rattle.tm_plain_bodies.specs.Tables.{tables_of}

-- the tables of a design are its own
pub own_cells : (d : Design) → HasCells (tables_of d) (design_tree d)
own_cells d = record { text = refl; instances = refl; vars = refl }
