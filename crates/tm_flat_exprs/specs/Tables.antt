-- The tables of a design by which its terms are made.
use Rattle.tm_syntax.specs.declared.design.Design.{Design}
use Rattle.tm_scope.specs.Cells.{CellTables}

-- the tables of its cells
abbrev pub cells_of : Design → CellTables
cells_of d = record { spec = d.spec; instances = d.instances.items; vars = d.vars.items }
