-- The tables by which the bodies of a design are walked.
use Rattle.std.specs.Prelude.{ℕ}
use Rattle.tm_syntax.specs.declared.design.Design.{Design}
use Rattle.tm_locations.specs.Locations.{LocationTable}
use Rattle.tm_plain_bodies.specs.Tables.{tables_of}
use Rattle.tm_flat_bodies.specs.Walks.{WalkTables}

-- those of its cells, with the locations of a process and the number of the first input that is a bit of choices
abbrev pub walk_tables : Design → LocationTable → ℕ → WalkTables
walk_tables d l first = record { tables = tables_of d; locations = l; first = first }
