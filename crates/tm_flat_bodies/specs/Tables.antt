-- What a walker knows.
use Rattle.tm_locations.specs.Locations.{table_of}
use Rattle.tm_flat_bodies.specs.declared.walker.Walker.{Walker}
use Rattle.tm_flat_bodies.specs.Walks.{WalkTables}

-- the tables by which a walker walks
abbrev pub known_by : Walker → WalkTables
known_by x = record { tables = x.cells.now; locations = table_of x.locations.now; first = x.first }
