use Rattle.std.proofs.Common.{◌∙◌}
use Rattle.tm_locations.specs.Locations.{table_of}
use Rattle.tm_flat_moves.proofs.mover.Mover.walker.Goals as goal

pub returns : goal.returns
returns c = λ i. record {
  tables = (c.new.ensures.cells ∙ c.args.self.now.same_cells) i;
  locations = table_of (c.new.ensures.locations i);
  first = (c.new.ensures.first ∙ c.requires) i;
}
