use Rattle.std.specs.Prelude.{slice_index}
use Rattle.tm_locations.specs.Locations.{table_of}
use Rattle.tm_flat_moves.proofs.Picking.{MagicSoFar}
use Rattle.tm_flat_moves.proofs.turn.magic_place.Given as goal

abbrev pub invariant-loop-index : goal.invariant-loop-index
invariant-loop-index l =
    MagicSoFar l.fn.terms l.terms (table_of l.locations).rows l.input (slice_index l.fn.terms.inputs l.input) l.place
    l.index l.stands
