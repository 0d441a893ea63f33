use Rattle.std.proofs.Common.{◌≡◌, ◌≤◌, ◌+◌, length}
use Rattle.tm_cparse.specs.View.{tokens_of}
use Rattle.tm_struct_parse.specs.Inner.Names.{place_after, first_place}
use Rattle.tm_struct_parse.proofs.names.function_count.Given as goal

abbrev pub invariant-loop-token : goal.invariant-loop-token
invariant-loop-token l =
    (place_after l.place (tokens_of l.rest) ≡ place_after first_place (tokens_of l.spots))
    × (l.place.functions + length l.rest ≤ length l.spots)

abbrev pub decreases-loop-token : goal.decreases-loop-token
decreases-loop-token l = length l.rest
