use Rattle.std.proofs.Common.{◌≡◌, ◌≤◌, ◌+◌, length}
use Rattle.tm_cparse.specs.View.{tokens_of}
use Rattle.tm_cparse.specs.Inner.Names.{comma_count}
use Rattle.tm_cparse.proofs.names.comma_count.Given as goal

abbrev pub invariant-loop-token : goal.invariant-loop-token
invariant-loop-token l =
    (l.commas + comma_count (tokens_of l.rest) ≡ comma_count (tokens_of l.spots))
    × (l.commas + length l.rest ≤ length l.spots)

abbrev pub decreases-loop-token : goal.decreases-loop-token
decreases-loop-token l = length l.rest
