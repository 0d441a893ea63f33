use Rattle.std.proofs.Common.{◌≤◌, [], length, map}
use Rattle.tm_cparse.specs.View.{tokens_of}
use Rattle.tm_cparse.specs.Inner.Reading.{Moves}
use Rattle.tm_struct_parse.specs.View.{named_tree}
use Rattle.tm_struct_parse.specs.Inner.Forms.{IsProgram}
use Rattle.tm_struct_parse.proofs.program.functions.Given as goal

abbrev pub invariant-loop-behind : goal.invariant-loop-behind
invariant-loop-behind l =
    Moves (IsProgram []) (IsProgram (map named_tree l.functions.items)) (tokens_of l.spots) (tokens_of l.rest)
    × (length l.rest ≤ length l.spots)

abbrev pub decreases-loop-behind : goal.decreases-loop-behind
decreases-loop-behind l = length l.rest
