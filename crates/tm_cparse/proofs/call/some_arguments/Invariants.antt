use Rattle.std.proofs.Common.{◌<◌, [], map, length}
use Rattle.tm_cir.specs.View.{num_tree}
use Rattle.tm_cparse.specs.View.{tokens_of}
use Rattle.tm_cparse.specs.Inner.Reading.{Moves}
use Rattle.tm_cparse.specs.Inner.Statements.{AreArgumentsLeft, AreArgumentsBehind}
use Rattle.tm_cparse.proofs.call.some_arguments.Given as goal

abbrev pub invariant-loop-behind : goal.invariant-loop-behind
invariant-loop-behind l =
    Moves (AreArgumentsLeft []) (AreArgumentsBehind (map num_tree l.args.items)) (tokens_of l.spots)
    (tokens_of l.rest) × (length l.rest < length l.spots)

abbrev pub decreases-loop-behind : goal.decreases-loop-behind
decreases-loop-behind l = length l.rest
