use Rattle.std.proofs.Common.{◌<◌, [], map, length}
use Rattle.tm_cparse.specs.View.{tokens_of, written_tree}
use Rattle.tm_cparse.specs.Inner.Reading.{Moves}
use Rattle.tm_cparse.specs.Inner.Blocks.{AreBlocksLeft, AreBlocksBehind}
use Rattle.tm_cparse.proofs.statement.some_blocks.Given as goal

abbrev pub invariant-loop-behind : goal.invariant-loop-behind
invariant-loop-behind l =
    Moves (AreBlocksLeft []) (AreBlocksBehind (map written_tree l.blocks.items)) (tokens_of l.spots)
    (tokens_of l.rest) × (length l.rest < length l.spots)

abbrev pub decreases-loop-behind : goal.decreases-loop-behind
decreases-loop-behind l = length l.rest
