use Rattle.std.proofs.Common.{◌≤◌, ◌+◌, length}
use Rattle.tm_syntax.specs.Design.View.{design_tree}
use Rattle.tm_struct_parse.proofs.NameSteps.{IsSoFar}
use Rattle.tm_struct_parse.proofs.names.fault_within.Given as goal

abbrev pub invariant-loop-first : goal.invariant-loop-first
invariant-loop-first l =
    IsSoFar (design_tree l.design) l.count l.spots l.place l.rest × (l.place.functions + length l.rest ≤ length l.spots)

abbrev pub decreases-loop-first : goal.decreases-loop-first
decreases-loop-first l = length l.rest
