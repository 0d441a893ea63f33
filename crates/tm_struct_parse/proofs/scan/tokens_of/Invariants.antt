use Rattle.std.proofs.Common.{length}
use Rattle.tm_syntax.specs.Design.View.{design_tree}
use Rattle.tm_struct_parse.proofs.Scans.{IsSoFar}
use Rattle.tm_struct_parse.proofs.scan.tokens_of.Given as goal

abbrev pub invariant-loop-spot : goal.invariant-loop-spot
invariant-loop-spot l = IsSoFar (design_tree l.design) l.line l.text l.spots.items l.open_count l.last l.rest

abbrev pub decreases-loop-spot : goal.decreases-loop-spot
decreases-loop-spot l = length l.rest
