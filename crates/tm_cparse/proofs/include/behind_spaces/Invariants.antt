use Rattle.std.proofs.Common.{length}
use Rattle.tm_cparse.specs.Inner.Fronts.{EndsAlike}
use Rattle.tm_cparse.proofs.include.behind_spaces.Given as goal

abbrev pub invariant-loop-first : goal.invariant-loop-first
invariant-loop-first l = EndsAlike l.text l.rest

abbrev pub decreases-loop-first : goal.decreases-loop-first
decreases-loop-first l = length l.rest
