use Rattle.tm_refine.specs.Telling.{AgreeBelow}
use Rattle.tm_refine.proofs.telling.first_different.Given as goal

abbrev pub invariant-loop-place : goal.invariant-loop-place
invariant-loop-place l = AgreeBelow l.terms l.one l.other l.ids l.place
