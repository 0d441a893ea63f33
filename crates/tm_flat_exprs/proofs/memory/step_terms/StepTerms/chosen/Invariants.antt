use Rattle.std.proofs.Common.{take}
use Rattle.tm_flat_exprs.proofs.Versions.{TermsUntil}
use Rattle.tm_flat_exprs.proofs.memory.step_terms.StepTerms.chosen.Given as goal

abbrev pub invariant-loop-index : goal.invariant-loop-index
invariant-loop-index l = TermsUntil l.fn.terms l.terms (take l.index l.self) l.cell l.width l.ids.items l.last
