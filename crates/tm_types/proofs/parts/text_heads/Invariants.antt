use Rattle.tm_types.proofs.TextHeads.{HeadsBefore}
use Rattle.tm_types.proofs.parts.text_heads.Given as goal

abbrev pub invariant-loop-number : goal.invariant-loop-number
invariant-loop-number l = HeadsBefore l.names l.templates l.heads.items l.number
