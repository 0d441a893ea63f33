use Rattle.std.proofs.Common.{length}
use Rattle.tm_struct_parse.proofs.Popped.{drafted, IsPart}
use Rattle.tm_struct_parse.proofs.draft.trees.Given as goal

abbrev pub invariant-loop-named : goal.invariant-loop-named
invariant-loop-named l = IsPart (drafted l.fn.drafts.items) l.drafts.items l.trees.items

abbrev pub decreases-loop-named : goal.decreases-loop-named
decreases-loop-named l = length l.drafts.items
