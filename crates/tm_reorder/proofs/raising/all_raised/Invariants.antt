use Rattle.tm_reorder.specs.Inner.Raised.{AreRaised, entries_of}
use Rattle.tm_reorder.proofs.raising.all_raised.Given as goal

abbrev pub invariant-loop-rank : goal.invariant-loop-rank
invariant-loop-rank l = AreRaised l.entries l.ids (entries_of l.sets.raised l.entries) l.sets.ids.items
