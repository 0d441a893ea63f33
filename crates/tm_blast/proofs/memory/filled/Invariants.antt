use Rattle.std.proofs.Common.{◌≡◌, ◌-◌, length}
use Rattle.tm_term.specs.declared.term.TermId.{TermId}
use Rattle.tm_blast.specs.Memory.{made_at, made_of}
use Rattle.tm_blast.proofs.memory.filled.Given as goal

abbrev pub invariant-loop-entries : goal.invariant-loop-entries
invariant-loop-entries l =
    (id : TermId) → made_at (made_of l.entries.items) id ≡ made_at (made_of l.initial.entries.items) id

abbrev pub decreases-loop-entries : goal.decreases-loop-entries
decreases-loop-entries l = l.count - length l.entries.items
