use Rattle.std.proofs.Common.{◌<◌, ◌≤◌, ℕ, get_or}
use Rattle.std.specs.Prelude.{slice_index}
use Rattle.tm_game_steps.proofs.reading.above_terms.Given as goal
use Rattle.tm_term.specs.declared.term.TermId.{TermId}

abbrev pub invariant-loop-index : goal.invariant-loop-index
invariant-loop-index l = (i : ℕ) (d : TermId) → i < l.index → slice_index l.reads (get_or l.ids i d).0 ≤ l.above
