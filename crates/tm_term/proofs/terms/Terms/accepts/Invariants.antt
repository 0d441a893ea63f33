use Rattle.std.proofs.Common.{◌≡◌, ℕ, ◌^◌, ◌<◌, length}
use Rattle.std.specs.Prelude.{slice_index}
use Rattle.tm_term.proofs.terms.Terms.accepts.Given as goal

abbrev pub invariant-loop-i : goal.invariant-loop-i
invariant-loop-i l =
    (length l.values ≡ length l.self-inside.inputs.items)
    × ((k : ℕ) → k < l.i → slice_index l.values k < 2 ^ slice_index l.self-inside.inputs.items k)
