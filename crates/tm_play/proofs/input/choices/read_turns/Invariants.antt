use Rattle.std.proofs.Common.{◌≡◌, ◌+◌, ◌≤◌, ◌++◌, length}
use Rattle.tm_play.specs.Choices.{kept_lines, turns_of, in_ok}
use Rattle.tm_play.proofs.input.choices.read_turns.Given as goal

abbrev pub invariant-loop-line : goal.invariant-loop-line
invariant-loop-line l =
    (in_ok (λ ts. l.turns.items ++ ts) (turns_of l.processes (kept_lines l.at l.rest))
    ≡ turns_of l.processes (kept_lines l.fn.number l.fn.text))
    × (l.at + length l.rest ≤ l.fn.number + length l.fn.text)

abbrev pub decreases-loop-line : goal.decreases-loop-line
decreases-loop-line l = length l.rest
