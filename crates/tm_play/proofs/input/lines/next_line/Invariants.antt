use Rattle.std.proofs.Common.{◌≡◌, ◌+◌, ◌≤◌, length}
use Rattle.tm_play.specs.Choices.{kept_lines}
use Rattle.tm_play.proofs.input.lines.next_line.Given as goal

abbrev pub invariant-loop-bytes : goal.invariant-loop-bytes
invariant-loop-bytes l =
    (kept_lines l.at l.rest ≡ kept_lines l.fn.number l.fn.text)
    × (l.at + length l.rest ≤ l.fn.number + length l.fn.text) × (length l.rest ≤ length l.fn.text)

abbrev pub decreases-loop-bytes : goal.decreases-loop-bytes
decreases-loop-bytes l = length l.rest
