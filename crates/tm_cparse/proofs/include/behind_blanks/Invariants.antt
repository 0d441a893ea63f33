use Rattle.std.proofs.Common.{◌≤◌, ◌+◌, length}
use Rattle.tm_cparse.specs.Inner.Fronts.{AreBlanks}
use Rattle.tm_cparse.proofs.include.behind_blanks.Given as goal

abbrev pub invariant-loop-first : goal.invariant-loop-first
invariant-loop-first l =
    AreBlanks l.text l.rest l.line × (l.line + length l.rest ≤ 1 + length l.text)

abbrev pub decreases-loop-first : goal.decreases-loop-first
decreases-loop-first l = length l.rest
