use Rattle.std.proofs.Common.{◌≡◌, ℕ, ◌+◌, ◌-◌, ◌≤◌, length, max}
use Rattle.tm_blast.specs.Marks.{is_marked}
use Rattle.tm_blast.proofs.marks.fill.Given as goal

abbrev pub invariant-loop-marks : goal.invariant-loop-marks
invariant-loop-marks l = record {
  same : (d : ℕ) → is_marked l.marks.items d ≡ is_marked l.initial.marks.items d;
  within : length l.marks.items ≤ max (length l.initial.marks.items) (l.place + 1);
}

abbrev pub decreases-loop-marks : goal.decreases-loop-marks
decreases-loop-marks l = l.place + 1 - length l.marks.items
