-- No process so far stands at a magic block.
use Rattle.std.proofs.Common.{◌≡◌, false, length, take}
use Rattle.std.specs.List.{list_any, range_with_len}
use Rattle.tm_syntax.specs.Design.View.{design_tree}
use Rattle.tm_sem.specs.Step.{stands_at_magic}
use Rattle.tm_plain.proofs.machine.Machine.magic.Given as goal

abbrev pub invariant-loop-number : goal.invariant-loop-number
invariant-loop-number l =
    list_any (stands_at_magic (design_tree l.self) l.state)
    (take l.number (range_with_len 0 (length l.self.processes.items))) ≡ false
