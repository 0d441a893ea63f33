use Rattle.std.proofs.Common.{◌≡◌, ◌++◌, replicate}
use Rattle.tm_struct.proofs.printer.push_indent.Given as goal

abbrev pub invariant-loop-count : goal.invariant-loop-count
invariant-loop-count l = l.text.items ≡ l.initial.text.items ++ replicate l._count 9
