use Rattle.std.proofs.Common.{◌≡◌, ◌++◌}
use Rattle.std.specs.List.{flat_map, range_with_len}
use Rattle.tm_gen.specs.Generated.{register_lines, text_of}
use Rattle.tm_gen.proofs.specification.push_registers.Given as goal

abbrev pub invariant-loop-k : goal.invariant-loop-k
invariant-loop-k l =
    l.text.items ≡ l.initial.text.items ++ text_of (flat_map register_lines (range_with_len 0 l.k))
