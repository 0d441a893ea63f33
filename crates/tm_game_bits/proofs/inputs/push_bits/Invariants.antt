use Rattle.std.proofs.Common.{◌≡◌, ◌++◌}
use Rattle.tm_blast.specs.Numbers.{level_lists}
use Rattle.tm_game_bits.specs.Inputs.{bit_levels}
use Rattle.tm_game_bits.proofs.inputs.push_bits.Given as goal

abbrev pub invariant-loop-bit : goal.invariant-loop-bit
invariant-loop-bit l =
    level_lists l.levels.items ≡ level_lists l.fn.levels.items ++ bit_levels l.first l.bit
