-- Which operators have the type of their operands.
use Rattle.std.specs.Prelude.{Bool, true, false}
use Rattle.tm_syntax.specs.declared.tree.BinaryOperator.{BinaryOperator}
use Rattle.tm_syntax.specs.declared.tree.BinaryOperator.TheVariants.{Add, Subtract, And, Or, Xor}

-- whether the type of an operator's operands is its own
abbrev pub joins_numbers : BinaryOperator → Bool
joins_numbers Add = true
joins_numbers Subtract = true
joins_numbers And = true
joins_numbers Or = true
joins_numbers Xor = true
joins_numbers _ = false
