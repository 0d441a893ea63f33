-- The operators that decide by their first operand.
use Rattle.std.specs.Prelude.{ℕ, ◌==◌, Bool, false, not}
use Rattle.tm_syntax.specs.declared.tree.BinaryOperator.{BinaryOperator}
use Rattle.tm_syntax.specs.declared.tree.BinaryOperator.TheVariants.{AndAlso, OrElse}

-- whether the value of the first operand decides what the operator gives, so that the second one is not valued
abbrev pub decides : BinaryOperator → ℕ → Bool
decides AndAlso n = n == 0
decides OrElse n = not (n == 0)
decides _ n = false
