-- The operators of nodes.
use Rattle.tm_base.specs.declared.shift_operator.ShiftOperator.{ShiftOperator}
use Rattle.tm_base.specs.declared.shift_operator.ShiftOperator.TheVariants as shifts
use Rattle.tm_syntax.specs.declared.tree.UnaryOperator.{UnaryOperator}
use Rattle.tm_syntax.specs.declared.tree.UnaryOperator.TheVariants as unary
use Rattle.tm_syntax.specs.declared.tree.BinaryOperator.{BinaryOperator}
use Rattle.tm_syntax.specs.declared.tree.BinaryOperator.TheVariants as binary
use Rattle.tm_atoms.specs.declared.node.Operator.{Operator}
use Rattle.tm_atoms.specs.declared.node.Operator.TheVariants as operator

-- a prefix operator
abbrev pub unary_of : UnaryOperator → Operator
unary_of unary.Complement = operator.Complement
unary_of unary.Not = operator.Not

-- an operator between two expressions
abbrev pub binary_of : BinaryOperator → Operator
binary_of binary.Equal = operator.Equal
binary_of binary.NotEqual = operator.NotEqual
binary_of binary.Less = operator.Less
binary_of binary.LessEqual = operator.LessEqual
binary_of binary.Greater = operator.Greater
binary_of binary.GreaterEqual = operator.GreaterEqual
binary_of binary.Add = operator.Add
binary_of binary.Subtract = operator.Subtract
binary_of binary.And = operator.And
binary_of binary.AndAlso = operator.AndAlso
binary_of binary.Or = operator.Or
binary_of binary.OrElse = operator.OrElse
binary_of binary.Xor = operator.Xor

-- a shift
abbrev pub shift_of : ShiftOperator → Operator
shift_of shifts.Left = operator.ShiftLeft
shift_of shifts.Right = operator.ShiftRight
