-- What operators ask of their operands.
use Rattle.tm_syntax.specs.declared.tree.BinaryOperator.{BinaryOperator}
use Rattle.tm_syntax.specs.declared.tree.BinaryOperator.TheVariants.{Equal, NotEqual, Less, LessEqual, Greater}
use Rattle.tm_syntax.specs.declared.tree.BinaryOperator.TheVariants.{GreaterEqual, Add, Subtract, And, AndAlso, Or}
use Rattle.tm_syntax.specs.declared.tree.BinaryOperator.TheVariants.{OrElse, Xor}
use Rattle.tm_design.specs.declared.sorts.OperatorSort.{OperatorSort}
use Rattle.tm_design.specs.declared.sorts.OperatorSort.TheVariants.{Arithmetic, Comparison, Conjunction, Disjunction}

-- the sort of an operator
abbrev pub sort_of : BinaryOperator → OperatorSort
sort_of Add = Arithmetic
sort_of Subtract = Arithmetic
sort_of And = Arithmetic
sort_of Or = Arithmetic
sort_of Xor = Arithmetic
sort_of Equal = Comparison
sort_of NotEqual = Comparison
sort_of Less = Comparison
sort_of LessEqual = Comparison
sort_of Greater = Comparison
sort_of GreaterEqual = Comparison
sort_of AndAlso = Conjunction
sort_of OrElse = Disjunction
