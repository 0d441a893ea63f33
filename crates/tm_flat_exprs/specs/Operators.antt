-- The terms of operators.
use Rattle.std.specs.Prelude.{ℕ, ◌==◌, Bool, true, false, ◌&&◌, ◌||◌, not}
use Rattle.tm_base.specs.declared.shift_operator.ShiftOperator.{ShiftOperator}
use Rattle.tm_base.specs.declared.shift_operator.ShiftOperator.TheVariants.{Left, Right}
use Rattle.tm_syntax.specs.declared.tree.BinaryOperator.{BinaryOperator}
use Rattle.tm_syntax.specs.declared.tree.BinaryOperator.TheVariants.{Equal, NotEqual, Less, LessEqual, Greater}
use Rattle.tm_syntax.specs.declared.tree.BinaryOperator.TheVariants.{GreaterEqual, Add, Subtract, And, AndAlso, Or}
use Rattle.tm_syntax.specs.declared.tree.BinaryOperator.TheVariants.{OrElse, Xor}
use Rattle.tm_term.specs.declared.term.TermId.{TermId}
use Rattle.tm_term.specs.declared.term.Term.{Term}
use Rattle.tm_term.specs.declared.term.Term.TheVariants as terms
use Rattle.tm_design.specs.declared.sorts.OperatorSort.{OperatorSort}
use Rattle.tm_design.specs.declared.sorts.OperatorSort.TheVariants.{Arithmetic}

-- the term of an operator between two terms, or of the operator that it denies
abbrev pub joined_term : BinaryOperator → TermId → TermId → Term
joined_term Add a b = terms.Add a b
joined_term Subtract a b = terms.Sub a b
joined_term And a b = terms.And a b
joined_term Or a b = terms.Or a b
joined_term Xor a b = terms.Xor a b
joined_term Equal a b = terms.Eq a b
joined_term NotEqual a b = terms.Eq a b
joined_term Less a b = terms.Less a b
joined_term LessEqual a b = terms.Less b a
joined_term Greater a b = terms.Less b a
joined_term GreaterEqual a b = terms.Less a b
joined_term AndAlso a b = terms.And a b
joined_term OrElse a b = terms.Or a b

-- whether an operator is the denial of its term
abbrev pub is_denial : BinaryOperator → Bool
is_denial NotEqual = true
is_denial LessEqual = true
is_denial GreaterEqual = true
is_denial _ = false

-- the width of what an operator gives of two terms of a width
abbrev pub joined_width : OperatorSort → ℕ → ℕ
joined_width Arithmetic w = w
joined_width _ w = 1

-- the term of a shift
abbrev pub shifted_term : ShiftOperator → TermId → ℕ → Term
shifted_term Left a by = terms.Shl a by
shifted_term Right a by = terms.Shr a by

-- whether an operator overruns, by the value of its first operand and by whether each of the two does: the second one
-- counts only where it is valued
abbrev pub joined_overrun : BinaryOperator → ℕ → Bool → Bool → Bool
joined_overrun AndAlso n first second = first || not (n == 0) && second
joined_overrun OrElse n first second = first || not (not (n == 0)) && second
joined_overrun _ n first second = first || second

-- whether a conditional overruns, by the value of its test, by whether this does, and by whether each branch does
abbrev pub chosen_overrun : ℕ → Bool → Bool → Bool → Bool
chosen_overrun n test first second = test || (not (n == 0) && first || not (not (n == 0)) && second)
