-- The terms of the operators of a driver's expressions.
use Rattle.std.specs.Prelude.{ℕ}
use Rattle.tm_base.specs.declared.shift_operator.ShiftOperator.{ShiftOperator}
use Rattle.tm_base.specs.declared.shift_operator.ShiftOperator.TheVariants.{Left, Right}
use Rattle.tm_cir.specs.declared.block.Junction.{Junction}
use Rattle.tm_cir.specs.declared.block.Junction.TheVariants as truths
use Rattle.tm_cir.specs.declared.block.NumOperator.{NumOperator}
use Rattle.tm_cir.specs.declared.block.NumOperator.TheVariants as numbers
use Rattle.tm_term.specs.declared.term.Term.{Term}
use Rattle.tm_term.specs.declared.term.Term.TheVariants as terms
use Rattle.tm_term.specs.declared.term.TermId.{TermId}

-- an operator between two numbers
abbrev pub binary_term : NumOperator → TermId → TermId → Term
binary_term numbers.Add a b = terms.Add a b
binary_term numbers.Subtract a b = terms.Sub a b
binary_term numbers.And a b = terms.And a b
binary_term numbers.Or a b = terms.Or a b
binary_term numbers.Xor a b = terms.Xor a b

-- an operator between two truths
abbrev pub joined_term : Junction → TermId → TermId → Term
joined_term truths.And a b = terms.And a b
joined_term truths.Or a b = terms.Or a b

-- a shift by a constant
abbrev pub shifted_term : ShiftOperator → TermId → ℕ → Term
shifted_term Left a by = terms.Shl a by
shifted_term Right a by = terms.Shr a by
