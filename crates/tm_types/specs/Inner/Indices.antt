-- Which expressions are numbers as they are written.
use Rattle.std.specs.Prelude.{Bool, true, false}
use Rattle.tm_syntax.specs.Tree.{ExprTree, number}

-- whether an expression is a NUMBER
abbrev pub is_number : ExprTree → Bool
is_number (number _) = true
is_number _ = false
