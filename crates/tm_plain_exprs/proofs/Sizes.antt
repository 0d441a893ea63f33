-- How large expressions are.
use Rattle.std.proofs.Common.{ℕ, ◌+◌}
use Rattle.tm_syntax.specs.Tree.{ExprTree, truth, number, path, group, unary, binary, shift, conditional, cast, element}

-- one more than what stands within an expression
abbrev pub expr_size : ExprTree → ℕ
expr_size (truth _ _) = 0
expr_size (number _) = 0
expr_size (path _) = 0
expr_size (group _ e) = 1 + expr_size e
expr_size (unary _ _ e) = 1 + expr_size e
expr_size (binary _ _ a b) = 1 + (expr_size a + expr_size b)
expr_size (shift _ _ e _) = 1 + expr_size e
expr_size (conditional _ test a b) = 1 + (expr_size test + (expr_size a + expr_size b))
expr_size (cast _ _ e) = 1 + expr_size e
expr_size (element _ e) = 1 + expr_size e
