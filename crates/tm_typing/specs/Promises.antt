-- What a checked specification promises of its expressions.
use Rattle.std.specs.Prelude.{◌≡◌, Some}
use Rattle.tm_syntax.specs.declared.design.Ty.{Ty}
use Rattle.tm_syntax.specs.Scopes.Parts.{ExprAt}
use Rattle.tm_typing.specs.HasType.{HasType}

-- if the place of an expression asks for a type, the expression has it; where none is asked for, nothing is said
abbrev pub HasAskedType : ExprAt → Type 0
HasAskedType e = (ty : Ty) → e.asked.ty ≡ Some ty → HasType e.context ty e.asked.expr
