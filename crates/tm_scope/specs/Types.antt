-- What the types of the code are as resolved types.
use Rattle.std.specs.Prelude.{◌^◌, unwrap_or}
use Rattle.tm_syntax.specs.declared.design.Ty.{Ty}
use Rattle.tm_syntax.specs.declared.design.Ty.TheVariants as types
use Rattle.tm_scope.specs.declared.types.ExprType.{ExprType}
use Rattle.tm_scope.specs.declared.types.ExprType.TheVariants.{Bool, Uint, Enum}

-- a type; all widths from 2 ^ 64 on are one
abbrev pub ty_of : ExprType → Ty
ty_of Bool = types.Bool
ty_of (Uint bits) = types.Uint (unwrap_or bits (2 ^ 64))
ty_of (Enum name) = types.Enum name.now
