-- What a path is wanted for.
use Rattle.std.specs.Prelude.{Bool}
use Rattle.tm_syntax.specs.Scopes.Declared.{Sort}
use Rattle.tm_syntax.specs.Faults.Mismatches.{is_enum, is_template}
use Rattle.tm_syntax.specs.Faults.Operands.{is_valued, is_assigned, is_indexed, is_called}
use Rattle.tm_types.specs.declared.mismatches.wanted.Wanted.{Wanted}
use Rattle.tm_types.specs.declared.mismatches.wanted.Wanted.TheVariants.{Value, Target, Element, Call, Enum, Template}

-- whether what is declared so is what is wanted
abbrev pub suits : Wanted → Sort → Bool
suits Value sort = is_valued sort
suits Target sort = is_assigned sort
suits Element sort = is_indexed sort
suits Call sort = is_called sort
suits Enum sort = is_enum sort
suits Template sort = is_template sort
