-- What the code finds of an expression, as plain data.
use Rattle.std.specs.Prelude.{◌≡◌, Option, List}
use Rattle.tm_base.specs.declared.place.Place.{Place}
use Rattle.tm_syntax.specs.declared.design.Ty.{Ty}
use Rattle.tm_syntax.specs.Faults.Operands as text
use Rattle.tm_scope.specs.Types.{ty_of}
use Rattle.tm_types.specs.Firsts.{first_of}
use Rattle.tm_types.specs.declared.mismatches.findings.Finding.{Finding}
use Rattle.tm_types.specs.declared.mismatches.findings.Finding.TheVariants.{AtFault, Untyped, Typed}
use Rattle.tm_types.specs.declared.mismatches.operators.Operand.{Operand}

-- a finding
abbrev pub finding_of : Finding → text.Finding
finding_of AtFault = text.at_fault
finding_of Untyped = text.untyped
finding_of (Typed ty) = text.typed (ty_of ty)

-- an operand has these faults within it and this type of its own
pub record IsOperand (x : Operand) (faults : List Place) (ty : Option Ty) : Type 0 where
  pub first : x.first ≡ first_of faults
  pub found : finding_of x.found ≡ text.finding faults ty
