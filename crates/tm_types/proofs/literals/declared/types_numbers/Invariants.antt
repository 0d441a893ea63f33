use Rattle.std.proofs.Common.{◌≡◌}
use Rattle.std.specs.Borrow.{Bor}
use Rattle.tm_syntax.specs.declared.tree.TypeName.{TypeName}
use Rattle.tm_syntax.specs.Faults.Literals.{type_numbers}
use Rattle.tm_types.proofs.FoundPlaces.{found_before}
use Rattle.tm_types.proofs.literals.declared.types_numbers.Given as goal

abbrev pub invariant-loop-ty : goal.invariant-loop-ty
invariant-loop-ty l = l.first ≡ found_before type_numbers (λ (ty : Bor TypeName). ty.now) l.types l.ty-index
