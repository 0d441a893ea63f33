use Rattle.std.proofs.Common.{arith}
use Rattle.std.specs.Borrow.{Bor}
use Rattle.tm_syntax.specs.declared.tree.TypeName.{TypeName}
use Rattle.tm_syntax.specs.Faults.Literals.{type_numbers}
use Rattle.tm_types.proofs.FoundPlaces.{found_all, found_more}
use Rattle.tm_types.proofs.literals.declared.types_numbers.Goals as goal

pub loop-ty-preserved : goal.loop-ty-preserved
loop-ty-preserved c =
    found_more type_numbers (λ (ty : Bor TypeName). ty.now) c.args.types.now c.loop-ty.ty-index c.ty-item.result
    (omega arith) c.ty-item.is c.type_numbers.ensures c.earlier_place-first.ensures.earlier c.loop-ty.invariant

pub returns : goal.returns
returns c =
    found_all type_numbers (λ (ty : Bor TypeName). ty.now) c.args.types.now c.loop-ty.ty-index (omega arith)
    c.loop-ty.invariant
