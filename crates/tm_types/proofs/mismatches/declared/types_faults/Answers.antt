use Rattle.std.proofs.Common.{arith}
use Rattle.std.specs.Borrow.{Bor}
use Rattle.tm_syntax.specs.declared.tree.TypeName.{TypeName}
use Rattle.tm_syntax.specs.Tree.View.{spec_tree}
use Rattle.tm_syntax.specs.Faults.Mismatches.{type_faults}
use Rattle.tm_types.proofs.FoundPlaces.{found_all, found_more}
use Rattle.tm_types.proofs.mismatches.declared.types_faults.Goals as goal

pub loop-ty-preserved : goal.loop-ty-preserved
loop-ty-preserved c =
    found_more (type_faults (spec_tree c.args.names.now)) (λ (ty : Bor TypeName). ty.now) c.args.types.now
    c.loop-ty.ty-index c.ty-item.result (omega arith) c.ty-item.is c.type_faults.ensures
    c.earlier_place-first.ensures.earlier c.loop-ty.invariant

pub returns : goal.returns
returns c =
    found_all (type_faults (spec_tree c.args.names.now)) (λ (ty : Bor TypeName). ty.now) c.args.types.now
    c.loop-ty.ty-index (omega arith) c.loop-ty.invariant
