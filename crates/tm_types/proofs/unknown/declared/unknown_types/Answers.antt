use Rattle.std.proofs.Common.{arith}
use Rattle.std.specs.Borrow.{Bor}
use Rattle.tm_syntax.specs.declared.tree.TypeName.{TypeName}
use Rattle.tm_syntax.specs.Tree.View.{spec_tree}
use Rattle.tm_syntax.specs.Faults.Names.{unknown_type}
use Rattle.tm_types.proofs.FoundNames.{found_all, found_more}
use Rattle.tm_types.proofs.unknown.declared.unknown_types.Goals as goal

pub loop-ty-preserved : goal.loop-ty-preserved
loop-ty-preserved c =
    found_more (unknown_type (spec_tree c.args.names.now)) (λ (ty : Bor TypeName). ty.now) c.args.types.now
    c.loop-ty.ty-index c.ty-item.result (omega arith) c.ty-item.is c.unknown_type.ensures
    c.earlier_mark-first.ensures c.loop-ty.invariant

pub returns : goal.returns
returns c =
    found_all (unknown_type (spec_tree c.args.names.now)) (λ (ty : Bor TypeName). ty.now) c.args.types.now
    c.loop-ty.ty-index (omega arith) c.loop-ty.invariant
