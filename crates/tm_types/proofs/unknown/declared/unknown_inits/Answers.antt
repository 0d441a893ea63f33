use Rattle.std.proofs.Common.{arith}
use Rattle.std.specs.List.{flat_map}
use Rattle.std.specs.Option.{option_to_list}
use Rattle.tm_syntax.specs.Tree.{VarTree}
use Rattle.tm_syntax.specs.Tree.View.{spec_tree, var_tree}
use Rattle.tm_syntax.specs.Faults.Names.{unknown_literal}
use Rattle.tm_types.proofs.FoundNames.{found_all, found_more}
use Rattle.tm_types.proofs.unknown.declared.unknown_inits.Goals as goal

pub loop-var-preserved : goal.loop-var-preserved
loop-var-preserved c =
    let unknown = λ (v : VarTree). flat_map (unknown_literal (spec_tree c.args.names.now)) (option_to_list v.init) in
    found_more unknown var_tree c.args.vars.now c.loop-var.var-index c.var-item.result (omega arith) c.var-item.is
    c.unknown_init.ensures c.earlier_mark-first.ensures c.loop-var.invariant

pub returns : goal.returns
returns c =
    let unknown = λ (v : VarTree). flat_map (unknown_literal (spec_tree c.args.names.now)) (option_to_list v.init) in
    found_all unknown var_tree c.args.vars.now c.loop-var.var-index (omega arith) c.loop-var.invariant
