use Rattle.std.proofs.Common.{arith}
use Rattle.tm_syntax.specs.Tree.View.{var_tree}
use Rattle.tm_syntax.specs.Faults.Literals.{var_numbers}
use Rattle.tm_types.proofs.FoundPlaces.{found_all, found_more}
use Rattle.tm_types.proofs.literals.declared.vars_numbers.Goals as goal

pub loop-var-preserved : goal.loop-var-preserved
loop-var-preserved c =
    found_more var_numbers var_tree c.args.vars.now c.loop-var.var-index c.var-item.result (omega arith) c.var-item.is
    c.var_numbers.ensures c.earlier_place-first.ensures.earlier c.loop-var.invariant

pub returns : goal.returns
returns c =
    found_all var_numbers var_tree c.args.vars.now c.loop-var.var-index (omega arith) c.loop-var.invariant
