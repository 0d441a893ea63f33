use Rattle.std.proofs.Common.{arith}
use Rattle.tm_syntax.specs.Tree.View.{var_tree}
use Rattle.tm_syntax.specs.Faults.Mismatches.{var_faults}
use Rattle.tm_scope.specs.Context.{context_of}
use Rattle.tm_types.proofs.FoundPlaces.{found_all, found_more}
use Rattle.tm_types.proofs.mismatches.declared.vars_faults.Goals as goal

pub loop-var-preserved : goal.loop-var-preserved
loop-var-preserved c =
    found_more (var_faults (context_of c.args.at.now).spec) var_tree c.args.vars.now c.loop-var.var-index
    c.var-item.result (omega arith) c.var-item.is c.var_faults.ensures c.earlier_place-first.ensures.earlier
    c.loop-var.invariant

pub returns : goal.returns
returns c =
    found_all (var_faults (context_of c.args.at.now).spec) var_tree c.args.vars.now c.loop-var.var-index (omega arith)
    c.loop-var.invariant
