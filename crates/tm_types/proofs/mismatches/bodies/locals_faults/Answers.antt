use Rattle.std.proofs.Common.{arith}
use Rattle.tm_syntax.specs.Tree.{LocalTree}
use Rattle.tm_syntax.specs.Tree.View.{local_tree}
use Rattle.tm_scope.specs.Context.{context_of}
use Rattle.tm_names.specs.LocalStmts.{declaration}
use Rattle.tm_types.specs.Inner.StmtFaults.{stmt_faults}
use Rattle.tm_types.proofs.FoundPlaces.{found_all, found_more}
use Rattle.tm_types.proofs.mismatches.bodies.locals_faults.Goals as goal

pub loop-local-preserved : goal.loop-local-preserved
loop-local-preserved c =
    found_more (λ (k : LocalTree). stmt_faults (context_of c.args.at.now) (declaration k)) local_tree
    c.args.locals.now c.loop-local.local-index c.local-item.result (omega arith) c.local-item.is
    c.local_faults.ensures c.earlier_place-first.ensures.earlier c.loop-local.invariant

pub returns : goal.returns
returns c =
    found_all (λ (k : LocalTree). stmt_faults (context_of c.args.at.now) (declaration k)) local_tree c.args.locals.now
    c.loop-local.local-index (omega arith) c.loop-local.invariant
