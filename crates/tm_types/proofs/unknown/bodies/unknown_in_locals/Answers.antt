use Rattle.std.proofs.Common.{arith}
use Rattle.tm_syntax.specs.Tree.{LocalTree}
use Rattle.tm_syntax.specs.Tree.View.{local_tree}
use Rattle.tm_scope.specs.Context.{context_of}
use Rattle.tm_names.specs.LocalStmts.{declaration}
use Rattle.tm_types.specs.Inner.UnknownParts.{unknown_in_stmt}
use Rattle.tm_types.proofs.FoundNames.{found_all, found_more}
use Rattle.tm_types.proofs.unknown.bodies.unknown_in_locals.Goals as goal

pub loop-local-preserved : goal.loop-local-preserved
loop-local-preserved c =
    let unknown = λ (l : LocalTree). unknown_in_stmt (context_of c.args.site.now) (declaration l) in
    found_more unknown local_tree c.args.locals.now c.loop-local.local-index c.local-item.result (omega arith)
    c.local-item.is c.unknown_in_local.ensures c.earlier_mark-first.ensures c.loop-local.invariant

pub returns : goal.returns
returns c =
    let unknown = λ (l : LocalTree). unknown_in_stmt (context_of c.args.site.now) (declaration l) in
    found_all unknown local_tree c.args.locals.now c.loop-local.local-index (omega arith) c.loop-local.invariant
