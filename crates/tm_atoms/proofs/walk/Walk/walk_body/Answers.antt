use Rattle.tm_syntax.specs.Tree.View.{body_tree}
use Rattle.tm_syntax.specs.Scopes.Parts.{stmts_in}
use Rattle.tm_scope.specs.Cells.{scope_of}
use Rattle.tm_atoms.specs.Pool.{with_atoms}
use Rattle.tm_atoms.specs.Inner.Pools.{noted_atoms}
use Rattle.tm_atoms.specs.Inner.Walks.{WalkTables, stmts_atoms, tables_of}
use Rattle.tm_atoms.proofs.WalkSteps.{owes-root}
use Rattle.tm_atoms.proofs.walk.Walk.walk_body.Goals as goal

pub returns : goal.returns
returns c = λ d over rank ranked root idle.
    let w : WalkTables = tables_of c.args.self.now in
    let scope = scope_of c.args.scope in
    let body = body_tree c.args.body.now in
    let all = with_atoms d (noted_atoms w.pool) (stmts_atoms d scope (stmts_in body)) in
    let ended = c.in_ok-run.ensures d over rank ranked all
    (c.in_ok-enter.ensures.settles d rank all idle.numbered (owes-root d rank w scope body root idle)) in
    record { idle = ended.0; are = ended.1 }
