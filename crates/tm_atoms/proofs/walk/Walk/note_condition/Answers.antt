use Rattle.std.proofs.Common.{refl}
use Rattle.std.proofs.lemmas.Result.{on_ok_weaker}
use Rattle.tm_syntax.specs.Tree.View.{expr_tree}
use Rattle.tm_syntax.specs.Design.{DesignTree}
use Rattle.tm_syntax.specs.Design.Atoms.{expr_atoms}
use Rattle.tm_syntax.specs.Design.Scope.{site}
use Rattle.tm_scope.specs.Cells.{HasCells, ScopedCells, scope_of}
use Rattle.tm_atoms.specs.Inner.Bodies.{cell_design}
use Rattle.tm_atoms.specs.Inner.Pools.{Adds, pool_of}
use Rattle.tm_atoms.proofs.BodyTables.{scope-at, scope-there}
use Rattle.tm_atoms.proofs.walk.Walk.note_condition.Goals as goal

pub note_within-requires : goal.note_within-requires
note_within-requires c =
    let d = cell_design c.args.bodies.now in
    scope-at (site d c.args.scope.instance) c.scope-cells.result _
    (c.scope-cells.ensures d (record { text = refl; instances = refl; vars = refl }))

pub returns : goal.returns
returns c =
    on_ok_weaker c.note_within.result (λ h. record {
      entered = refl;
      todo = refl;
      adds = λ d over at there.
          scope-there (λ (s : ScopedCells). (d : DesignTree) → HasCells s.tables d →
          Adds d (pool_of c.args.self.now.pool) (pool_of c.note_within.new.self)
          (expr_atoms d (scope_of c.args.scope) (expr_tree c.args.e.now)))
          (site d c.args.scope.instance) at c.scope-cells.result _ (c.scope-cells.ensures d over) there h d over;
    }) c.note_within.ensures
