use Rattle.std.proofs.Common.{◌≡◌, None, sym, ap, subst}
use Rattle.std.proofs.lemmas.Option.{IfSome_then}
use Rattle.std.specs.Prelude.{IfNone, IfSome}
use Rattle.tm_syntax.specs.declared.design.Design.{Design}
use Rattle.tm_syntax.specs.Design.{DesignTree}
use Rattle.tm_syntax.specs.Design.Cells.{called}
use Rattle.tm_scope.specs.Cells.{HasCells, scope_of}
use Rattle.tm_scope.specs.Instances.{InstanceTables}
use Rattle.tm_design.specs.Callees.{IsCallee}
use Rattle.tm_design.proofs.Found.{none_then}
use Rattle.tm_plain_bodies.specs.Tables.{tables_of}
use Rattle.tm_plain_bodies.proofs.runner.Runner.callee.Goals as goal

pub called_task-requires : goal.called_task-requires
called_task-requires c = sym (ap (λ (y : InstanceTables). y.spec) c.self.invariant.2)

pub returns-clause-found : goal.returns-clause-found
returns-clause-found c =
    subst (λ (m : Design). IfSome c.called_task.result (λ found.
    IsCallee (tables_of m) c.args.at c.args.path.now found.at found.task.now)) c.self.view_is
    (IfSome_then c.called_task.result c.called_task.ensures.found
    (λ found is. is (tables_of c.self.inside.design.now) c.self.invariant.2))

pub returns-clause-none : goal.returns-clause-none
returns-clause-none c =
    subst (λ (m : Design). IfNone c.called_task.result ((d : DesignTree) → HasCells (tables_of m) d →
    called d (scope_of c.args.at) c.args.path.now ≡ None)) c.self.view_is
    (none_then c.called_task.result c.called_task.ensures.none
    (λ none. none (tables_of c.self.inside.design.now) c.self.invariant.2))
