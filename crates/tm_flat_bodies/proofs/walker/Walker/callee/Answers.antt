use Rattle.std.proofs.Common.{◌∙◌, sym, ap}
use Rattle.std.proofs.lemmas.Option.{IfSome_then}
use Rattle.tm_scope.specs.Instances.{InstanceTables}
use Rattle.tm_design.proofs.Found.{none_then}
use Rattle.tm_flat_bodies.proofs.walker.Walker.callee.Goals as goal

pub called_task-requires : goal.called_task-requires
called_task-requires c =
    c.spec.ensures ∙ c.args.self.now.same_text ∙ sym (ap (λ (y : InstanceTables). y.spec) c.args.self.now.same_sites)

pub returns-clause-found : goal.returns-clause-found
returns-clause-found c =
    IfSome_then c.called_task.result c.called_task.ensures.found
    (λ found is. is c.args.self.now.cells.now c.args.self.now.same_sites)

pub returns-clause-none : goal.returns-clause-none
returns-clause-none c =
    none_then c.called_task.result c.called_task.ensures.none
    (λ none. none c.args.self.now.cells.now c.args.self.now.same_sites)
