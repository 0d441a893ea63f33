use Rattle.std.proofs.Common.{List, [], map, sym, subst, arith}
use Rattle.std.proofs.lemmas.List.{take_all}
use Rattle.tm_syntax.specs.declared.tree.TaskDef.{TaskDef}
use Rattle.tm_syntax.specs.Tree.View.{task_tree}
use Rattle.tm_names.specs.declared.scopes.scope.Scope.{Scope}
use Rattle.tm_names.specs.TextScopes.{Each, none, IsTaskScope}
use Rattle.tm_names.proofs.ScopeLists.{each_more}
use Rattle.tm_names.proofs.scopes.text_scopes.task_scopes.Goals as goal

pub loop-task-init : goal.loop-task-init
loop-task-init c = λ around is.
    subst (λ (ys : List Scope). Each (IsTaskScope around c.args.members.now) [] ys) (sym c.new-scopes.ensures.items)
    none

pub loop-task-preserved : goal.loop-task-preserved
loop-task-preserved c = λ around is.
    each_more (IsTaskScope around c.args.members.now) task_tree c.args.tasks.now c.loop-task.task-index
    c.task-item.result c.loop-task.scopes.items c.push.new.self.items c.in_ok-task_scope.field-0
    (omega (arith, c.loop-task-test.true)) c.task-item.is c.in_ok-push.ensures.items
    (c.in_ok-task_scope.ensures around is) (c.loop-task.invariant around is)

pub returns : goal.returns
returns c = λ around is.
    subst (λ (xs : List TaskDef). Each (IsTaskScope around c.args.members.now) (map task_tree xs)
    c.loop-task.scopes.items)
    (take_all c.loop-task.task-index c.args.tasks.now (omega (arith, c.loop-task-test.false)))
    (c.loop-task.invariant around is)
