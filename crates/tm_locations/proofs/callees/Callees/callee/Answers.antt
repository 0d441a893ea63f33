use Rattle.std.proofs.Common.{◌≡◌, Option, None, Some, slice_get, sym, ap, ◌∙◌, subst}
use Rattle.std.specs.Option.{option_map}
use Rattle.tm_syntax.specs.declared.design.Instance.{Instance}
use Rattle.tm_syntax.specs.declared.tree.Template.{Template}
use Rattle.tm_syntax.specs.Tree.{BodyTree}
use Rattle.tm_syntax.specs.Tree.View.{body_tree}
use Rattle.tm_syntax.specs.Design.Cells.{called}
use Rattle.tm_syntax.specs.Design.Scope.{Scope}
use Rattle.tm_scope.specs.Cells.{scope_of}
use Rattle.tm_scope.specs.Instances.{InstanceTables, IsOver}
use Rattle.tm_locations.specs.Inner.Walks.{seen}
use Rattle.tm_locations.specs.declared.callees.CalledTask.{CalledTask}
use Rattle.tm_locations.proofs.TableCallees.{here, item-read, member-task, site-here, template-read, with-task, without-instance, without-site, without-task, without-template}
use Rattle.tm_locations.proofs.WalkCalls.{told}
use Rattle.tm_locations.proofs.callees.Callees.callee.Goals as goal

-- what is seen of a task that is found
abbrev shown : CalledTask → Scope × BodyTree
shown c = seen (scope_of c.scope) (body_tree c.def.now.body)

-- nothing is found where nothing is called
nothing : (r : Option CalledTask) (o : Option (Scope × BodyTree)) → r ≡ None → None ≡ o → option_map shown r ≡ o
nothing r o none is = ap (option_map shown) none ∙ is

pub returns-in_err-task-clause-body : goal.returns-in_err-task-clause-body
returns-in_err-task-clause-body c = λ d over within.
    let inside : IsOver c.self.inside.sites d = subst (λ (x : InstanceTables). IsOver x d) (sym c.self.view_is) over in
    nothing c.from_residual.result
    (option_map told (called d (record { instance = c.args.instance; body = within }) c.args.path.now))
    c.from_residual.ensures (ap (option_map told) (c.in_err-task.ensures d inside within))

pub returns-in_err-template-clause-body : goal.returns-in_err-template-clause-body
returns-in_err-template-clause-body c = λ d over within.
    let x : InstanceTables = c.self.inside.sites in
    let inside : IsOver x d = subst (λ (x : InstanceTables). IsOver x d) (sym c.self.view_is) over in
    let task = c.in_ok-task.task in
    nothing c.from_residual-in_err-template.result
    (option_map told (called d (record { instance = c.args.instance; body = within }) c.args.path.now))
    c.from_residual-in_err-template.ensures
    (sym (without-site d task.instance task.index
    (without-instance x d inside task.instance (sym c.in_err-template.ensures)))
    ∙ ap (option_map told) (c.in_ok-task.ensures d inside within))

pub returns-in_err-get-clause-body : goal.returns-in_err-get-clause-body
returns-in_err-get-clause-body c = λ d over within.
    let x : InstanceTables = c.self.inside.sites in
    let inside : IsOver x d = subst (λ (x : InstanceTables). IsOver x d) (sym c.self.view_is) over in
    let task = c.in_ok-task.task in
    let i : Instance = c.in_ok-template.field-0.now in
    let at : slice_get x.instances task.instance ≡ Some i = sym c.in_ok-template.ensures in
    let absent : slice_get x.spec.templates.items i.template ≡ None =
    template-read x c.self.inside.spec.now c.deref.result.now i.template None c.self.invariant.0
    c.deref.ensures.value c.in_err-get.ensures.lookup in
    nothing c.from_residual-in_err-get.result
    (option_map told (called d (record { instance = c.args.instance; body = within }) c.args.path.now))
    c.from_residual-in_err-get.ensures
    (sym (without-site d task.instance task.index (without-template x d inside task.instance i at absent))
    ∙ ap (option_map told) (c.in_ok-task.ensures d inside within))

pub returns-in_err-def-clause-body : goal.returns-in_err-def-clause-body
returns-in_err-def-clause-body c = λ d over within.
    let x : InstanceTables = c.self.inside.sites in
    let inside : IsOver x d = subst (λ (x : InstanceTables). IsOver x d) (sym c.self.view_is) over in
    let task = c.in_ok-task.task in
    let i : Instance = c.in_ok-template.field-0.now in
    let t : Template = c.in_ok-get.field-0.now in
    let at : slice_get x.instances task.instance ≡ Some i = sym c.in_ok-template.ensures in
    let there : slice_get x.spec.templates.items i.template ≡ Some t =
    template-read x c.self.inside.spec.now c.deref.result.now i.template (Some c.in_ok-get.field-0) c.self.invariant.0
    c.deref.ensures.value c.in_ok-get.ensures.lookup in
    let absent : slice_get t.tasks.items task.index ≡ None =
    item-read t.tasks.items c.deref-2.result.now task.index None c.deref-2.ensures.value c.in_err-def.ensures.lookup in
    nothing c.from_residual-in_err-def.result
    (option_map told (called d (record { instance = c.args.instance; body = within }) c.args.path.now))
    c.from_residual-in_err-def.ensures
    (sym (without-task x d inside task.instance i at t there task.index absent)
    ∙ ap (option_map told) (c.in_ok-task.ensures d inside within))

pub returns-clause-body : goal.returns-clause-body
returns-clause-body c = λ d over within.
    let x : InstanceTables = c.self.inside.sites in
    let inside : IsOver x d = subst (λ (x : InstanceTables). IsOver x d) (sym c.self.view_is) over in
    let task = c.in_ok-task.task in
    let i : Instance = c.in_ok-template.field-0.now in
    let t : Template = c.in_ok-get.field-0.now in
    let at : slice_get x.instances task.instance ≡ Some i = sym c.in_ok-template.ensures in
    let there : slice_get x.spec.templates.items i.template ≡ Some t =
    template-read x c.self.inside.spec.now c.deref.result.now i.template (Some c.in_ok-get.field-0) c.self.invariant.0
    c.deref.ensures.value c.in_ok-get.ensures.lookup in
    let is : slice_get t.tasks.items task.index ≡ Some c.in_ok-def.def.now =
    item-read t.tasks.items c.deref-2.result.now task.index (Some c.in_ok-def.def) c.deref-2.ensures.value
    c.in_ok-def.ensures.lookup in
    sym (with-task x d inside task.instance i at t there task.index c.in_ok-def.def.now is)
    ∙ ap (option_map told) (c.in_ok-task.ensures d inside within)

pub returns-clause-task : goal.returns-clause-task
returns-clause-task c = λ d over.
    let x : InstanceTables = c.self.inside.sites in
    let inside : IsOver x d = subst (λ (x : InstanceTables). IsOver x d) (sym c.self.view_is) over in
    let task = c.in_ok-task.task in
    let i : Instance = c.in_ok-template.field-0.now in
    let t : Template = c.in_ok-get.field-0.now in
    let at : slice_get x.instances task.instance ≡ Some i = sym c.in_ok-template.ensures in
    let there : slice_get x.spec.templates.items i.template ≡ Some t =
    template-read x c.self.inside.spec.now c.deref.result.now i.template (Some c.in_ok-get.field-0) c.self.invariant.0
    c.deref.ensures.value c.in_ok-get.ensures.lookup in
    let is : slice_get t.tasks.items task.index ≡ Some c.in_ok-def.def.now =
    item-read t.tasks.items c.deref-2.result.now task.index (Some c.in_ok-def.def) c.deref-2.ensures.value
    c.in_ok-def.ensures.lookup in (
      here x d inside task.instance i at t there,
      site-here x d inside task.instance i at t there,
      member-task x d inside task.instance i at t there task.index c.in_ok-def.def.now is,
    )
