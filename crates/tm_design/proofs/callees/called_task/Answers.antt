use Rattle.std.proofs.Common.{◌≡◌, None, Some, slice_get, sym, ap, ◌∙◌, subst}
use Rattle.tm_syntax.specs.declared.design.Instance.{Instance}
use Rattle.tm_syntax.specs.declared.tree.Spec.{Spec}
use Rattle.tm_syntax.specs.declared.tree.Template.{Template}
use Rattle.tm_scope.specs.Cells.{CellTables}
use Rattle.tm_scope.specs.Context.{body_name}
use Rattle.tm_scope.specs.Instances.{InstanceTables, IsOver}
use Rattle.tm_locations.proofs.TableCallees.{item-read, without-instance, without-site, without-task, without-template}
use Rattle.tm_design.specs.Callees.{instances_of}
use Rattle.tm_design.proofs.Found.{nothing_found}
use Rattle.tm_design.proofs.TableCalls.{is_callee, none_called, over}
use Rattle.tm_design.proofs.callees.called_task.Goals as goal

pub returns-in_err-found-clause-none : goal.returns-in_err-found-clause-none
returns-in_err-found-clause-none c =
    nothing_found c.from_residual.result _ c.from_residual.ensures
    (λ x same e has. sym (c.in_err-found.ensures e
    (subst (λ (y : InstanceTables). IsOver y e) (sym same) (over x e has)) (body_name c.args.at.body)))

pub returns-in_err-template-clause-none : goal.returns-in_err-template-clause-none
returns-in_err-template-clause-none c =
    let task = c.in_ok-found.found in
    nothing_found c.from_residual-in_err-template.result _ c.from_residual-in_err-template.ensures
    (λ (x : CellTables) same.
    let absent : slice_get x.instances task.instance ≡ None =
    ap (λ (y : InstanceTables). slice_get y.instances task.instance) (sym same) ∙ sym c.in_err-template.ensures in
    none_called x c.args.at c.args.path.now task.instance task.index
    (λ e has body. c.in_ok-found.ensures e (subst (λ (y : InstanceTables). IsOver y e) (sym same) has) body)
    (λ e has. without-site e task.instance task.index (without-instance (instances_of x) e has task.instance absent)))

pub returns-in_err-get-clause-none : goal.returns-in_err-get-clause-none
returns-in_err-get-clause-none c =
    let task = c.in_ok-found.found in
    let i : Instance = c.in_ok-template.field-0.now in
    nothing_found c.from_residual-in_err-get.result _ c.from_residual-in_err-get.ensures
    (λ (x : CellTables) same.
    let at : slice_get x.instances task.instance ≡ Some i =
    ap (λ (y : InstanceTables). slice_get y.instances task.instance) (sym same) ∙ sym c.in_ok-template.ensures in
    let text : c.args.spec.now ≡ x.spec = c.requires ∙ ap (λ (y : InstanceTables). y.spec) same in
    let absent : slice_get x.spec.templates.items i.template ≡ None =
    ap (λ (y : Spec). slice_get y.templates.items i.template) (sym text)
    ∙ item-read c.args.spec.now.templates.items c.deref.result.now i.template None c.deref.ensures.value
    c.in_err-get.ensures.lookup in
    none_called x c.args.at c.args.path.now task.instance task.index
    (λ e has body. c.in_ok-found.ensures e (subst (λ (y : InstanceTables). IsOver y e) (sym same) has) body)
    (λ e has. without-site e task.instance task.index
    (without-template (instances_of x) e has task.instance i at absent)))

pub returns-in_err-task-clause-none : goal.returns-in_err-task-clause-none
returns-in_err-task-clause-none c =
    let task = c.in_ok-found.found in
    let i : Instance = c.in_ok-template.field-0.now in
    let t : Template = c.in_ok-get.field-0.now in
    nothing_found c.from_residual-in_err-task.result _ c.from_residual-in_err-task.ensures
    (λ (x : CellTables) same.
    let at : slice_get x.instances task.instance ≡ Some i =
    ap (λ (y : InstanceTables). slice_get y.instances task.instance) (sym same) ∙ sym c.in_ok-template.ensures in
    let text : c.args.spec.now ≡ x.spec = c.requires ∙ ap (λ (y : InstanceTables). y.spec) same in
    let there : slice_get x.spec.templates.items i.template ≡ Some t =
    ap (λ (y : Spec). slice_get y.templates.items i.template) (sym text)
    ∙ item-read c.args.spec.now.templates.items c.deref.result.now i.template (Some c.in_ok-get.field-0)
    c.deref.ensures.value c.in_ok-get.ensures.lookup in
    let absent : slice_get t.tasks.items task.index ≡ None =
    item-read t.tasks.items c.deref-2.result.now task.index None c.deref-2.ensures.value
    c.in_err-task.ensures.lookup in
    none_called x c.args.at c.args.path.now task.instance task.index
    (λ e has body. c.in_ok-found.ensures e (subst (λ (y : InstanceTables). IsOver y e) (sym same) has) body)
    (λ e has. without-task (instances_of x) e has task.instance i at t there task.index absent))

pub returns-clause-found : goal.returns-clause-found
returns-clause-found c = λ (x : CellTables) same.
    let task = c.in_ok-found.found in
    let i : Instance = c.in_ok-template.field-0.now in
    let t : Template = c.in_ok-get.field-0.now in
    let at : slice_get x.instances task.instance ≡ Some i =
    ap (λ (y : InstanceTables). slice_get y.instances task.instance) (sym same) ∙ sym c.in_ok-template.ensures in
    let text : c.args.spec.now ≡ x.spec = c.requires ∙ ap (λ (y : InstanceTables). y.spec) same in
    let there : slice_get x.spec.templates.items i.template ≡ Some t =
    ap (λ (y : Spec). slice_get y.templates.items i.template) (sym text)
    ∙ item-read c.args.spec.now.templates.items c.deref.result.now i.template (Some c.in_ok-get.field-0)
    c.deref.ensures.value c.in_ok-get.ensures.lookup in
    let is : slice_get t.tasks.items task.index ≡ Some c.in_ok-task.task.now =
    item-read t.tasks.items c.deref-2.result.now task.index (Some c.in_ok-task.task) c.deref-2.ensures.value
    c.in_ok-task.ensures.lookup in
    is_callee x c.args.at c.args.path.now task.instance task.index
    (λ e has body. c.in_ok-found.ensures e (subst (λ (y : InstanceTables). IsOver y e) (sym same) has) body)
    i at t there c.in_ok-task.task.now is
