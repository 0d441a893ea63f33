use Rattle.std.proofs.Common.{◌≡◌, Option, None, Some, slice_get, sym, ap, ◌∙◌, subst}
use Rattle.std.specs.Option.{option_map}
use Rattle.tm_syntax.specs.declared.design.Instance.{Instance}
use Rattle.tm_syntax.specs.declared.tree.Template.{Template}
use Rattle.tm_syntax.specs.Tree.View.{process_tree}
use Rattle.tm_syntax.specs.Design.Locations.{Thread}
use Rattle.tm_scope.specs.Cells.{scope_of}
use Rattle.tm_scope.specs.Instances.{InstanceTables, IsOver}
use Rattle.tm_locations.specs.declared.callees.ProcessAt.{ProcessAt}
use Rattle.tm_locations.proofs.TableCallees.{item-read, no-thread-index, no-thread-site, site-here, template-read, thread-at, without-instance, without-template}
use Rattle.tm_locations.proofs.callees.Callees.process.Goals as goal

-- the process that is found
abbrev shown : ProcessAt → Thread
shown t = record { scope = scope_of t.scope; process = process_tree t.process.now }

-- nothing is found where there is none
nothing : (r : Option ProcessAt) (o : Option Thread) → r ≡ None → o ≡ None → o ≡ option_map shown r
nothing r o none is = is ∙ sym (ap (option_map shown) none)

pub returns-in_err-template : goal.returns-in_err-template
returns-in_err-template c = λ d p over listed.
    let x : InstanceTables = c.self.inside.sites in
    let inside : IsOver x d = subst (λ (x : InstanceTables). IsOver x d) (sym c.self.view_is) over in
    nothing c.from_residual.result _ c.from_residual.ensures
    (no-thread-site d p c.args.item.now listed
    (without-instance x d inside c.args.item.now.instance (sym c.in_err-template.ensures)))

pub returns-in_err-index : goal.returns-in_err-index
returns-in_err-index c = λ d p over listed.
    nothing c.from_residual-in_err-index.result _ c.from_residual-in_err-index.ensures
    (no-thread-index d p c.args.item.now listed c.in_err-index.was)

pub returns-in_err-get : goal.returns-in_err-get
returns-in_err-get c = λ d p over listed.
    let x : InstanceTables = c.self.inside.sites in
    let inside : IsOver x d = subst (λ (x : InstanceTables). IsOver x d) (sym c.self.view_is) over in
    let item = c.args.item.now in
    let i : Instance = c.in_ok-template.field-0.now in
    let at : slice_get x.instances item.instance ≡ Some i = sym c.in_ok-template.ensures in
    let absent : slice_get x.spec.templates.items i.template ≡ None =
    template-read x c.self.inside.spec.now c.deref.result.now i.template None c.self.invariant.0
    c.deref.ensures.value c.in_err-get.ensures.lookup in
    nothing c.from_residual-in_err-get.result _ c.from_residual-in_err-get.ensures
    (no-thread-site d p item listed (without-template x d inside item.instance i at absent))

pub returns-in_err-process : goal.returns-in_err-process
returns-in_err-process c = λ d p over listed.
    let x : InstanceTables = c.self.inside.sites in
    let inside : IsOver x d = subst (λ (x : InstanceTables). IsOver x d) (sym c.self.view_is) over in
    let item = c.args.item.now in
    let i : Instance = c.in_ok-template.field-0.now in
    let t : Template = c.in_ok-get.field-0.now in
    let k = c.in_ok-index.field-0 in
    let at : slice_get x.instances item.instance ≡ Some i = sym c.in_ok-template.ensures in
    let there : slice_get x.spec.templates.items i.template ≡ Some t =
    template-read x c.self.inside.spec.now c.deref.result.now i.template (Some c.in_ok-get.field-0) c.self.invariant.0
    c.deref.ensures.value c.in_ok-get.ensures.lookup in
    let absent : slice_get t.processes.items k ≡ None =
    item-read t.processes.items c.deref-2.result.now k None c.deref-2.ensures.value c.in_err-process.ensures.lookup in
    nothing c.from_residual-in_err-process.result _ c.from_residual-in_err-process.ensures
    (thread-at d p item listed i t (site-here x d inside item.instance i at t there) k c.in_ok-index.was None absent)

pub returns : goal.returns
returns c = λ d p over listed.
    let x : InstanceTables = c.self.inside.sites in
    let inside : IsOver x d = subst (λ (x : InstanceTables). IsOver x d) (sym c.self.view_is) over in
    let item = c.args.item.now in
    let i : Instance = c.in_ok-template.field-0.now in
    let t : Template = c.in_ok-get.field-0.now in
    let k = c.in_ok-index.field-0 in
    let at : slice_get x.instances item.instance ≡ Some i = sym c.in_ok-template.ensures in
    let there : slice_get x.spec.templates.items i.template ≡ Some t =
    template-read x c.self.inside.spec.now c.deref.result.now i.template (Some c.in_ok-get.field-0) c.self.invariant.0
    c.deref.ensures.value c.in_ok-get.ensures.lookup in
    let is : slice_get t.processes.items k ≡ Some c.in_ok-process.process.now =
    item-read t.processes.items c.deref-2.result.now k (Some c.in_ok-process.process) c.deref-2.ensures.value
    c.in_ok-process.ensures.lookup in
    thread-at d p item listed i t (site-here x d inside item.instance i at t there) k c.in_ok-index.was
    (Some c.in_ok-process.process.now) is
