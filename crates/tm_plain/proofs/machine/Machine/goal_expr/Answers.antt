use Rattle.std.proofs.Common.{◌≡◌, None, Some, sym, ap, ◌∙◌, subst}
use Rattle.tm_syntax.specs.Tree.View.{expr_tree}
use Rattle.tm_syntax.specs.Design.View.{design_tree}
use Rattle.tm_sem.specs.Play.{goal_expr}
use Rattle.tm_plain.proofs.GoalTexts.{seen, without_index, without_instance, without_template, in_template}
use Rattle.tm_locations.proofs.TableCallees.{item-read}
use Rattle.tm_plain.proofs.machine.Machine.goal_expr.Goals as goal

pub returns-in_err-index : goal.returns-in_err-index
returns-in_err-index c =
    ap seen c.from_residual.ensures ∙ sym (without_index c.args.self.now c.args.goal.now c.in_err-index.was)

pub returns-in_err-node : goal.returns-in_err-node
returns-in_err-node c =
    let d = c.self.inside.design.now in
    let item = c.args.goal.now in
    let none = item-read d.instances.items c.deref.result.now item.instance None c.deref.ensures.value
    c.in_err-node.ensures.lookup in
    subst (λ d. seen c.from_residual-in_err-node.result ≡ goal_expr (design_tree d) item) c.self.view_is
    (ap seen c.from_residual-in_err-node.ensures
    ∙ sym (without_instance d item c.in_ok-index.index c.in_ok-index.was none))

pub returns-in_err-template : goal.returns-in_err-template
returns-in_err-template c =
    let d = c.self.inside.design.now in
    let item = c.args.goal.now in
    let node = c.in_ok-node.node.now in
    let there = item-read d.instances.items c.deref.result.now item.instance (Some c.in_ok-node.node)
    c.deref.ensures.value c.in_ok-node.ensures.lookup in
    let none = item-read d.spec.templates.items c.deref-2.result.now node.template None c.deref-2.ensures.value
    c.in_err-template.ensures.lookup in
    subst (λ d. seen c.from_residual-in_err-template.result ≡ goal_expr (design_tree d) item) c.self.view_is
    (ap seen c.from_residual-in_err-template.ensures
    ∙ sym (without_template d item c.in_ok-index.index c.in_ok-index.was node there none))

pub returns-in_err-get : goal.returns-in_err-get
returns-in_err-get c =
    let d = c.self.inside.design.now in
    let item = c.args.goal.now in
    let k = c.in_ok-index.index in
    let node = c.in_ok-node.node.now in
    let template = c.in_ok-template.template.now in
    let there = item-read d.instances.items c.deref.result.now item.instance (Some c.in_ok-node.node)
    c.deref.ensures.value c.in_ok-node.ensures.lookup in
    let here = item-read d.spec.templates.items c.deref-2.result.now node.template (Some c.in_ok-template.template)
    c.deref-2.ensures.value c.in_ok-template.ensures.lookup in
    let none = item-read template.goals.items c.deref-3.result.now k None c.deref-3.ensures.value
    c.in_err-get.ensures.lookup in
    subst (λ d. seen c.from_residual-in_err-get.result ≡ goal_expr (design_tree d) item) c.self.view_is
    (ap seen c.from_residual-in_err-get.ensures
    ∙ sym (in_template d item k c.in_ok-index.was node there template None here none))

pub returns : goal.returns
returns c =
    let d = c.self.inside.design.now in
    let item = c.args.goal.now in
    let k = c.in_ok-index.index in
    let node = c.in_ok-node.node.now in
    let template = c.in_ok-template.template.now in
    let named = c.in_ok-get.field-0.now in
    let there = item-read d.instances.items c.deref.result.now item.instance (Some c.in_ok-node.node)
    c.deref.ensures.value c.in_ok-node.ensures.lookup in
    let here = item-read d.spec.templates.items c.deref-2.result.now node.template (Some c.in_ok-template.template)
    c.deref-2.ensures.value c.in_ok-template.ensures.lookup in
    let one = item-read template.goals.items c.deref-3.result.now k (Some c.in_ok-get.field-0)
    c.deref-3.ensures.value c.in_ok-get.ensures.lookup in
    subst (λ d. Some (expr_tree named.expr) ≡ goal_expr (design_tree d) item) c.self.view_is
    (sym (in_template d item k c.in_ok-index.was node there template (Some named) here one))
