use Rattle.std.proofs.Common.{None, Some, refl, sym, ap, ◌∙◌}
use Rattle.tm_syntax.specs.Tree.{TemplateTree}
use Rattle.tm_locations.proofs.TableCallees.{item-read}
use Rattle.tm_flat_states.proofs.ItemTexts.{in_template, seen, without_index, without_instance, without_template}
use Rattle.tm_flat_states.proofs.marker.Marker.goal_expr.Goals as goal

pub returns-in_err-index : goal.returns-in_err-index
returns-in_err-index c =
    ap seen c.from_residual.ensures
    ∙ sym (without_index (λ (t : TemplateTree). t.goals) c.args.self.now.design.now c.args.goal.now c.in_err-index.was)

pub returns-in_err-node : goal.returns-in_err-node
returns-in_err-node c =
    let d = c.args.self.now.design.now in
    let item = c.args.goal.now in
    let none = item-read d.instances.items c.deref.result.now item.instance None c.deref.ensures.value
    c.in_err-node.ensures.lookup in
    ap seen c.from_residual-in_err-node.ensures
    ∙ sym (without_instance (λ (t : TemplateTree). t.goals) d item c.in_ok-index.index c.in_ok-index.was none)

pub returns-in_err-template : goal.returns-in_err-template
returns-in_err-template c =
    let d = c.args.self.now.design.now in
    let item = c.args.goal.now in
    let node = c.in_ok-node.node.now in
    let there = item-read d.instances.items c.deref.result.now item.instance (Some c.in_ok-node.node)
    c.deref.ensures.value c.in_ok-node.ensures.lookup in
    let none = item-read d.spec.templates.items c.deref-2.result.now node.template None c.deref-2.ensures.value
    c.in_err-template.ensures.lookup in
    ap seen c.from_residual-in_err-template.ensures
    ∙ sym (without_template (λ (t : TemplateTree). t.goals) d item c.in_ok-index.index c.in_ok-index.was node there
    none)

pub returns-in_err-get : goal.returns-in_err-get
returns-in_err-get c =
    let d = c.args.self.now.design.now in
    let item = c.args.goal.now in
    let k = c.in_ok-index.index in
    let node = c.in_ok-node.node.now in
    let template = c.in_ok-template.template.now in
    let there = item-read d.instances.items c.deref.result.now item.instance (Some c.in_ok-node.node)
    c.deref.ensures.value c.in_ok-node.ensures.lookup in
    let here = item-read d.spec.templates.items c.deref-2.result.now node.template (Some c.in_ok-template.template)
    c.deref-2.ensures.value c.in_ok-template.ensures.lookup in
    let none = item-read template.goals.items c.deref-3.result.now k None c.deref-3.ensures.value
    c.in_err-get.ensures.lookup in
    ap seen c.from_residual-in_err-get.ensures
    ∙ sym (in_template (λ (t : TemplateTree). t.goals) d item k c.in_ok-index.was node there template
    template.goals.items
    None here refl none)

pub returns : goal.returns
returns c =
    let d = c.args.self.now.design.now in
    let item = c.args.goal.now in
    let k = c.in_ok-index.index in
    let node = c.in_ok-node.node.now in
    let template = c.in_ok-template.template.now in
    let named = c.in_ok-get.field-0.now in
    let there = item-read d.instances.items c.deref.result.now item.instance (Some c.in_ok-node.node)
    c.deref.ensures.value c.in_ok-node.ensures.lookup in
    let here = item-read d.spec.templates.items c.deref-2.result.now node.template (Some c.in_ok-template.template)
    c.deref-2.ensures.value c.in_ok-template.ensures.lookup in
    let one = item-read template.goals.items c.deref-3.result.now k (Some c.in_ok-get.field-0)
    c.deref-3.ensures.value c.in_ok-get.ensures.lookup in
    sym (in_template (λ (t : TemplateTree). t.goals) d item k c.in_ok-index.was node there template template.goals.items
    (Some named) here refl one)
