use Rattle.std.proofs.Common.{◌<◌, rules, get_or, length, ltb-false, ltb-true, refl, subst, ◌≡◌, ◌++◌, None, Some, slice_get, sym, ap, ◌∙◌}
use Rattle.std.proofs.lemmas.List.{append-nil}
use Rattle.std.proofs.lemmas.Option.{slice_get_past, slice_get_read}
use Rattle.std.proofs.lemmas.Result.{on_ok_weaker}
use Rattle.tm_syntax.specs.declared.tree.Spec.{Spec}
use Rattle.tm_syntax.specs.Tree.View.{spec_tree, template_tree}
use Rattle.tm_syntax.specs.Design.{instance_node}
use Rattle.tm_inst.specs.Inner.Listed.{template_vars}
use Rattle.tm_inst.specs.Sizes.{HasNarrowTypes}
use Rattle.tm_inst.proofs.Templates.{instance_has_no_vars, instance_has_vars, template_stands}
use Rattle.tm_inst.proofs.vars.push_instance.Goals as goal

pub returns-in-Some : goal.returns-in-Some
returns-in-Some c =
    let spec = c.args.scopes.now in
    let node = instance_node c.args.node.now in
    let t = c.in-Some.template.now in
    let here : t ≡ get_or c.deref.result.now c.args.node.now.template t = search rules in
    let stands : slice_get spec.templates.items c.args.node.now.template ≡ Some t =
    subst (λ ts. slice_get ts c.args.node.now.template ≡ Some t)
    (c.deref.ensures.value ∙ ap (λ (s : Spec). s.templates.items) c.spec.ensures)
    (slice_get_read c.deref.result.now (length c.deref.result.now) c.args.node.now.template t refl
    (ltb-true c.args.node.now.template (length c.deref.result.now) (sym c.in-Some.ensures.lookup.0)) here) in
    let own = instance_has_vars (spec_tree spec) c.args.number node (template_tree t)
    (template_stands spec c.args.node.now.template (Some t) stands) in
    on_ok_weaker c.push_template.result
    (λ pushed. pushed
    ∙ ap (λ base. c.args.vars.now.items ++ template_vars (spec_tree spec) c.args.number base (template_tree t))
    c.as_bytes.ensures
    ∙ ap (λ vs. c.args.vars.now.items ++ vs) (sym own)) c.push_template.ensures

pub returns-in-None : goal.returns-in-None
returns-in-None c =
    let spec = c.args.scopes.now in
    let absent : slice_get spec.templates.items c.args.node.now.template ≡ None =
    subst (λ ts. slice_get ts c.args.node.now.template ≡ None)
    (c.deref.ensures.value ∙ ap (λ (s : Spec). s.templates.items) c.spec.ensures)
    (slice_get_past c.deref.result.now c.args.node.now.template
    (ltb-false c.args.node.now.template (length c.deref.result.now) (sym c.in-None.ensures.lookup.0))) in
    sym (append-nil c.args.vars.now.items)
    ∙ ap (λ vs. c.args.vars.now.items ++ vs) (sym (instance_has_no_vars (spec_tree spec) c.args.number
    (instance_node c.args.node.now) (template_stands spec c.args.node.now.template None absent)))

pub push_template-requires-clause-narrow : goal.push_template-requires-clause-narrow
push_template-requires-clause-narrow c =
    let k = c.args.node.now.template in
    let t = c.in-Some.template.now in
    let here : t ≡ get_or c.deref.result.now k t = search rules in
    let own = c.deref.ensures.value ∙ ap (λ (s : Spec). s.templates.items) c.spec.ensures in
    subst HasNarrowTypes (sym (subst (λ ts. t ≡ get_or ts k t) own here))
    (c.requires.narrow k t (subst (λ ts. k < length ts) own
    (ltb-true k (length c.deref.result.now) (sym c.in-Some.ensures.lookup.0))))
