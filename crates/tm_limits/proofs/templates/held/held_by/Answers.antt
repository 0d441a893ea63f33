use Rattle.std.proofs.Common.{◌<◌, ℕ, length, map, ap, ◌∙◌, arith}
use Rattle.std.proofs.lemmas.List.{take_all}
use Rattle.tm_syntax.specs.Tree.View.{instance_tree, spec_tree, template_tree}
use Rattle.std.specs.List.{filter_map}
use Rattle.tm_syntax.specs.Tree.{InstanceTree}
use Rattle.tm_syntax.specs.Scopes.Names.{template_number}
use Rattle.std.specs.declared.alloc.Global.{Global}
use Rattle.std.specs.declared.vec.Vec.{Vec}
use Rattle.tm_limits.proofs.TemplateGraphs.{made_more}
use Rattle.tm_limits.specs.Templates.{held_numbers}
use Rattle.tm_limits.proofs.templates.held.held_by.Goals as goal

pub loop-template-preserved : goal.loop-template-preserved
loop-template-preserved c =
    let templates = c.args.templates.now in
    let i : ℕ = c.loop-template.template-index in
    let within : i < length templates = omega arith in
    made_more (held_numbers (spec_tree c.args.scopes.now)) template_tree (λ (v : Vec ℕ Global). v.items) templates i
    c.template-item.result c.loop-template.graph.items c.push.new.self.items c.in_ok-held_numbers.field-0 within
    c.template-item.is c.in_ok-push.ensures.items
    (c.in_ok-held_numbers.ensures ∙ ap (λ is. filter_map (λ (i : InstanceTree).
    template_number (spec_tree c.args.scopes.now) i.template.text) (map instance_tree is)) c.as_slice.ensures.value)
    c.loop-template.invariant

pub returns : goal.returns
returns c =
    c.loop-template.invariant
    ∙ ap (λ ts. map (held_numbers (spec_tree c.args.scopes.now)) (map template_tree ts))
    (take_all c.loop-template.template-index c.args.templates.now (omega arith))
