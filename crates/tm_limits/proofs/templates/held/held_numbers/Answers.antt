use Rattle.std.proofs.Common.{◌≡◌, ◌<◌, ◌++◌, ℕ, length, map, ap, ◌∙◌, arith}
use Rattle.std.specs.List.{filter_map}
use Rattle.std.specs.Option.{option_to_list}
use Rattle.std.proofs.lemmas.List.{take_all}
use Rattle.tm_syntax.specs.Tree.{InstanceTree, SpecTree}
use Rattle.tm_syntax.specs.Tree.View.{instance_tree, spec_tree}
use Rattle.tm_syntax.specs.Scopes.Names.{template_number}
use Rattle.tm_limits.proofs.TemplateGraphs.{given_more}
use Rattle.tm_limits.proofs.templates.held.held_numbers.Goals as goal

pub loop-instance-preserved : goal.loop-instance-preserved
loop-instance-preserved c =
    let spec : SpecTree = spec_tree c.args.scopes.now in
    let instances = c.args.instances.now in
    let i : ℕ = c.loop-instance.instance-index in
    let within : i < length instances = omega arith in
    let number : c.template_number.result ≡ template_number spec c.instance-item.result.template.text =
    c.template_number.ensures.number ∙ ap (template_number spec) c.as_bytes.ensures in
    given_more (λ (i : InstanceTree). template_number spec i.template.text) instance_tree instances i
    c.instance-item.result c.loop-instance.numbers.items c.push_some.new.numbers.items within c.instance-item.is
    (c.in_ok-push_some.ensures ∙ ap (λ o. c.loop-instance.numbers.items ++ option_to_list o) number)
    c.loop-instance.invariant

pub returns : goal.returns
returns c =
    c.loop-instance.invariant
    ∙ ap (λ is. filter_map (λ (i : InstanceTree). template_number (spec_tree c.args.scopes.now) i.template.text)
    (map instance_tree is)) (take_all c.loop-instance.instance-index c.args.instances.now (omega arith))
