use Rattle.std.proofs.Common.{◌≡◌, ℕ, Option, position, slice_get, sym, ap, ◌∙◌}
use Rattle.std.specs.Option.{option_and_then, option_or}
use Rattle.tm_syntax.specs.Design.{instance_node, neighbor}
use Rattle.tm_syntax.specs.Scopes.Names.{is_spelled}
use Rattle.tm_syntax.specs.Tree.View.{template_tree}
use Rattle.tm_scope.proofs.SiteSteps.{neighbor-indices}
use Rattle.tm_scope.proofs.scopes.neighbors.Neighbors.neighbor.Goals as goal

pub returns-in-Some : goal.returns-in-Some
returns-in-Some c =
    let t = c.self.inside.template.now in
    let port : Option ℕ = option_and_then (slice_get c.args.node.now.ports.items)
    (position (λ p. is_spelled c.args.name.now p.name) t.ports.items) in
    let held : c.number_at.result ≡ option_and_then (slice_get c.args.node.now.children.items)
    (position (λ i. is_spelled c.args.name.now i.name) t.instances.items) =
    c.number_at.ensures
    ∙ (λ j. option_and_then (slice_get (c.as_slice.ensures.value j))
    ((c.find.ensures ∙ c.self.invariant.instance c.args.name.now) j)) in
    sym (neighbor-indices (instance_node c.args.node.now) t c.args.name.now
    ∙ ap (λ o. option_or o port) (sym held ∙ c.in-Some.is))
    ∙ ap (λ t. neighbor (instance_node c.args.node.now) (template_tree t) c.args.name.now) c.self.view_is

pub returns-in-None : goal.returns-in-None
returns-in-None c =
    let t = c.self.inside.template.now in
    let port : Option ℕ = option_and_then (slice_get c.args.node.now.ports.items)
    (position (λ p. is_spelled c.args.name.now p.name) t.ports.items) in
    let held : c.number_at.result ≡ option_and_then (slice_get c.args.node.now.children.items)
    (position (λ i. is_spelled c.args.name.now i.name) t.instances.items) =
    c.number_at.ensures
    ∙ (λ j. option_and_then (slice_get (c.as_slice.ensures.value j))
    ((c.find.ensures ∙ c.self.invariant.instance c.args.name.now) j)) in
    let handed : c.number_at-in-None.result ≡ port =
    c.number_at-in-None.ensures
    ∙ (λ j. option_and_then (slice_get (c.as_slice-in-None.ensures.value j))
    ((c.find-in-None.ensures ∙ c.self.invariant.port c.args.name.now) j)) in
    handed
    ∙ sym (neighbor-indices (instance_node c.args.node.now) t c.args.name.now
    ∙ ap (λ o. option_or o port) (sym held ∙ c.in-None.is))
    ∙ ap (λ t. neighbor (instance_node c.args.node.now) (template_tree t) c.args.name.now) c.self.view_is
