use Rattle.std.proofs.Common.{◌≡◌, ◌<◌, ◌≤◌, Some, length, slice_get, slice_index_or, refl, sym, ap, ◌∙◌, arith}
use Rattle.std.proofs.lemmas.Option.{slice_get_past, slice_get_read}
use Rattle.std.specs.Option.{option_and_then}
use Rattle.tm_syntax.specs.Design.{instance_node, neighbor}
use Rattle.tm_syntax.specs.Tree.View.{template_tree}
use Rattle.tm_scope.proofs.scopes.scope.Scopes.neighbor_at.Goals as goal

pub returns-then-number-len : goal.returns-then-number-len
returns-then-number-len c =
    let ts = c.args.self.now.templates.items in
    let n = c.args.node.now.template in
    let t = c.index.result.now in
    let many : c.len.result ≡ length ts =
    c.len.ensures ∙ c.self.inside.templates.ok.0
    ∙ ap length (c.self.invariant.1 ∙ ap (λ s. s.templates.items) c.self.view_is) in
    let within : n < length ts = omega (arith, c.if-number-len.true) in
    let at : slice_get ts n ≡ Some t =
    slice_get_read ts (length ts) n t refl within (c.index.ensures ∙ ap (λ us. slice_index_or us n t)
    (c.self.invariant.1 ∙ ap (λ s. s.templates.items) c.self.view_is)) in
    c.neighbor.ensures
    ∙ sym (ap (option_and_then (λ t. neighbor (instance_node c.args.node.now) (template_tree t) c.args.name.now)) at)

pub returns-else-number-len : goal.returns-else-number-len
returns-else-number-len c =
    let ts = c.args.self.now.templates.items in
    let n = c.args.node.now.template in
    let many : c.len.result ≡ length ts =
    c.len.ensures ∙ c.self.inside.templates.ok.0
    ∙ ap length (c.self.invariant.1 ∙ ap (λ s. s.templates.items) c.self.view_is) in
    let past : length ts ≤ n = omega (arith, c.if-number-len.false) in
    sym (ap (option_and_then (λ t. neighbor (instance_node c.args.node.now) (template_tree t) c.args.name.now))
    (slice_get_past ts n past))
