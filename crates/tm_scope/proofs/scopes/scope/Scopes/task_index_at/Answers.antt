use Rattle.std.proofs.Common.{◌≡◌, ◌<◌, ◌≤◌, Some, length, position, slice_get, slice_index_or, refl, sym, ap, ◌∙◌, arith}
use Rattle.std.proofs.lemmas.Option.{slice_get_past, slice_get_read}
use Rattle.std.specs.Option.{option_and_then}
use Rattle.tm_syntax.specs.Scopes.Names.{is_spelled}
use Rattle.tm_syntax.specs.Tree.View.{template_tree}
use Rattle.tm_scope.proofs.scopes.scope.Scopes.task_index_at.Goals as goal

pub returns-then-number-len : goal.returns-then-number-len
returns-then-number-len c =
    let ts = c.args.self.now.templates.items in
    let n = c.args.number in
    let t = c.index.result.now in
    let many : c.len.result ≡ length ts =
    c.len.ensures ∙ c.self.inside.templates.ok.0
    ∙ ap length (c.self.invariant.1 ∙ ap (λ s. s.templates.items) c.self.view_is) in
    let within : n < length ts = omega (arith, c.if-number-len.true) in
    let at : slice_get ts n ≡ Some t =
    slice_get_read ts (length ts) n t refl within (c.index.ensures ∙ ap (λ us. slice_index_or us n t)
    (c.self.invariant.1 ∙ ap (λ s. s.templates.items) c.self.view_is)) in
    c.task_index.ensures
    ∙ sym (ap (option_and_then (λ t. position (λ task. is_spelled c.args.name.now task.name) (template_tree t).tasks))
    at)

pub returns-else-number-len : goal.returns-else-number-len
returns-else-number-len c =
    let ts = c.args.self.now.templates.items in
    let n = c.args.number in
    let many : c.len.result ≡ length ts =
    c.len.ensures ∙ c.self.inside.templates.ok.0
    ∙ ap length (c.self.invariant.1 ∙ ap (λ s. s.templates.items) c.self.view_is) in
    let past : length ts ≤ n = omega (arith, c.if-number-len.false) in
    sym (ap (option_and_then (λ t. position (λ task. is_spelled c.args.name.now task.name) (template_tree t).tasks))
    (slice_get_past ts n past))
