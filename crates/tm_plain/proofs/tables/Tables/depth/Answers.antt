use Rattle.std.proofs.Common.{rules, ◌≡◌, length, ap, ◌∙◌}
use Rattle.tm_syntax.specs.declared.design.Design.{Design}
use Rattle.tm_syntax.specs.Tree.View.{spec_tree}
use Rattle.tm_syntax.specs.Scopes.Pauses.{call_depth}
use Rattle.tm_plain.proofs.Depth.{order_is_deep}
use Rattle.tm_plain.proofs.tables.Tables.depth.Goals as goal

pub returns : goal.returns
returns c =
    let t = c.self.inside in
    let deep : length t.order.items ≡ call_depth (spec_tree c.args.self.now.spec) =
    order_is_deep t.design.now t.scopes t.order.items t.pausing c.self.invariant
    ∙ ap (λ (d : Design). call_depth (spec_tree d.spec)) c.self.view_is in
    search rules
