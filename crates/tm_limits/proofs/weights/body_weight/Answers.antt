use Rattle.std.proofs.Common.{sym, ap, ◌∙◌}
use Rattle.tm_limits.specs.Amount.{capped}
use Rattle.tm_limits.proofs.WeightSums.{body_sum, locals_sum, row_sum}
use Rattle.tm_limits.proofs.weights.body_weight.Goals as goal

pub returns : goal.returns
returns c =
    let x = c.args.calls.now in
    let locals = c.args.body.now.locals.items in
    let stmts = c.args.body.now.stmts.items in
    c.sum.ensures (locals_sum x locals) (row_sum x stmts)
    (c.locals_weight.ensures ∙ ap (λ ls. capped (locals_sum x ls)) c.as_slice.ensures.value)
    (c.row_weight.ensures ∙ ap (λ ss. capped (row_sum x ss)) c.as_slice-2.ensures.value)
    ∙ ap capped (sym (body_sum x locals stmts))
