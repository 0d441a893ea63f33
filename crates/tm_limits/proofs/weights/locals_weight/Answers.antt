use Rattle.std.proofs.Common.{◌<◌, ℕ, length, ap, ◌∙◌, arith}
use Rattle.std.proofs.lemmas.List.{take_all}
use Rattle.tm_limits.specs.Amount.{capped}
use Rattle.tm_limits.proofs.WeightSums.{local_sum, locals_more, locals_sum}
use Rattle.tm_limits.proofs.weights.locals_weight.Goals as goal

pub loop-local-preserved : goal.loop-local-preserved
loop-local-preserved c =
    let x = c.args.calls.now in
    let locals = c.args.locals.now in
    let i : ℕ = c.loop-local.local-index in
    let within : i < length locals = omega arith in
    locals_more x locals i c.local-item.result c.sum-total.result within c.local-item.is
    (c.sum-total.ensures _ (local_sum x c.local-item.result) c.loop-local.invariant c.local_weight.ensures)

pub returns : goal.returns
returns c =
    c.loop-local.invariant
    ∙ ap (λ ls. capped (locals_sum c.args.calls.now ls))
    (take_all c.loop-local.local-index c.args.locals.now (omega arith))
