use Rattle.std.proofs.Common.{◌<◌, length, sym, ◌∙◌, arith}
use Rattle.tm_term.proofs.Valued.{values_more}
use Rattle.tm_term.proofs.terms.Terms.eval_into.Goals as goal

pub loop-k-preserved : goal.loop-k-preserved
loop-k-preserved c =
    let t = c.args.self.now in
    let values = c.args.values.now in
    let within : c.loop-k.k < length c.loop-k.table = omega arith in
    let value = c.apply.ensures ∙ sym (c.term-term.ensures.value values) in
    values_more t values c.loop-k.table c.loop-k.k c.apply.result c.loop-k.invariant within value
