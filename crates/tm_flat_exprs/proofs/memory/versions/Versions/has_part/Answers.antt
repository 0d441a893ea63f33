use Rattle.std.proofs.Common.{◌<◌, length, sym, ◌∙◌, arith}
use Rattle.tm_flat_exprs.proofs.Shared.{have_part}
use Rattle.tm_flat_exprs.proofs.memory.versions.Versions.has_part.Goals as goal

pub returns-then-place-len-2 : goal.returns-then-place-len-2
returns-then-place-len-2 c = λ equal.
    let below : c.args.place < length c.self.inside.full.items =
    omega (arith, c.if-place-len.true, c.len.ensures, c.self.inside.full.ok.0) in
    let near : c.args.place < length c.other.inside.full.items =
    omega (arith, c.if-place-len-2.true, c.len-then-place-len.ensures, c.other.inside.full.ok.0) in
    have_part c.self.inside.full.items c.other.inside.full.items c.self.inside.last.items c.other.inside.last.items
    c.args.self.now c.args.other.now c.self.invariant.1 c.other.invariant.1 c.self.view_is c.other.view_is
    c.args.place c.index.result.now c.index-then-place-len-2.result.now c.as_slice.result.now
    c.as_slice-then-place-len-2.result.now below near c.index.ensures c.index-then-place-len-2.ensures
    (c.as_slice.ensures.value ∙ (λ i. (c.deref.ensures i).items))
    (c.as_slice-then-place-len-2.ensures.value ∙ (λ i. (c.deref-then-place-len-2.ensures i).items))
    (sym c.eq.ensures ∙ equal)
