use Rattle.std.proofs.Common.{◌<◌, ◌/◌, length, ◌∙◌, arith}
use Rattle.tm_flat_exprs.proofs.Shared.{gets_behind, gets_part}
use Rattle.tm_flat_exprs.proofs.memory.versions.Versions.get.Goals as goal

pub returns-then-part-len : goal.returns-then-part-len
returns-then-part-len c =
    let below : c.args.index / 64 < length c.self.inside.full.items =
    omega (arith, c.if-part-len.true, c.len.ensures, c.self.inside.full.ok.0) in
    gets_part c.self.inside.full.items c.self.inside.last.items c.args.self.now c.args.index
    c.deref-then-part-len.result.now c.version_at.result c.self.invariant.1 c.self.view_is c.index.result.now below
    c.index.ensures (c.deref-then-part-len.ensures.value ∙ (λ i. (c.deref.ensures i).items)) c.version_at.ensures

pub returns : goal.returns
returns c =
    gets_behind c.self.inside.full.items c.self.inside.last.items c.args.self.now c.args.index c.deref-2.result.now
    c.version_at-2.result c.self.invariant.1 c.self.view_is c.len-2.result (c.len-2.ensures ∙ c.self.inside.full.ok.0)
    (omega (arith, c.if-part-len.false, c.len.ensures, c.len-2.ensures)) c.deref-2.ensures.value
    c.version_at-2.ensures
