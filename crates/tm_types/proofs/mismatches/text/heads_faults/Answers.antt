use Rattle.std.proofs.Common.{subst, sym, arith}
use Rattle.tm_syntax.specs.Faults.Mismatches.{template_faults}
use Rattle.tm_types.specs.Inner.TextParts.{IsOwnHead, in_head}
use Rattle.tm_types.specs.declared.parts.TextHead.{TextHead}
use Rattle.tm_types.proofs.FoundPlaces.{found_more, found_whole}
use Rattle.tm_types.proofs.mismatches.text.heads_faults.Goals as goal

pub template_faults-requires : goal.template_faults-requires
template_faults-requires c =
    subst IsOwnHead (sym c.head-item.is) (c.requires c.loop-head.head-index c.head-item.result (omega arith))

pub loop-head-preserved : goal.loop-head-preserved
loop-head-preserved c =
    found_more (in_head template_faults) (λ (h : TextHead). h) c.args.heads.now c.loop-head.head-index
    c.head-item.result
    (omega arith) c.head-item.is c.in-Ok.ensures c.earlier_place-first.ensures.earlier c.loop-head.invariant

pub returns : goal.returns
returns c =
    found_whole (in_head template_faults) (λ (h : TextHead). h) c.args.heads.now c.loop-head.head-index (omega arith)
    c.loop-head.invariant
