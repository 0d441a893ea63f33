use Rattle.std.proofs.Common.{subst, sym, arith}
use Rattle.tm_syntax.specs.Faults.Names.{unknown_in_template}
use Rattle.tm_types.specs.Inner.TextParts.{IsOwnHead, in_head}
use Rattle.tm_types.specs.declared.parts.TextHead.{TextHead}
use Rattle.tm_types.proofs.FoundNames.{bare_all, found_more}
use Rattle.tm_types.proofs.unknown.text.unknown_in_heads.Goals as goal

pub unknown_in_template-requires : goal.unknown_in_template-requires
unknown_in_template-requires c =
    subst IsOwnHead (sym c.head-item.is) (c.requires c.loop-head.head-index c.head-item.result (omega arith))

pub loop-head-preserved : goal.loop-head-preserved
loop-head-preserved c =
    found_more (in_head unknown_in_template) (λ (h : TextHead). h) c.args.heads.now c.loop-head.head-index
    c.head-item.result (omega arith) c.head-item.is c.in-Ok.ensures c.earlier_mark-first.ensures c.loop-head.invariant

pub returns : goal.returns
returns c =
    bare_all (in_head unknown_in_template) c.args.heads.now c.loop-head.head-index (omega arith) c.loop-head.invariant
