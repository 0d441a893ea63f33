use Rattle.std.proofs.Common.{arith}
use Rattle.std.specs.List.{flat_map}
use Rattle.tm_syntax.specs.Faults.Names.{unknown_in_expr}
use Rattle.tm_types.specs.Inner.TextParts.{exprs_of}
use Rattle.tm_types.specs.declared.parts.TextPart.{TextPart}
use Rattle.tm_types.proofs.FoundNames.{found_held, found_more}
use Rattle.tm_types.proofs.unknown.text.unknown_in_all_exprs.Goals as goal

pub loop-part-preserved : goal.loop-part-preserved
loop-part-preserved c =
    found_more (λ (p : TextPart). flat_map unknown_in_expr (exprs_of p)) (λ p. p) c.args.parts.now
    c.loop-part.part-index
    c.part-item.result (omega arith) c.part-item.is c.unknown_in_exprs.ensures c.earlier_mark-first.ensures
    c.loop-part.invariant

pub returns : goal.returns
returns c =
    found_held unknown_in_expr exprs_of c.args.parts.now c.loop-part.part-index (omega arith) c.loop-part.invariant
