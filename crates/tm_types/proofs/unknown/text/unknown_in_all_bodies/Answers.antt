use Rattle.std.proofs.Common.{arith}
use Rattle.std.specs.List.{flat_map}
use Rattle.tm_syntax.specs.Faults.Names.{unknown_in_body}
use Rattle.tm_types.specs.Inner.TextParts.{bodies_of}
use Rattle.tm_types.specs.declared.parts.TextPart.{TextPart}
use Rattle.tm_types.proofs.FoundNames.{found_held, found_more}
use Rattle.tm_types.proofs.unknown.text.unknown_in_all_bodies.Goals as goal

pub loop-part-preserved : goal.loop-part-preserved
loop-part-preserved c =
    found_more (λ (p : TextPart). flat_map unknown_in_body (bodies_of p)) (λ p. p) c.args.parts.now
    c.loop-part.part-index
    c.part-item.result (omega arith) c.part-item.is c.in-Ok.ensures c.earlier_mark-first.ensures
    c.loop-part.invariant

pub returns : goal.returns
returns c =
    found_held unknown_in_body bodies_of c.args.parts.now c.loop-part.part-index (omega arith) c.loop-part.invariant
