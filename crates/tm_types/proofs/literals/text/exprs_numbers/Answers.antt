use Rattle.std.proofs.Common.{arith}
use Rattle.std.specs.List.{flat_map}
use Rattle.tm_syntax.specs.Faults.Literals.{asked_numbers}
use Rattle.tm_types.specs.Inner.TextParts.{exprs_of}
use Rattle.tm_types.specs.declared.parts.TextPart.{TextPart}
use Rattle.tm_types.proofs.FoundPlaces.{found_held, found_more}
use Rattle.tm_types.proofs.literals.text.exprs_numbers.Goals as goal

pub loop-part-preserved : goal.loop-part-preserved
loop-part-preserved c =
    found_more (λ (p : TextPart). flat_map asked_numbers (exprs_of p)) (λ p. p) c.args.parts.now c.loop-part.part-index
    c.part-item.result (omega arith) c.part-item.is c.part_numbers.ensures c.earlier_place-first.ensures.earlier
    c.loop-part.invariant

pub returns : goal.returns
returns c =
    found_held asked_numbers exprs_of c.args.parts.now c.loop-part.part-index (omega arith) c.loop-part.invariant
