use Rattle.std.proofs.Common.{refl, arith}
use Rattle.tm_syntax.specs.Faults.Literals.{asked_numbers}
use Rattle.tm_types.specs.Inner.TextParts.{expr_at}
use Rattle.tm_types.proofs.FoundPlaces.{found_listed, found_more}
use Rattle.tm_types.proofs.literals.text.part_numbers.Goals as goal

pub loop-e-preserved : goal.loop-e-preserved
loop-e-preserved c =
    found_more asked_numbers (expr_at c.args.part.now.site) c.as_slice-e-items.result.now c.loop-e.e-index
    c.e-item.result
    (omega arith) c.e-item.is c.asked_numbers.ensures c.earlier_place-first.ensures.earlier c.loop-e.invariant

pub returns : goal.returns
returns c =
    let at = c.args.part.now.site in
    found_listed asked_numbers (expr_at at) c.as_slice-e-items.result.now c.args.part.now.exprs.items _ c.loop-e.e-index
    c.as_slice-e-items.ensures.value refl (omega arith) c.loop-e.invariant
