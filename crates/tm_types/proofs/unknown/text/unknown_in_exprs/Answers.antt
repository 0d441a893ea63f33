use Rattle.std.proofs.Common.{map, ap, ◌∙◌, arith}
use Rattle.std.specs.List.{flat_map}
use Rattle.tm_syntax.specs.Faults.Marks.{first_mark}
use Rattle.tm_syntax.specs.Faults.Names.{unknown_in_expr}
use Rattle.tm_types.specs.Inner.TextParts.{expr_at}
use Rattle.tm_types.proofs.FoundNames.{found_all, found_more}
use Rattle.tm_types.proofs.unknown.text.unknown_in_exprs.Goals as goal

pub loop-e-preserved : goal.loop-e-preserved
loop-e-preserved c =
    found_more unknown_in_expr (expr_at c.args.part.now.site) c.as_slice-e-items.result.now c.loop-e.e-index
    c.e-item.result
    (omega arith) c.e-item.is c.unknown_in_asked.ensures c.earlier_mark-first.ensures c.loop-e.invariant

pub returns : goal.returns
returns c =
    let at = c.args.part.now.site in
    found_all unknown_in_expr (expr_at at) c.as_slice-e-items.result.now c.loop-e.e-index
    (omega arith) c.loop-e.invariant
    ∙ ap (λ es. first_mark (flat_map unknown_in_expr (map (expr_at at) es))) c.as_slice-e-items.ensures.value
