use Rattle.std.proofs.Common.{◌<◌, ℕ, length, map, ap, ◌∙◌, arith}
use Rattle.std.specs.List.{flat_map}
use Rattle.std.proofs.lemmas.List.{take_all}
use Rattle.tm_limits.proofs.LongNames.{long_more}
use Rattle.tm_limits.specs.LongNames.{expr_names, first_long}
use Rattle.tm_syntax.specs.Tree.View.{expr_tree}
use Rattle.tm_limits.proofs.names.first.exprs_long.Goals as goal

pub loop-expr-preserved : goal.loop-expr-preserved
loop-expr-preserved c =
    let xs = c.args.exprs.now in
    let i : ℕ = c.loop-expr.expr-index in
    let x = c.expr-item.result in
    let within : i < length xs = omega arith in
    long_more expr_names expr_tree xs i x _ _ _ within c.expr-item.is
    (c.expr_long.ensures) c.earlier-first.ensures c.loop-expr.invariant

pub returns : goal.returns
returns c =
    c.loop-expr.invariant
    ∙ ap (λ xs. first_long (flat_map expr_names (map expr_tree xs)))
    (take_all c.loop-expr.expr-index c.args.exprs.now (omega arith))
