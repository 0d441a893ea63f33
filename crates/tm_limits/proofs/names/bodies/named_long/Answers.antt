use Rattle.std.proofs.Common.{◌<◌, ℕ, length, map, ap, ◌∙◌, arith}
use Rattle.std.specs.List.{flat_map}
use Rattle.std.proofs.lemmas.List.{take_all}
use Rattle.tm_limits.proofs.LongNames.{long_more}
use Rattle.tm_limits.specs.LongNames.{expr_names, first_long}
use Rattle.tm_syntax.specs.Tree.{NamedTree}
use Rattle.tm_syntax.specs.Tree.View.{named_tree}
use Rattle.tm_limits.proofs.names.bodies.named_long.Goals as goal

pub loop-condition-preserved : goal.loop-condition-preserved
loop-condition-preserved c =
    let xs = c.args.conditions.now in
    let i : ℕ = c.loop-condition.condition-index in
    let x = c.condition-item.result in
    let within : i < length xs = omega arith in
    long_more (λ (n : NamedTree). expr_names n.expr) named_tree xs i x _ _ _ within c.condition-item.is
    (c.expr_long.ensures) c.earlier-first.ensures c.loop-condition.invariant

pub returns : goal.returns
returns c =
    c.loop-condition.invariant
    ∙ ap (λ xs. first_long (flat_map (λ (n : NamedTree). expr_names n.expr) (map named_tree xs)))
    (take_all c.loop-condition.condition-index c.args.conditions.now (omega arith))
