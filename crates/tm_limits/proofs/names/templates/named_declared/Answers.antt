use Rattle.std.proofs.Common.{◌<◌, ◌∷◌, [], ℕ, length, map, ap, ◌∙◌, arith}
use Rattle.std.specs.List.{flat_map}
use Rattle.std.proofs.lemmas.List.{take_all}
use Rattle.tm_limits.proofs.LongNames.{long_more}
use Rattle.tm_limits.specs.LongNames.{first_long}
use Rattle.tm_syntax.specs.Tree.{NamedTree}
use Rattle.tm_syntax.specs.Tree.View.{named_tree}
use Rattle.tm_limits.proofs.names.templates.named_declared.Goals as goal

pub loop-one-preserved : goal.loop-one-preserved
loop-one-preserved c =
    let xs = c.args.named.now in
    let i : ℕ = c.loop-one.one-index in
    let x = c.one-item.result in
    let within : i < length xs = omega arith in
    long_more (λ (y : NamedTree). y.name ∷ []) named_tree xs i x _ _ _ within c.one-item.is
    (c.long.ensures) c.earlier-first.ensures c.loop-one.invariant

pub returns : goal.returns
returns c =
    c.loop-one.invariant
    ∙ ap (λ xs. first_long (flat_map (λ (y : NamedTree). y.name ∷ []) (map named_tree xs)))
    (take_all c.loop-one.one-index c.args.named.now (omega arith))
