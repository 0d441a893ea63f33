use Rattle.std.proofs.Common.{◌<◌, ◌∷◌, [], ℕ, length, map, ap, ◌∙◌, arith}
use Rattle.std.specs.List.{flat_map}
use Rattle.std.proofs.lemmas.List.{take_all}
use Rattle.tm_limits.proofs.LongNames.{long_more}
use Rattle.tm_limits.specs.LongNames.{first_long}
use Rattle.tm_syntax.specs.Tree.{LocalTree}
use Rattle.tm_syntax.specs.Tree.View.{local_tree}
use Rattle.tm_limits.proofs.names.templates.locals_declared.Goals as goal

pub loop-local-preserved : goal.loop-local-preserved
loop-local-preserved c =
    let xs = c.args.locals.now in
    let i : ℕ = c.loop-local.local-index in
    let x = c.local-item.result in
    let within : i < length xs = omega arith in
    long_more (λ (y : LocalTree). y.name ∷ []) local_tree xs i x _ _ _ within c.local-item.is
    (c.long.ensures) c.earlier-first.ensures c.loop-local.invariant

pub returns : goal.returns
returns c =
    c.loop-local.invariant
    ∙ ap (λ xs. first_long (flat_map (λ (y : LocalTree). y.name ∷ []) (map local_tree xs)))
    (take_all c.loop-local.local-index c.args.locals.now (omega arith))
