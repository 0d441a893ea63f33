use Rattle.std.proofs.Common.{◌<◌, ◌∷◌, [], ℕ, length, map, sym, ap, ◌∙◌, arith}
use Rattle.std.specs.List.{flat_map}
use Rattle.std.proofs.lemmas.List.{take_all}
use Rattle.std.proofs.lemmas.List.Folds.{flat_map-map}
use Rattle.std.specs.Prelude.{None}
use Rattle.tm_limits.proofs.LongNames.{long_more}
use Rattle.tm_limits.specs.LongNames.{first_long, own_names}
use Rattle.tm_syntax.specs.Tree.{LocalTree, assign}
use Rattle.tm_syntax.specs.Tree.View.{local_tree}
use Rattle.tm_limits.proofs.names.bodies.locals_long.Goals as goal

pub loop-local-preserved : goal.loop-local-preserved
loop-local-preserved c =
    let xs = c.args.locals.now in
    let i : ℕ = c.loop-local.local-index in
    let x = c.local-item.result in
    let within : i < length xs = omega arith in
    long_more (λ (l : LocalTree). own_names c.args.sought (assign
    (l.name ∷ []) None l.value)) local_tree xs i x _ _ _ within c.local-item.is
    (c.local_long.ensures) c.earlier-first.ensures c.loop-local.invariant

pub returns : goal.returns
returns c =
    c.loop-local.invariant
    ∙ ap (λ xs. first_long (flat_map (λ (l : LocalTree). own_names c.args.sought (assign (l.name ∷ []) None l.value))
    (map local_tree xs)))
    (take_all c.loop-local.local-index c.args.locals.now (omega arith))
    ∙ ap first_long (sym (flat_map-map (own_names c.args.sought)
    (λ (l : LocalTree). assign (l.name ∷ []) None l.value) (map local_tree c.args.locals.now)))
