use Rattle.std.proofs.Common.{◌<◌, ◌∷◌, [], ℕ, length, map, ap, ◌∙◌, arith}
use Rattle.std.specs.List.{flat_map}
use Rattle.std.proofs.lemmas.List.{take_all}
use Rattle.tm_limits.proofs.LongNames.{long_joined, long_more}
use Rattle.tm_limits.specs.LongNames.{first_long}
use Rattle.tm_syntax.specs.Tree.{EnumTree}
use Rattle.tm_syntax.specs.Tree.View.{enum_tree}
use Rattle.tm_limits.proofs.names.first.enums_long.Goals as goal

pub loop-def-preserved : goal.loop-def-preserved
loop-def-preserved c =
    let xs = c.args.enums.now in
    let i : ℕ = c.loop-def.def-index in
    let x = c.def-item.result in
    let within : i < length xs = omega arith in
    long_more (λ (e : EnumTree). e.name ∷ e.constants) enum_tree xs i x _ _ _ within c.def-item.is
    (long_joined _ _ _ (x.name ∷ []) x.constants.items c.earlier-own.ensures c.long.ensures
    (c.names_long.ensures ∙ ap first_long c.as_slice.ensures.value)) c.earlier-first.ensures c.loop-def.invariant

pub returns : goal.returns
returns c =
    c.loop-def.invariant
    ∙ ap (λ xs. first_long (flat_map (λ (e : EnumTree). e.name ∷ e.constants) (map enum_tree xs)))
    (take_all c.loop-def.def-index c.args.enums.now (omega arith))
