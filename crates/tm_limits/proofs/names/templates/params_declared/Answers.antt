use Rattle.std.proofs.Common.{◌<◌, ◌∷◌, [], ℕ, length, ap, ◌∙◌, arith}
use Rattle.std.specs.List.{flat_map}
use Rattle.std.proofs.lemmas.List.{take_all}
use Rattle.tm_limits.proofs.LongNames.{long_more_plain}
use Rattle.tm_limits.specs.LongNames.{first_long}
use Rattle.tm_syntax.specs.declared.tree.Param.{Param}
use Rattle.tm_limits.proofs.names.templates.params_declared.Goals as goal

pub loop-param-preserved : goal.loop-param-preserved
loop-param-preserved c =
    let xs = c.args.params.now in
    let i : ℕ = c.loop-param.param-index in
    let x = c.param-item.result in
    let within : i < length xs = omega arith in
    long_more_plain (λ (y : Param). y.name ∷ []) xs i x _ _ _ within c.param-item.is
    (c.long.ensures) c.earlier-first.ensures c.loop-param.invariant

pub returns : goal.returns
returns c =
    c.loop-param.invariant
    ∙ ap (λ xs. first_long (flat_map (λ (y : Param). y.name ∷ []) xs))
    (take_all c.loop-param.param-index c.args.params.now (omega arith))
