use Rattle.std.proofs.Common.{◌<◌, ◌∷◌, [], ℕ, length, ap, ◌∙◌, arith}
use Rattle.std.specs.List.{flat_map}
use Rattle.std.proofs.lemmas.List.{take_all}
use Rattle.tm_limits.proofs.LongNames.{long_more_plain}
use Rattle.tm_limits.specs.LongNames.{first_long}
use Rattle.tm_syntax.specs.declared.tree.Port.{Port}
use Rattle.tm_limits.proofs.names.templates.ports_declared.Goals as goal

pub loop-port-preserved : goal.loop-port-preserved
loop-port-preserved c =
    let xs = c.args.ports.now in
    let i : ℕ = c.loop-port.port-index in
    let x = c.port-item.result in
    let within : i < length xs = omega arith in
    long_more_plain (λ (y : Port). y.name ∷ []) xs i x _ _ _ within c.port-item.is
    (c.long.ensures) c.earlier-first.ensures c.loop-port.invariant

pub returns : goal.returns
returns c =
    c.loop-port.invariant
    ∙ ap (λ xs. first_long (flat_map (λ (y : Port). y.name ∷ []) xs))
    (take_all c.loop-port.port-index c.args.ports.now (omega arith))
