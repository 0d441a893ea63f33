use Rattle.std.proofs.Common.{◌<◌, ℕ, length, ap, ◌∙◌, arith}
use Rattle.std.proofs.lemmas.List.{take_all}
use Rattle.tm_limits.specs.LongNames.{first_long}
use Rattle.tm_limits.proofs.LongNames.{long_pushed}
use Rattle.tm_limits.proofs.names.first.names_long.Goals as goal

pub loop-name-preserved : goal.loop-name-preserved
loop-name-preserved c =
    let xs = c.args.names.now in
    let i : ℕ = c.loop-name.name-index in
    let within : i < length xs = omega arith in
    long_pushed xs i c.name-item.result _ _ _ within c.name-item.is c.long.ensures c.earlier-first.ensures
    c.loop-name.invariant

pub returns : goal.returns
returns c =
    c.loop-name.invariant
    ∙ ap first_long (take_all c.loop-name.name-index c.args.names.now (omega arith))
