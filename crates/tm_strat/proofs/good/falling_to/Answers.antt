use Rattle.std.proofs.Common.{◌≡◌, ◌+◌, suc, arith}
use Rattle.tm_strat.proofs.Zoning.{falls_never, falls_next}
use Rattle.tm_strat.proofs.good.falling_to.Goals as goal

pub returns-then-index-waits : goal.returns-then-index-waits
returns-then-index-waits c =
    λ t z waits.
    let next : c.args.index + 1 ≡ suc c.args.index = omega arith in
    falls_next t z c.args.waits.now c.args.index (c.args.index + 1) c.states_in-next.result next
    c.states_in-next.ensures waits

pub returns : goal.returns
returns c =
    λ t z waits.
    let past = c.if-index-waits.false in falls_never t z c.args.waits.now c.args.index (omega (arith, past)) waits
