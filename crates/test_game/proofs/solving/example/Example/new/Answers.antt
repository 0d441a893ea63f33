use Rattle.std.proofs.Common.{arith}
use Rattle.tm_dd.proofs.CallerLaws.{RanksRise-numbers}
use Rattle.test_game.proofs.solving.example.Example.new.Goals as goal

pub invariant_of-result-clause-rise : goal.invariant_of-result-clause-rise
invariant_of-result-clause-rise c =
    RanksRise-numbers _ c.in_ok-new.ensures.ranks 2 (omega (arith, c.in_ok-new.ensures.levels))
