use Rattle.std.proofs.Common.{refl}
use Rattle.tm_check.proofs.trying.try_part.Goals as goal
use Rattle.tm_game.proofs.LeastStates.{found_none, found_some}
use Rattle.tm_game.specs.Least.{HoldsNowhere, test_of}
use Rattle.tm_sem.specs.StateBits.{IsLeast}

pub returns-in-Some-clause-first : goal.returns-in-Some-clause-first
returns-in-Some-clause-first c = λ d of. (
  refl,
  refl,
  found_some (HoldsNowhere d (test_of d c.args.game.now c.args.failing))
      (IsLeast d (test_of d c.args.game.now c.args.failing)) c.in_ok-least.least c.in-Some.state c.in-Some.is
      (c.in_ok-least.ensures.least d of),
)

pub returns-in-None-clause-first : goal.returns-in-None-clause-first
returns-in-None-clause-first c = λ d of.
    found_none (HoldsNowhere d (test_of d c.args.game.now c.args.failing))
    (IsLeast d (test_of d c.args.game.now c.args.failing)) c.in_ok-least.least c.in-None.is
    (c.in_ok-least.ensures.least d of)
