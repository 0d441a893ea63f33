use Rattle.std.proofs.Common.{◌≡◌, true}
use Rattle.tm_sem.specs.Step.{IsInitial, is_driver_turn}
use Rattle.tm_game.proofs.SetTests.{states_set}
use Rattle.test_game.proofs.states.kept.kept_set.Goals as goal

pub returns-in-initial : goal.returns-in-initial
returns-in-initial c =
    states_set c.requires.of.0 c.args.game.now c.requires.of.1 c.order-order.ensures.places
    (IsInitial c.requires.of.0) c.initial.result (c.initial.ensures.states c.requires.of.0 c.requires.of.1)

pub returns-in-turn : goal.returns-in-turn
returns-in-turn c =
    states_set c.requires.of.0 c.args.game.now c.requires.of.1 c.order-order.ensures.places
    (λ s. is_driver_turn c.requires.of.0 s ≡ true) c.turn.result
    (c.turn.ensures.states c.requires.of.0 c.requires.of.1)
