use Rattle.std.proofs.Common.{◌≡◌, true}
use Rattle.tm_sem.specs.Play.{goal_holds}
use Rattle.tm_game.proofs.MadeSets.{false_set}
use Rattle.tm_game.proofs.SetTests.{states_set}
use Rattle.test_game.proofs.states.kept.goal_set.Goals as goal

pub returns-then-goal-goals : goal.returns-then-goal-goals
returns-then-goal-goals c = false_set c.args.game.now

pub returns : goal.returns
returns c =
    states_set c.requires.of.0 c.args.game.now c.requires.of.1 c.order-order.ensures.places
    (λ s. goal_holds c.requires.of.0 s c.args.goal ≡ true) c.goal.result
    (c.goal.ensures.states c.requires.of.0 c.requires.of.1)
