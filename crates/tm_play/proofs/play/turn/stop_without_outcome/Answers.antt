use Rattle.std.proofs.Common.{◌≡◌, rules, subst}
use Rattle.tm_syntax.specs.Design.View.{design_tree}
use Rattle.tm_cir.specs.View.{trees_of}
use Rattle.tm_play.specs.Inner.Advance.{IsWithoutOutcome}
use Rattle.tm_play.proofs.Stopping.{none_advances}
use Rattle.tm_play.proofs.play.turn.stop_without_outcome.Goals as goal

pub returns : goal.returns
returns c =
    let actor : c.turn.inside.actor ≡ c.args.turn.now.actor = search rules in
    none_advances (design_tree c.args.machine.now) (trees_of c.args.blocks.now) c.args.position.now.state
    c.args.position.now.goal c.args.turn.now c.args.action c.in_ok-outcome.outcome c.requires.moved c.requires.step
    (subst (λ a. IsWithoutOutcome (design_tree c.args.machine.now) c.args.position.now.state a c.args.action
    c.in_ok-outcome.outcome) actor c.in_ok-outcome.ensures)
