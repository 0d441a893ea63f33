use Rattle.std.proofs.Common.{◌<◌, length, sym, subst, arith}
use Rattle.tm_game.specs.declared.moves.MoveShape.TheVariants as shapes
use Rattle.tm_game.specs.Game.{GameData, IsOf, IsSet, in_set}
use Rattle.tm_game.specs.Moves.{AreMoves}
use Rattle.tm_game.proofs.DriverMoves.{call_moves_told, driver_long}
use Rattle.tm_game.proofs.Extending.{extended_only, grows_from}
use Rattle.tm_game.proofs.game.Game.call_moves.Goals as goal
use Rattle.tm_syntax.specs.Design.{DesignTree}

pub good_step-requires-clause-game : goal.good_step-requires-clause-game
good_step-requires-clause-game c = c.self.invariant.steps.known

pub good_step-requires-clause-set : goal.good_step-requires-clause-set
good_step-requires-clause-set c =
    (subst (λ (g : GameData). IsSet g c.args.set) (sym c.self.view_is) c.requires.set).known

pub invariant_of-self : goal.invariant_of-self
invariant_of-self c = extended_only c.self.inside c.good_step.new.dd c.self.invariant c.good_step.ensures.extends

pub invariant_of-self-2 : goal.invariant_of-self-2
invariant_of-self-2 c = extended_only c.self.inside c.good_step.new.dd c.self.invariant c.good_step.ensures.extends

pub returns-in_err-moves-clause-grows : goal.returns-in_err-moves-clause-grows
returns-in_err-moves-clause-grows c =
    grows_from c.self.inside _ c.self.view_is c.good_step.new.dd c.self.inside.recent c.good_step.ensures.extends

pub returns-clause-grows : goal.returns-clause-grows
returns-clause-grows c =
    grows_from c.self.inside _ c.self.view_is c.good_step.new.dd c.self.inside.recent c.good_step.ensures.extends

pub returns-clause-answer : goal.returns-clause-answer
returns-clause-answer c =
    subst (λ (g : GameData). (d : DesignTree) → IsOf d g → AreMoves d g.order c.good_step.new.dd.table
    (shapes.Call c.args.task) (in_set d g c.args.set) c.in_ok-moves.moves) c.self.view_is
    (λ d of.
    call_moves_told c.self.inside c.self.invariant d of c.args.set
    (subst (λ (g : GameData). IsSet g c.args.set) (sym c.self.view_is) c.requires.set).reads c.good_step.new.dd.table
    c.in_ok-moves.moves c.args.task
    (subst (λ (g : GameData). c.args.task < length g.flat.tasks) (sym c.self.view_is) c.requires.task)
    c.in_ok-moves.ensures.answer)

pub good_step-requires-clause-index : goal.good_step-requires-clause-index
good_step-requires-clause-index c =
    omega (
      arith,
      driver_long c.self.inside c.self.invariant,
      subst (λ (g : GameData). c.args.task < length g.flat.tasks) (sym c.self.view_is) c.requires.task,
    )
