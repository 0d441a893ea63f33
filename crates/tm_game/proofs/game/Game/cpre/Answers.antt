use Rattle.std.proofs.Common.{sym, subst}
use Rattle.tm_game.specs.Game.{GameData, IsOf, IsSet, IsStates, in_set}
use Rattle.tm_game.proofs.Designs.{stays_told}
use Rattle.tm_game.proofs.Extending.{extended, grows_from}
use Rattle.tm_game.proofs.game.Game.cpre.Goals as goal
use Rattle.tm_sem.specs.Forcing.{Stays}
use Rattle.tm_syntax.specs.Design.{DesignTree}

pub cpre-requires-clause-game : goal.cpre-requires-clause-game
cpre-requires-clause-game c = c.self.invariant.steps.known

pub cpre-requires-clause-recent : goal.cpre-requires-clause-recent
cpre-requires-clause-recent c = c.self.invariant.answers

pub cpre-requires-clause-set : goal.cpre-requires-clause-set
cpre-requires-clause-set c =
    (subst (λ (g : GameData). IsSet g c.args.set) (sym c.self.view_is) c.requires).known

pub invariant_of-self : goal.invariant_of-self
invariant_of-self c =
    extended c.self.inside c.cpre.new.dd c.cpre.new.recent c.self.invariant c.cpre.ensures.extends c.cpre.ensures.recent

pub invariant_of-self-2 : goal.invariant_of-self-2
invariant_of-self-2 c =
    extended c.self.inside c.cpre.new.dd c.cpre.new.recent c.self.invariant c.cpre.ensures.extends c.cpre.ensures.recent

pub returns-in_err-stays-clause-grows : goal.returns-in_err-stays-clause-grows
returns-in_err-stays-clause-grows c =
    grows_from c.self.inside _ c.self.view_is c.cpre.new.dd c.cpre.new.recent c.cpre.ensures.extends

pub returns-clause-grows : goal.returns-clause-grows
returns-clause-grows c =
    grows_from c.self.inside _ c.self.view_is c.cpre.new.dd c.cpre.new.recent c.cpre.ensures.extends

pub returns-clause-answer : goal.returns-clause-answer
returns-clause-answer c =
    subst (λ (g : GameData). (d : DesignTree) → IsOf d g → IsStates d g.order c.cpre.new.dd.table
    (Stays d (in_set d g c.args.set)) c.in_ok-stays.stays) c.self.view_is
    (λ d of.
    stays_told c.self.inside c.self.invariant d of c.args.set
    (subst (λ (g : GameData). IsSet g c.args.set) (sym c.self.view_is) c.requires).reads c.cpre.new.dd.table
    c.in_ok-stays.stays c.in_ok-stays.ensures.answer)
