use Rattle.std.proofs.Common.{sym, subst}
use Rattle.tm_game.specs.Game.{GameData, IsOf, IsSet, IsStates, in_set}
use Rattle.tm_game.proofs.Designs.{forced_told}
use Rattle.tm_game.proofs.Extending.{extended, grows_from}
use Rattle.tm_game.proofs.game.Game.epre.Goals as goal
use Rattle.tm_sem.specs.Forcing.{Forced}
use Rattle.tm_syntax.specs.Design.{DesignTree}

pub epre-requires-clause-game : goal.epre-requires-clause-game
epre-requires-clause-game c = c.self.invariant.steps.known

pub epre-requires-clause-recent : goal.epre-requires-clause-recent
epre-requires-clause-recent c = c.self.invariant.answers

pub epre-requires-clause-set : goal.epre-requires-clause-set
epre-requires-clause-set c =
    (subst (λ (g : GameData). IsSet g c.args.set) (sym c.self.view_is) c.requires).known

pub invariant_of-self : goal.invariant_of-self
invariant_of-self c =
    extended c.self.inside c.epre.new.dd c.epre.new.recent c.self.invariant c.epre.ensures.extends c.epre.ensures.recent

pub invariant_of-self-2 : goal.invariant_of-self-2
invariant_of-self-2 c =
    extended c.self.inside c.epre.new.dd c.epre.new.recent c.self.invariant c.epre.ensures.extends c.epre.ensures.recent

pub returns-in_err-forced-clause-grows : goal.returns-in_err-forced-clause-grows
returns-in_err-forced-clause-grows c =
    grows_from c.self.inside _ c.self.view_is c.epre.new.dd c.epre.new.recent c.epre.ensures.extends

pub returns-clause-grows : goal.returns-clause-grows
returns-clause-grows c =
    grows_from c.self.inside _ c.self.view_is c.epre.new.dd c.epre.new.recent c.epre.ensures.extends

pub returns-clause-answer : goal.returns-clause-answer
returns-clause-answer c =
    subst (λ (g : GameData). (d : DesignTree) → IsOf d g → IsStates d g.order c.epre.new.dd.table
    (Forced d (in_set d g c.args.set)) c.in_ok-forced.forced) c.self.view_is
    (λ d of.
    forced_told c.self.inside c.self.invariant d of c.args.set
    (subst (λ (g : GameData). IsSet g c.args.set) (sym c.self.view_is) c.requires).reads c.epre.new.dd.table
    c.in_ok-forced.forced c.in_ok-forced.ensures.answer)
