use Rattle.std.proofs.Common.{sym, subst}
use Rattle.tm_game.specs.Game.{GameData, IsOf, IsSet, IsStates, in_set}
use Rattle.tm_game.proofs.Designs.{calm_told}
use Rattle.tm_game.proofs.Extending.{extended_only, grows_from}
use Rattle.tm_game.proofs.game.Game.calm.Goals as goal
use Rattle.tm_sem.specs.Forcing.{IsCalm}
use Rattle.tm_syntax.specs.Design.{DesignTree}

pub calm-requires-clause-game : goal.calm-requires-clause-game
calm-requires-clause-game c = c.self.invariant.steps.known

pub calm-requires-clause-set : goal.calm-requires-clause-set
calm-requires-clause-set c =
    (subst (λ (g : GameData). IsSet g c.args.set) (sym c.self.view_is) c.requires).known

pub invariant_of-self : goal.invariant_of-self
invariant_of-self c =
    extended_only c.self.inside c.calm.new.dd c.self.invariant c.calm.ensures.extends

pub invariant_of-self-2 : goal.invariant_of-self-2
invariant_of-self-2 c =
    extended_only c.self.inside c.calm.new.dd c.self.invariant c.calm.ensures.extends

pub returns-in_err-calm-clause-grows : goal.returns-in_err-calm-clause-grows
returns-in_err-calm-clause-grows c =
    grows_from c.self.inside _ c.self.view_is c.calm.new.dd c.self.inside.recent c.calm.ensures.extends

pub returns-clause-grows : goal.returns-clause-grows
returns-clause-grows c =
    grows_from c.self.inside _ c.self.view_is c.calm.new.dd c.self.inside.recent c.calm.ensures.extends

pub returns-clause-answer : goal.returns-clause-answer
returns-clause-answer c =
    subst (λ (g : GameData). (d : DesignTree) → IsOf d g → IsStates d g.order c.calm.new.dd.table
    (IsCalm d (in_set d g c.args.set)) c.in_ok-calm.calm) c.self.view_is
    (λ d of.
    calm_told c.self.inside c.self.invariant d of c.args.set
    (subst (λ (g : GameData). IsSet g c.args.set) (sym c.self.view_is) c.requires).reads c.calm.new.dd.table
    c.in_ok-calm.calm c.in_ok-calm.ensures.answer)
