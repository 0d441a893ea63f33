use Rattle.std.proofs.Common.{ℕ, List, sym, subst}
use Rattle.tm_ddops.specs.Quantified.{IsExists}
use Rattle.tm_game_bits.specs.Diagrams.{KnowsStep}
use Rattle.tm_game.proofs.PermittedMoves.{permitted_step_is}
use Rattle.tm_game.proofs.permitted.permitted_step.Goals as goal

pub returns-clause-answer : goal.returns-clause-answer
returns-clause-answer c =
    let known = subst (KnowsStep c.args.dd.now.table) (sym c.index-step.ensures)
    (c.requires.game.driver c.args.index c.index-step.result.now c.requires.index) in
    let some = subst
    (λ (levels : List ℕ). IsExists c.exists.new.self.table levels c.index-step.result.now.legal
    c.in_ok-outcomes.outcomes) c.deref.ensures.value c.in_ok-outcomes.ensures.answer in
    permitted_step_is c.args.dd.now.table c.exists.new.self.table c.and.new.self.table c.exists.ensures.grows.extends
    c.and.ensures.grows.extends c.args.made.now.steps c.args.index c.index-step.result.now c.in_ok-outcomes.outcomes
    c.in_ok-permitted.permitted c.requires.index c.index-step.ensures known c.requires.game.turn some
    c.in_ok-permitted.ensures.answer
