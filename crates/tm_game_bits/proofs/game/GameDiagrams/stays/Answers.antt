use Rattle.std.proofs.Common.{◌||◌, subst}
use Rattle.std.proofs.lemmas.Result.{IfOk-weaker}
use Rattle.tm_dd.specs.declared.node.NodeId.{NodeId}
use Rattle.tm_dd.specs.Table.{means}
use Rattle.tm_ddops.specs.Manager.{IsFunction}
use Rattle.tm_game_bits.proofs.Extended.{KnowsGame-Extends}
use Rattle.tm_game_bits.proofs.GameSets.{stays_is}
use Rattle.tm_game_bits.proofs.game.GameDiagrams.stays.Goals as goal

pub acts-requires-clause-game : goal.acts-requires-clause-game
acts-requires-clause-game c = KnowsGame-Extends _ _ c.calm.ensures.extends _ c.requires.game

pub returns-clause-answer : goal.returns-clause-answer
returns-clause-answer c =
    let w = c.or_once.new.self.table in
    let settled = subst (λ (f : NodeId).
    IsFunction w c.in_ok-settled.settled (λ v. means w f v || means w c.in_ok-acting.acting v))
    c.complement.ensures.value c.in_ok-settled.ensures.answer in
    IfOk-weaker c.and_once.result _ _
    (λ id x. stays_is c.args.dd.now.table c.calm.new.dd.table c.acts.new.dd.table w c.and_once.new.self.table
    c.calm.ensures.extends c.acts.ensures.extends c.or_once.ensures.extends c.and_once.ensures.extends
    c.args.self.now c.requires.game c.args.set c.in_ok-resting.resting c.in_ok-acting.acting
    c.in_ok-settled.settled id c.requires.set c.in_ok-resting.ensures.answer c.in_ok-acting.ensures.answer settled x)
    c.and_once.ensures.answer
