use Rattle.std.proofs.Common.{◌&&◌, subst}
use Rattle.std.proofs.lemmas.Result.{IfOk-weaker}
use Rattle.tm_dd.specs.declared.node.NodeId.{NodeId}
use Rattle.tm_dd.specs.Table.{means}
use Rattle.tm_ddops.specs.Manager.{IsFunction}
use Rattle.tm_game_bits.specs.Diagrams.{IsSetOf, game_of}
use Rattle.tm_game_bits.specs.Forcing.{Stays}
use Rattle.tm_game_bits.proofs.Extended.{AreAnswers-Extends, KnowsGame-Extends}
use Rattle.tm_game_bits.proofs.GameSets.{epre_is}
use Rattle.tm_game_bits.proofs.game.GameDiagrams.epre.Goals as goal

pub returns-clause-recent : goal.returns-clause-recent
returns-clause-recent c =
    AreAnswers-Extends c.cpre.new.dd.table c.and_once.new.self.table c.and_once.ensures.extends c.args.self.now
    c.cpre.new.recent (KnowsGame-Extends _ _ c.cpre.ensures.extends _ c.requires.game) c.cpre.ensures.recent

pub returns-clause-answer : goal.returns-clause-answer
returns-clause-answer c =
    let s = c.args.dd.now.table in
    let t = c.cpre.new.dd.table in
    let u = c.and_once.new.self.table in
    let g = c.args.self.now in
    let kept = subst (λ (f : NodeId). IsSetOf t (Stays (game_of s g) (means s f)) c.in_ok-kept.kept)
    c.complement.ensures.value c.in_ok-kept.ensures.answer in
    IfOk-weaker c.and_once.result _ _
    (λ id x. epre_is s t u c.cpre.ensures.extends c.and_once.ensures.extends g c.requires.game c.args.set
    c.in_ok-kept.kept id kept
    (subst (λ (f : NodeId). IsFunction u id (λ v. means u g.valid v && means u f v)) c.complement-2.ensures.value x))
    c.and_once.ensures.answer
