use Rattle.std.proofs.Common.{ℕ, List, map, subst}
use Rattle.std.specs.Prelude.{Contains}
use Rattle.std.proofs.lemmas.Result.{IfOk-weaker}
use Rattle.tm_dd.specs.declared.node.NodeId.{NodeId}
use Rattle.tm_dd.specs.Table.{means}
use Rattle.tm_ddops.specs.Manager.{IsFunction}
use Rattle.tm_ddops.specs.Operation.{substituted}
use Rattle.tm_game_bits.proofs.GameSets.{rests_is}
use Rattle.tm_game_bits.proofs.game.GameDiagrams.rests.Goals as goal

pub compose_once-requires-clause-parts : goal.compose_once-requires-clause-parts
compose_once-requires-clause-parts c = λ g there.
    c.requires.game.stutter g
    (subst (λ (parts : List (ℕ × NodeId)). Contains (map (λ p. p.1) parts) g) c.deref.ensures.value there)

pub returns-clause-answer : goal.returns-clause-answer
returns-clause-answer c =
    let t = c.compose_once.new.self.table in
    let stuttered = subst (λ (parts : List (ℕ × NodeId)).
    IsFunction t c.in_ok-stuttered.stuttered (λ v. means t c.args.set (substituted t parts v)))
    c.deref.ensures.value c.in_ok-stuttered.ensures.answer in
    IfOk-weaker c.and_once.result _ _
    (λ id x. rests_is c.args.dd.now.table t c.and_once.new.self.table c.compose_once.ensures.extends
    c.and_once.ensures.extends c.args.self.now c.requires.game c.args.set c.in_ok-stuttered.stuttered id c.requires.set
    stuttered x)
    c.and_once.ensures.answer
