use Rattle.std.proofs.Common.{ℕ, List, map, subst}
use Rattle.std.specs.Prelude.{Contains}
use Rattle.std.proofs.lemmas.Result.{IfOk-weaker}
use Rattle.tm_dd.specs.declared.node.NodeId.{NodeId}
use Rattle.tm_dd.specs.Table.{means}
use Rattle.tm_ddops.specs.Manager.{IsFunction}
use Rattle.tm_ddops.specs.Operation.{substituted}
use Rattle.tm_game_bits.proofs.StepSets.{leading_is}
use Rattle.tm_game_bits.proofs.step.StepDiagrams.leading.Goals as goal

pub compose_once-requires-clause-parts : goal.compose_once-requires-clause-parts
compose_once-requires-clause-parts c = λ g there.
    c.requires.step.next g
    (subst (λ (parts : List (ℕ × NodeId)). Contains (map (λ p. p.1) parts) g) c.deref.ensures.value there)

pub returns-clause-answer : goal.returns-clause-answer
returns-clause-answer c =
    let t = c.compose_once.new.self.table in
    let lands = subst (λ (parts : List (ℕ × NodeId)).
    IsFunction t c.in_ok-lands.lands (λ v. means t c.args.into (substituted t parts v))) c.deref.ensures.value
    c.in_ok-lands.ensures.answer in
    IfOk-weaker c.and_once.result _ _
    (λ id x. leading_is c.args.dd.now.table t c.or_once.new.self.table c.and_once.new.self.table
    c.compose_once.ensures.extends c.or_once.ensures.extends c.and_once.ensures.extends c.args.self.now
    c.requires.step c.args.into c.in_ok-lands.lands c.in_ok-ends.ends id c.requires.into lands
    c.in_ok-ends.ensures.answer x)
    c.and_once.ensures.answer
