use Rattle.std.proofs.Common.{ℕ, List, subst}
use Rattle.std.proofs.lemmas.Result.{IfOk-weaker}
use Rattle.tm_ddops.specs.Quantified.{IsExists}
use Rattle.tm_game_bits.proofs.StepSets.{allowed_is}
use Rattle.tm_game_bits.proofs.step.StepDiagrams.allowed.Goals as goal

pub returns-clause-answer : goal.returns-clause-answer
returns-clause-answer c =
    let t = c.for_some.new.dd.table in
    let some = subst (λ (levels : List ℕ). IsExists t levels c.args.self.now.legal c.in_ok-outcomes.outcomes)
    c.deref.ensures.value c.in_ok-outcomes.ensures.answer in
    IfOk-weaker c.and_once.result _ _
    (λ id x. allowed_is c.args.dd.now.table t c.and_once.new.self.table c.for_some.ensures.extends
    c.and_once.ensures.extends c.args.self.now c.requires.step c.args.turn c.in_ok-outcomes.outcomes id c.requires.turn
    some x)
    c.and_once.ensures.answer
