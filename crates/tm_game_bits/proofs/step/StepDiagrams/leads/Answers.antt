use Rattle.std.proofs.Common.{ℕ, List, subst}
use Rattle.std.proofs.lemmas.Result.{IfOk-weaker}
use Rattle.tm_dd.specs.Table.{means}
use Rattle.tm_ddops.specs.Quantified.{IsExists}
use Rattle.tm_game_bits.specs.Diagrams.{step_of}
use Rattle.tm_game_bits.proofs.StepSets.{leads_is}
use Rattle.tm_game_bits.proofs.step.StepDiagrams.leads.Goals as goal

pub returns-clause-answer : goal.returns-clause-answer
returns-clause-answer c =
    let u = c.for_some.new.dd.table in
    IfOk-weaker c.for_some.result _ _
    (λ id x. leads_is c.leading.new.dd.table u c.for_some.ensures.extends
    (step_of c.args.dd.now.table c.args.self.now) (means c.args.dd.now.table c.args.into) c.in_ok-outcomes.outcomes id
    c.in_ok-outcomes.ensures.answer
    (subst (λ (levels : List ℕ). IsExists u levels c.in_ok-outcomes.outcomes id) c.deref.ensures.value x))
    c.for_some.ensures.answer
