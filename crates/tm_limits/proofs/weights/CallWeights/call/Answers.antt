use Rattle.std.proofs.Common.{ℕ, Option, sym, ap, ◌∙◌}
use Rattle.std.specs.Prelude.{unwrap_or}
use Rattle.std.specs.Option.{option_map_or}
use Rattle.tm_syntax.specs.declared.member.Member.{Member}
use Rattle.tm_limits.specs.Inner.Weights.{WeightTable, call_weight, weight_in}
use Rattle.tm_limits.proofs.weights.CallWeights.call.Goals as goal

pub returns-in-Some : goal.returns-in-Some
returns-in-Some c =
    let x = c.self.inside in
    let path = c.args.path.now in
    c.unwrap_or.ensures
    ∙ ap (λ (o : Option ℕ). unwrap_or o 0) (c.copied.ensures ∙ c.get.ensures.value)
    ∙ ap (λ (o : Option Member). option_map_or (weight_in x.weights.now.entries) o 0)
    (sym c.in-Some.is ∙ c.task_number.ensures)
    ∙ ap (λ (t : WeightTable). call_weight t path) c.self.view_is
