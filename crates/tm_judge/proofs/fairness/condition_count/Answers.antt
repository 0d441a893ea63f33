use Rattle.std.proofs.Common.{arith}
use Rattle.tm_syntax.specs.Design.View.{design_tree}
use Rattle.tm_judge.proofs.Counting.{conditions_counted, few_conditions, few_declared}
use Rattle.tm_judge.proofs.fairness.condition_count.Goals as goal

pub overflow_add-result : goal.overflow_add-result
overflow_add-result c = omega (arith, c.owed_count.ensures, few_conditions c.args.design.now c.requires)

pub overflow_cast-result : goal.overflow_cast-result
overflow_cast-result c = omega (arith, few_declared c.args.design.now c.requires)

pub overflow_add-result-2 : goal.overflow_add-result-2
overflow_add-result-2 c =
    omega (
      arith,
      c.owed_count.ensures,
      few_conditions c.args.design.now c.requires,
      few_declared c.args.design.now c.requires,
    )

pub returns : goal.returns
returns c =
    let all = conditions_counted (design_tree c.args.design.now) in
    omega (arith, c.owed_count.ensures, all)
