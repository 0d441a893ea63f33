use Rattle.std.proofs.Common.{◌≡◌, Option, Some, None, sym, ap, ◌∙◌}
use Rattle.std.specs.Option.{option_copied, option_map, option_map_or}
use Rattle.tm_syntax.specs.Tree.{TaskTree}
use Rattle.tm_syntax.specs.Tree.View.{body_tree, spec_tree, task_tree}
use Rattle.tm_syntax.specs.Scopes.Calls.{numbered_task}
use Rattle.tm_syntax.specs.Scopes.Parts.{stmts_in}
use Rattle.tm_limits.specs.Amount.{capped}
use Rattle.tm_limits.specs.Inner.Weights.{WeightTable, sum_weights}
use Rattle.tm_limits.proofs.TaskTables.{numbered-viewed}
use Rattle.tm_limits.proofs.tasks.task_weight.Goals as goal

pub returns-in-Some : goal.returns-in-Some
returns-in-Some c =
    let s = c.args.scopes.now in
    let x : WeightTable = record {
      spec = s;
      from = c.args.task.template;
      weight = c.args.weight;
      weights = c.args.weights.now.entries;
    } in
    let there : numbered_task (spec_tree s) c.args.task ≡ Some (task_tree c.in-Some.def.now) =
    numbered-viewed s c.args.task
    ∙ ap (option_map task_tree) (sym c.task.ensures.def ∙ ap option_copied c.in-Some.is) in
    c.body_weight.ensures
    ∙ ap (λ (y : WeightTable). capped (sum_weights y (stmts_in (body_tree c.in-Some.def.now.body)))) c.new.ensures
    ∙ ap (λ (o : Option TaskTree). capped (option_map_or (λ (k : TaskTree). sum_weights x (stmts_in k.body)) o 0))
    (sym there)

pub returns-in-None : goal.returns-in-None
returns-in-None c =
    let s = c.args.scopes.now in
    let x : WeightTable = record {
      spec = s;
      from = c.args.task.template;
      weight = c.args.weight;
      weights = c.args.weights.now.entries;
    } in
    let there : numbered_task (spec_tree s) c.args.task ≡ None =
    numbered-viewed s c.args.task
    ∙ ap (option_map task_tree) (sym c.task.ensures.def ∙ ap option_copied c.in-None.is) in
    ap (λ (o : Option TaskTree). capped (option_map_or (λ (k : TaskTree). sum_weights x (stmts_in k.body)) o 0))
    (sym there)
