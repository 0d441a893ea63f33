use Rattle.std.proofs.Common.{◌≡◌, sym, subst}
use Rattle.tm_syntax.specs.declared.fault.Quantity.{Quantity}
use Rattle.tm_syntax.specs.Scopes.Context.{task_body}
use Rattle.tm_syntax.specs.Tree.View.{spec_tree, task_tree, template_tree}
use Rattle.tm_limits.specs.Amount.{capped}
use Rattle.tm_limits.specs.Shares.{controllable_share}
use Rattle.tm_limits.proofs.shares.tasks.controllable_share.Goals as goal

pub returns-in-Statements : goal.returns-in-Statements
returns-in-Statements c = λ t at.
    subst (λ (q : Quantity). c.weight_of_body.result ≡ capped (controllable_share (spec_tree c.args.scopes.now) q
    (template_tree t) (c.args.index, task_tree c.args.task.now))) (sym c.in-Statements.is)
    (c.weight_of_body.ensures t (task_body c.args.index) at)
