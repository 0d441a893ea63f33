use Rattle.std.proofs.Common.{sym, ap, ◌∙◌}
use Rattle.tm_syntax.specs.Tree.View.{expr_tree}
use Rattle.tm_scope.specs.Cells.{scope_of}
use Rattle.tm_atoms.proofs.Resolving.{element-literal, element-other}
use Rattle.tm_flat_pool.specs.Inner.Marks.{variable_in}
use Rattle.tm_flat_pool.proofs.variables.element_variable.Goals as goal

pub returns-in-Some : goal.returns-in-Some
returns-in-Some c =
    λ d over r.
    c.path_variable.ensures d over
    ∙ sym (ap variable_in (element-literal d (scope_of c.args.scope.now.at) c.args.path.now r
    (expr_tree c.args.index.now) c.in-Some.number (sym c.literal.ensures ∙ c.in-Some.is)))

pub returns-in-None : goal.returns-in-None
returns-in-None c = λ d over r.
    sym (ap variable_in (element-other d (scope_of c.args.scope.now.at) c.args.path.now r (expr_tree c.args.index.now)
    (sym c.literal.ensures ∙ c.in-None.is)))
