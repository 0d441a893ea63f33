use Rattle.std.proofs.Common.{sym, ap, ◌∙◌}
use Rattle.tm_syntax.specs.Tree.{ExprTree, path, group, element}
use Rattle.tm_syntax.specs.Tree.View.{expr_tree}
use Rattle.tm_syntax.specs.Design.Atoms.{resolved}
use Rattle.tm_scope.specs.Cells.{scope_of}
use Rattle.tm_flat_pool.specs.Inner.Marks.{variable_in}
use Rattle.tm_flat_pool.proofs.variables.+variable.Goals as goal

pub returns-in-Path : goal.returns-in-Path
returns-in-Path t c =
    λ d over.
    c.path_variable.ensures d over
    ∙ ap (λ (t : ExprTree). variable_in (resolved d (scope_of c.args.scope.now.at) t))
    (ap path c.as_slice.ensures.value ∙ ap expr_tree (sym c.in-Path.is))

pub returns-in-Group : goal.returns-in-Group
returns-in-Group t c =
    λ d over.
    c.variable.ensures d over
    ∙ ap (λ (t : ExprTree). variable_in (resolved d (scope_of c.args.scope.now.at) t))
    ((λ i. group c.in-Group.field-0 (expr_tree (c.deref.ensures i))) ∙ ap expr_tree (sym c.in-Group.is))

pub returns-in-Element : goal.returns-in-Element
returns-in-Element t c =
    λ d over.
    let scope = scope_of c.args.scope.now.at in
    c.element_variable.ensures d over (resolved d scope (expr_tree c.deref-in-Element.result.now))
    ∙ ap (λ (t : ExprTree). variable_in (resolved d scope t))
    ((λ i. element (c.as_slice-in-Element.ensures.value i) (expr_tree (c.deref-in-Element.ensures i)))
    ∙ ap expr_tree (sym c.in-Element.is))

pub returns-in-Number : goal.returns-in-Number
returns-in-Number t c = λ d over.
    ap (λ (t : ExprTree). variable_in (resolved d (scope_of c.args.scope.now.at) t)) (ap expr_tree (sym c.in-Number.is))

pub returns-in-Truth : goal.returns-in-Truth
returns-in-Truth t c = λ d over.
    ap (λ (t : ExprTree). variable_in (resolved d (scope_of c.args.scope.now.at) t)) (ap expr_tree (sym c.in-Truth.is))

pub returns-in-Unary : goal.returns-in-Unary
returns-in-Unary t c = λ d over.
    ap (λ (t : ExprTree). variable_in (resolved d (scope_of c.args.scope.now.at) t)) (ap expr_tree (sym c.in-Unary.is))

pub returns-in-Binary : goal.returns-in-Binary
returns-in-Binary t c = λ d over.
    ap (λ (t : ExprTree). variable_in (resolved d (scope_of c.args.scope.now.at) t)) (ap expr_tree (sym c.in-Binary.is))

pub returns-in-Shift : goal.returns-in-Shift
returns-in-Shift t c = λ d over.
    ap (λ (t : ExprTree). variable_in (resolved d (scope_of c.args.scope.now.at) t)) (ap expr_tree (sym c.in-Shift.is))

pub returns-in-Conditional : goal.returns-in-Conditional
returns-in-Conditional t c = λ d over.
    ap (λ (t : ExprTree). variable_in (resolved d (scope_of c.args.scope.now.at) t))
    (ap expr_tree (sym c.in-Conditional.is))

pub returns-in-Cast : goal.returns-in-Cast
returns-in-Cast t c = λ d over.
    ap (λ (t : ExprTree). variable_in (resolved d (scope_of c.args.scope.now.at) t)) (ap expr_tree (sym c.in-Cast.is))
