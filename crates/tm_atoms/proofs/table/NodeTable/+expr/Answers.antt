use Rattle.std.proofs.Common.{◌≡◌, Some, refl, sym, ap, ◌∙◌, subst}
use Rattle.std.proofs.lemmas.Result.{IfOk-weaker}
use Rattle.tm_syntax.specs.Scopes.Names.{number_of}
use Rattle.tm_syntax.specs.Tree.{ExprTree, path, group, unary, binary, shift, conditional, cast, element}
use Rattle.tm_syntax.specs.Tree.View.{expr_tree}
use Rattle.tm_syntax.specs.Design.Atoms.{a_truth, first_element, resolved}
use Rattle.tm_syntax.specs.Design.Cells.{cell}
use Rattle.tm_scope.specs.Cells.{scope_of}
use Rattle.tm_atoms.specs.Inner.Numbers.{HasNumber, literal, truth_node}
use Rattle.tm_atoms.proofs.Resolving.{element-literal, element-other, of-binary, of-cast, of-choice, of-element, of-number, of-shift, of-unary}
use Rattle.tm_atoms.proofs.table.NodeTable.+expr.Goals as goal

pub returns-in-Truth : goal.returns-in-Truth
returns-in-Truth t c =
    IfOk-weaker c.noted.result _ _ (λ n noting d over.
    subst (λ (t : ExprTree).
    HasNumber c.args.self.now c.noted.new.self n (resolved d (scope_of c.args.scope.now.at) t))
    (ap expr_tree (sym c.in-Truth.is)) (noting (a_truth c.in-Truth.truth) (truth_node c.in-Truth.truth) refl))
    c.noted.ensures

pub returns-in-Number : goal.returns-in-Number
returns-in-Number t c =
    IfOk-weaker c.noted-in-Number.result _ _ (λ n noting d over.
    subst (λ (t : ExprTree).
    HasNumber c.args.self.now c.noted-in-Number.new.self n (resolved d (scope_of c.args.scope.now.at) t))
    (ap expr_tree (sym c.in-Number.is))
    (of-number c.args.self.now c.noted-in-Number.new.self n c.unwrap_or.result (number_of c.in-Number.number)
    c.unwrap_or.ensures noting)) c.noted-in-Number.ensures

pub returns-in-Path : goal.returns-in-Path
returns-in-Path t c =
    IfOk-weaker c.cell.result _ _ (λ n has d over.
    subst (λ (t : ExprTree).
    HasNumber c.args.self.now c.cell.new.self n (resolved d (scope_of c.args.scope.now.at) t))
    (ap path c.as_slice.ensures.value ∙ ap expr_tree (sym c.in-Path.is)) (has d over)) c.cell.ensures

pub returns-in-Group : goal.returns-in-Group
returns-in-Group t c =
    IfOk-weaker c.expr.result _ _ (λ n has d over.
    subst (λ (t : ExprTree).
    HasNumber c.args.self.now c.expr.new.self n (resolved d (scope_of c.args.scope.now.at) t))
    ((λ i. group c.in-Group.field-0 (expr_tree (c.deref.ensures i))) ∙ ap expr_tree (sym c.in-Group.is))
    (has d over)) c.expr.ensures

pub returns-in_ok-e-in-Unary : goal.returns-in_ok-e-in-Unary
returns-in_ok-e-in-Unary t c =
    IfOk-weaker c.noted-in-Unary.result _ _ (λ n noting d over.
    let scope = scope_of c.args.scope.now.at in
    subst (λ (t : ExprTree). HasNumber c.args.self.now c.noted-in-Unary.new.self n (resolved d scope t))
    ((λ i. unary c.in-Unary.field-0 c.in-Unary.op (expr_tree (c.deref-in-Unary.ensures i)))
    ∙ ap expr_tree (sym c.in-Unary.is))
    (of-unary c.args.self.now c.expr-in-Unary.new.self c.noted-in-Unary.new.self n c.in_ok-e-in-Unary.e
    (resolved d scope (expr_tree c.deref-in-Unary.result.now)) (c.in_ok-e-in-Unary.ensures d over) c.in-Unary.op
    c.unary_operator.result c.unary_operator.ensures noting)) c.noted-in-Unary.ensures

pub returns-in_ok-b-in-Binary : goal.returns-in_ok-b-in-Binary
returns-in_ok-b-in-Binary t c =
    IfOk-weaker c.noted-in-Binary.result _ _ (λ n noting d over.
    let scope = scope_of c.args.scope.now.at in
    subst (λ (t : ExprTree). HasNumber c.args.self.now c.noted-in-Binary.new.self n (resolved d scope t))
    ((λ i. binary c.in-Binary.field-0 c.in-Binary.op (expr_tree (c.deref-in-Binary.ensures i))
    (expr_tree (c.deref-in-Binary-2.ensures i))) ∙ ap expr_tree (sym c.in-Binary.is))
    (of-binary c.args.self.now c.expr-in-Binary.new.self c.expr-in-Binary-2.new.self c.noted-in-Binary.new.self n
    c.in_ok-a-in-Binary.a c.in_ok-b-in-Binary.b (resolved d scope (expr_tree c.deref-in-Binary.result.now))
    (resolved d scope (expr_tree c.deref-in-Binary-2.result.now)) (c.in_ok-a-in-Binary.ensures d over)
    (c.in_ok-b-in-Binary.ensures d over) c.in-Binary.op c.binary_operator.result c.binary_operator.ensures
    c.both.result c.both.ensures noting)) c.noted-in-Binary.ensures

pub returns-in_ok-e-in-Shift : goal.returns-in_ok-e-in-Shift
returns-in_ok-e-in-Shift t c =
    IfOk-weaker c.noted-in-Shift.result _ _ (λ n noting d over.
    let scope = scope_of c.args.scope.now.at in
    subst (λ (t : ExprTree). HasNumber c.args.self.now c.noted-in-Shift.new.self n (resolved d scope t))
    ((λ i. shift c.in-Shift.field-0 c.in-Shift.op (expr_tree (c.deref-in-Shift.ensures i)) c.in-Shift.by)
    ∙ ap expr_tree (sym c.in-Shift.is))
    (of-shift c.args.self.now c.expr-in-Shift.new.self c.noted-in-Shift.new.self n c.in_ok-e-in-Shift.e
    (resolved d scope (expr_tree c.deref-in-Shift.result.now)) (c.in_ok-e-in-Shift.ensures d over) c.in-Shift.op
    c.shift_operator.result c.shift_operator.ensures c.unwrap_or-in-Shift.result (number_of c.in-Shift.by)
    c.unwrap_or-in-Shift.ensures noting)) c.noted-in-Shift.ensures

pub returns-in_ok-b-in-Conditional : goal.returns-in_ok-b-in-Conditional
returns-in_ok-b-in-Conditional t c =
    IfOk-weaker c.noted-in-Conditional.result _ _ (λ n noting d over.
    let scope = scope_of c.args.scope.now.at in
    subst (λ (t : ExprTree). HasNumber c.args.self.now c.noted-in-Conditional.new.self n (resolved d scope t))
    ((λ i. conditional c.in-Conditional.field-0 (expr_tree (c.deref-in-Conditional.ensures i))
    (expr_tree (c.deref-in-Conditional-2.ensures i)) (expr_tree (c.deref-in-Conditional-3.ensures i)))
    ∙ ap expr_tree (sym c.in-Conditional.is))
    (of-choice c.args.self.now c.expr-in-Conditional.new.self c.expr-in-Conditional-2.new.self
    c.expr-in-Conditional-3.new.self c.noted-in-Conditional.new.self n c.in_ok-e-in-Conditional.e
    c.in_ok-a-in-Conditional.a c.in_ok-b-in-Conditional.b
    (resolved d scope (expr_tree c.deref-in-Conditional.result.now))
    (resolved d scope (expr_tree c.deref-in-Conditional-2.result.now))
    (resolved d scope (expr_tree c.deref-in-Conditional-3.result.now)) (c.in_ok-e-in-Conditional.ensures d over)
    (c.in_ok-a-in-Conditional.ensures d over) (c.in_ok-b-in-Conditional.ensures d over)
    c.both-in-Conditional.result c.both-in-Conditional-2.result c.both-in-Conditional.ensures
    c.both-in-Conditional-2.ensures noting)) c.noted-in-Conditional.ensures

pub returns-in_ok-e-in-Cast : goal.returns-in_ok-e-in-Cast
returns-in_ok-e-in-Cast t c =
    IfOk-weaker c.noted-in-Cast.result _ _ (λ n noting d over.
    let scope = scope_of c.args.scope.now.at in
    subst (λ (t : ExprTree). HasNumber c.args.self.now c.noted-in-Cast.new.self n (resolved d scope t))
    ((λ i. cast c.in-Cast.field-0 c.in-Cast.to (expr_tree (c.deref-in-Cast.ensures i)))
    ∙ ap expr_tree (sym c.in-Cast.is))
    (of-cast c.args.self.now c.expr-in-Cast.new.self c.noted-in-Cast.new.self n c.in_ok-e-in-Cast.e
    (resolved d scope (expr_tree c.deref-in-Cast.result.now)) (c.in_ok-e-in-Cast.ensures d over)
    c.unwrap_or-in-Cast.result (number_of c.in-Cast.to) c.unwrap_or-in-Cast.ensures noting)) c.noted-in-Cast.ensures

pub returns-in-Some : goal.returns-in-Some
returns-in-Some t c =
    IfOk-weaker c.cell-in-Some.result _ _ (λ n has d over.
    let scope = scope_of c.args.scope.now.at in
    let index = expr_tree c.deref-in-Element.result.now in
    let names = c.as_slice-in-Some.result.now in
    subst (λ (t : ExprTree). HasNumber c.args.self.now c.cell-in-Some.new.self n (resolved d scope t))
    ((λ i. element (c.as_slice-in-Some.ensures.value i) (expr_tree (c.deref-in-Element.ensures i)))
    ∙ ap expr_tree (sym c.in-Element.is))
    (subst (HasNumber c.args.self.now c.cell-in-Some.new.self n)
    (sym (element-literal d scope names (resolved d scope index) index c.in-Some.k
    (sym c.literal.ensures ∙ c.in-Some.is))) (has d over))) c.cell-in-Some.ensures

pub returns-in_ok-index-in-None : goal.returns-in_ok-index-in-None
returns-in_ok-index-in-None t c =
    IfOk-weaker c.noted-in-None.result _ _ (λ n noting d over.
    let scope = scope_of c.args.scope.now.at in
    let tree = expr_tree c.in-Element.index.value in
    let same : expr_tree c.deref-in-Element.result.now ≡ tree = ap expr_tree c.deref-in-Element.ensures in
    let names = c.as_slice-in-None.result.now in
    subst (λ (t : ExprTree). HasNumber c.args.self.now c.noted-in-None.new.self n (resolved d scope t))
    (ap (λ names. element names tree) c.as_slice-in-None.ensures.value ∙ ap expr_tree (sym c.in-Element.is))
    (subst (HasNumber c.args.self.now c.noted-in-None.new.self n)
    (sym (element-other d scope names (resolved d scope tree) tree
    (ap literal (sym same) ∙ sym c.literal.ensures ∙ c.in-None.is)))
    (of-element c.args.self.now c.expr-in-None.new.self c.noted-in-None.new.self n c.in_ok-index-in-None.index
    (resolved d scope tree)
    (subst (λ (t : ExprTree). HasNumber c.args.self.now c.expr-in-None.new.self c.in_ok-index-in-None.index
    (resolved d scope t)) (ap expr_tree c.deref-in-None.ensures) (c.in_ok-index-in-None.ensures d over))
    c.first_element-first.result (first_element (cell d scope names (Some 0)))
    (c.first_element-first.ensures d over) noting))) c.noted-in-None.ensures
