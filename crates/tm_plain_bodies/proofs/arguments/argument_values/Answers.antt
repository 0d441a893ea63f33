use Rattle.std.proofs.Common.{sym, ap, ◌∙◌, subst, arith}
use Rattle.tm_syntax.specs.declared.tree.Param.{Param}
use Rattle.tm_syntax.specs.Scopes.Names.{type_of}
use Rattle.tm_syntax.specs.Tree.View.{expr_tree, expr_trees}
use Rattle.tm_design.specs.Typed.{HasTypeAt}
use Rattle.tm_plain_exprs.specs.Valued.{IsValued}
use Rattle.tm_plain_bodies.proofs.Giving.{all_are_valued, as_many, handed_some, param_here, tree_here, trees_long, typed_at, valued_begins, valued_halts, valued_more}
use Rattle.tm_plain_bodies.proofs.arguments.argument_values.Goals as goal

pub loop-index-init : goal.loop-index-init
loop-index-init c =
    valued_begins c.args.reader.now c.args.params.now (expr_trees c.args.args.now) c.args.course.now
    c.new-values.result.items c.new-values.ensures.items

pub bounds-params-index : goal.bounds-params-index
bounds-params-index c =
    let many = as_many c.args.reader.now c.args.params.now (expr_trees c.args.args.now) c.requires in
    let long = trees_long c.args.args.now in omega (arith, many, long)

pub operand-requires : goal.operand-requires
operand-requires c =
    let s = c.args.reader.now in
    let args = expr_trees c.args.args.now in
    let many = as_many s c.args.params.now args c.requires in
    let long = trees_long c.args.args.now in
    subst (λ ty. HasTypeAt s ty (expr_tree c.index-args-index.result))
    (sym (c.of-ty.ensures ∙ ap (λ (p : Param). type_of p.ty) (sym c.index-params-index.is)))
    (typed_at s c.args.params.now args c.requires c.loop-index.index c.index-params-index.result
    (expr_tree c.index-args-index.result)
    (param_here c.args.params.now c.loop-index.index c.index-params-index.result (omega (arith, many, long))
    c.index-params-index.is)
    (tree_here c.args.args.now c.loop-index.index c.index-args-index.result (omega arith) c.index-args-index.is))

pub returns-in_err-value-clause-halts : goal.returns-in_err-value-clause-halts
returns-in_err-value-clause-halts c =
    let s = c.args.reader.now in
    let args = expr_trees c.args.args.now in
    handed_some s c.args.course.now args c.from_residual.result _ c.from_residual.ensures.1
    (valued_halts s c.args.params.now args c.args.course.now c.loop-index.index c.loop-index.course
    c.loop-index.values.items c.loop-index.invariant (expr_tree c.index-args-index.result)
    (tree_here c.args.args.now c.loop-index.index c.index-args-index.result (omega arith) c.index-args-index.is) _
    c.in_err-value.ensures.halts)

pub loop-index-preserved : goal.loop-index-preserved
loop-index-preserved c =
    let s = c.args.reader.now in
    let args = expr_trees c.args.args.now in
    let many = as_many s c.args.params.now args c.requires in
    let long = trees_long c.args.args.now in
    valued_more s c.args.params.now args c.args.course.now c.loop-index.index c.loop-index.course
    c.loop-index.values.items c.loop-index.invariant c.operand.new.course c.operand.ensures.same c.push.new.self.items
    c.index-params-index.result (expr_tree c.index-args-index.result) c.in_ok-value.value
    (param_here c.args.params.now c.loop-index.index c.index-params-index.result (omega (arith, many, long))
    c.index-params-index.is)
    (tree_here c.args.args.now c.loop-index.index c.index-args-index.result (omega arith) c.index-args-index.is)
    (subst (λ ty. IsValued s c.loop-index.course.store ty (expr_tree c.index-args-index.result) c.in_ok-value.value)
    (c.of-ty.ensures ∙ ap (λ (p : Param). type_of p.ty) (sym c.index-params-index.is)) c.in_ok-value.ensures.value)
    c.in_ok-push.ensures.items

pub returns-clause-values : goal.returns-clause-values
returns-clause-values c =
    let long = trees_long c.args.args.now in
    all_are_valued c.args.reader.now c.args.params.now (expr_trees c.args.args.now) c.args.course.now c.loop-index.index
    c.loop-index.course c.loop-index.values.items c.loop-index.invariant (omega (arith, long))
