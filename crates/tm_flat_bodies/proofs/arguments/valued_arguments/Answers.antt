use Rattle.std.proofs.Common.{refl, sym, ap, ◌∙◌, subst, arith}
use Rattle.tm_syntax.specs.declared.tree.Param.{Param}
use Rattle.tm_syntax.specs.Scopes.Names.{type_of}
use Rattle.tm_syntax.specs.Tree.View.{expr_tree, expr_trees}
use Rattle.tm_design.specs.Typed.{HasTypeAt}
use Rattle.tm_flat_bodies.proofs.Passed.{arguments_all, arguments_begin, arguments_ends, arguments_flow, arguments_more, arguments_sound, as_many, param_here, tree_here, trees_long, typed_at}
use Rattle.tm_flat_bodies.proofs.arguments.valued_arguments.Goals as goal

pub loop-index-init : goal.loop-index-init
loop-index-init c =
    arguments_begin c.args.reader.now c.args.params.now (expr_trees c.args.args.now) c.args.course.now c.args.flow _
    refl
    c.new.ensures.items c.requires.sound c.requires.flow c.requires.ends

pub bounds-params-index : goal.bounds-params-index
bounds-params-index c =
    let many = as_many c.args.reader.now c.args.params.now (expr_trees c.args.args.now) c.requires.typed in
    let long = trees_long c.args.args.now in omega (arith, many, long)

pub one_more-requires-clause-typed : goal.one_more-requires-clause-typed
one_more-requires-clause-typed c =
    let s = c.args.reader.now in
    let args = expr_trees c.args.args.now in
    let many = as_many s c.args.params.now args c.requires.typed in
    let long = trees_long c.args.args.now in
    subst (λ ty. HasTypeAt s ty (expr_tree c.index-args-index.result))
    (sym (c.of-asked.ensures ∙ ap (λ (p : Param). type_of p.ty) (sym c.index-params-index.is)))
    (typed_at s c.args.params.now args c.requires.typed c.loop-index.index c.index-params-index.result
    (expr_tree c.index-args-index.result)
    (param_here c.args.params.now c.loop-index.index c.index-params-index.result (omega (arith, many, long))
    c.index-params-index.is)
    (tree_here c.args.args.now c.loop-index.index c.index-args-index.result (omega arith) c.index-args-index.is))

pub one_more-requires-clause-sound : goal.one_more-requires-clause-sound
one_more-requires-clause-sound c =
    arguments_sound c.args.reader.now c.args.params.now (expr_trees c.args.args.now) c.args.course.now c.args.flow
    c.loop-index.index c.loop-index.course c.loop-index.so_far c.loop-index.invariant

pub one_more-requires-clause-flow : goal.one_more-requires-clause-flow
one_more-requires-clause-flow c =
    arguments_flow c.args.reader.now c.args.params.now (expr_trees c.args.args.now) c.args.course.now c.args.flow
    c.loop-index.index c.loop-index.course c.loop-index.so_far c.loop-index.invariant

pub one_more-requires-clause-ends : goal.one_more-requires-clause-ends
one_more-requires-clause-ends c =
    arguments_ends c.args.reader.now c.args.params.now (expr_trees c.args.args.now) c.args.course.now c.args.flow
    c.loop-index.index c.loop-index.course c.loop-index.so_far c.loop-index.invariant

pub loop-index-preserved : goal.loop-index-preserved
loop-index-preserved c =
    let s = c.args.reader.now in
    let args = expr_trees c.args.args.now in
    let many = as_many s c.args.params.now args c.requires.typed in
    let long = trees_long c.args.args.now in
    arguments_more s c.args.params.now args c.args.course.now c.args.flow c.loop-index.index c.loop-index.course
    c.loop-index.so_far c.loop-index.invariant c.one_more.new.course _ c.index-params-index.result
    (expr_tree c.index-args-index.result) _
    (c.of-asked.ensures ∙ ap (λ (p : Param). type_of p.ty) (sym c.index-params-index.is))
    (param_here c.args.params.now c.loop-index.index c.index-params-index.result (omega (arith, many, long))
    c.index-params-index.is)
    (tree_here c.args.args.now c.loop-index.index c.index-args-index.result (omega arith) c.index-args-index.is)
    c.in_ok-so_far.ensures

pub returns : goal.returns
returns c =
    let long = trees_long c.args.args.now in
    arguments_all c.args.reader.now c.args.params.now (expr_trees c.args.args.now) c.args.course.now c.args.flow
    c.loop-index.index c.loop-index.course c.loop-index.so_far c.loop-index.invariant (omega (arith, long))
