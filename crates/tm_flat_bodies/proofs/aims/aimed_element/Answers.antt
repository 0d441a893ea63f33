use Rattle.std.proofs.Common.{sym, subst}
use Rattle.tm_syntax.specs.declared.design.Ty.{Ty}
use Rattle.tm_syntax.specs.Tree.{element}
use Rattle.tm_syntax.specs.Tree.View.{expr_tree}
use Rattle.tm_scope.specs.Types.{ty_of}
use Rattle.tm_design.specs.Typed.{HasTypeAt}
use Rattle.tm_flat_stmts.proofs.Flowing.{ends_along, flow_along}
use Rattle.tm_flat_stmts.proofs.IntoElements.{element_target}
use Rattle.tm_flat_bodies.proofs.Aiming.{aims_element}
use Rattle.tm_flat_bodies.proofs.aims.aimed_element.Goals as goal

pub element_place-requires-clause-typed : goal.element_place-requires-clause-typed
element_place-requires-clause-typed c = c.requires.typed

pub element-requires-clause-typed : goal.element-requires-clause-typed
element-requires-clause-typed c =
    let s = c.args.reader.now in
    let index = expr_tree c.args.index.now in
    subst (λ (ty : Ty). HasTypeAt s ty (element c.args.path.now index))
    (sym (c.target_type-asked.ensures c.requires.typed.0
    (element_target s c.requires.typed.0 c.args.path.now index c.requires.typed.1))) c.requires.typed.1

pub element-requires-clause-sound : goal.element-requires-clause-sound
element-requires-clause-sound c = c.in_ok-place.ensures.sound

pub element-requires-clause-flow : goal.element-requires-clause-flow
element-requires-clause-flow c =
    flow_along c.args.reader.now.tables c.args.course.now.terms c.element_place.new.terms c.args.flow
    c.in_ok-place.ensures.grown c.requires.flow

pub element-requires-clause-ends : goal.element-requires-clause-ends
element-requires-clause-ends c =
    ends_along c.args.reader.now.tables c.args.course.now.terms c.element_place.new.terms c.args.course.now.ends
    c.in_ok-place.ensures.grown c.requires.ends

pub returns : goal.returns
returns c =
    aims_element c.args.reader.now (ty_of c.target_type-asked.result) c.args.path.now (expr_tree c.args.index.now)
    c.args.course.now _
    c.element_place.new.terms c.args.flow c.in_ok-place.place c.in_ok-within.within c.in_ok-place.ensures
    c.in_ok-within.ensures
