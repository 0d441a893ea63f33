use Rattle.tm_syntax.specs.Tree.View.{expr_tree}
use Rattle.tm_scope.specs.Types.{ty_of}
use Rattle.tm_flat_exprs.specs.Valued.{bits_in}
use Rattle.tm_flat_exprs.proofs.Later.{term_along}
use Rattle.tm_flat_stmts.proofs.Flowing.{flow_along}
use Rattle.tm_flat_stmts.proofs.IntoElements.{element_put, element_target}
use Rattle.tm_flat_stmts.proofs.elements.put_element.Goals as goal

pub element_place-requires-clause-typed : goal.element_place-requires-clause-typed
element_place-requires-clause-typed c = (ty_of c.args.ty, c.requires.typed)

pub put_at-requires-clause-typed : goal.put_at-requires-clause-typed
put_at-requires-clause-typed c =
    element_target c.args.reader.now (ty_of c.args.ty) c.args.path.now (expr_tree c.args.index.now) c.requires.typed

pub put_at-requires-clause-sound : goal.put_at-requires-clause-sound
put_at-requires-clause-sound c = c.in_ok-place.ensures.sound

pub put_at-requires-clause-flow : goal.put_at-requires-clause-flow
put_at-requires-clause-flow c =
    flow_along c.args.reader.now.tables c.args.terms.now c.element_place.new.terms c.args.flow
    c.in_ok-place.ensures.grown c.requires.flow

pub put_at-requires-clause-place : goal.put_at-requires-clause-place
put_at-requires-clause-place c = c.in_ok-place.ensures.known

pub put_at-requires-clause-term : goal.put_at-requires-clause-term
put_at-requires-clause-term c =
    term_along c.args.terms.now c.element_place.new.terms (bits_in c.args.reader.now (ty_of c.args.ty)) c.args.id
    c.in_ok-place.ensures.grown c.requires.term

pub returns : goal.returns
returns c =
    element_put c.args.reader.now c.args.path.now (expr_tree c.args.index.now) c.in_ok-place.place c.args.id
    c.args.terms.now c.element_place.new.terms c.put_at.new.terms c.args.flow c.in_ok-goes.goes c.in_ok-place.ensures
    c.in_ok-goes.ensures
