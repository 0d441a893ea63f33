use Rattle.std.proofs.Common.{subst, sym}
use Rattle.tm_scope.specs.Types.{ty_of}
use Rattle.tm_flat_stmts.proofs.Assigning.{target_has_type}
use Rattle.tm_flat_stmts.specs.declared.places.TargetPlace.{TargetPlace}
use Rattle.tm_flat_stmts.specs.Places.{IsPlace, PutsPlace}
use Rattle.tm_flat_stmts.proofs.IntoElements.{elements_typed, found_put, number_put, whole_put}
use Rattle.tm_flat_stmts.proofs.places.put_at.Goals as goal

pub returns-in_ok-goes-in-Whole : goal.returns-in_ok-goes-in-Whole
returns-in_ok-goes-in-Whole c =
    subst (λ (p : TargetPlace). PutsPlace c.args.reader.now c.args.path.now p c.args.id c.args.terms.now
    c.args.terms.now c.args.flow c.in_ok-goes-in-Whole.goes) (sym c.in-Whole.is)
    (whole_put c.args.reader.now c.args.path.now (ty_of c.args.ty) c.args.id c.args.terms.now c.args.flow
    c.in_ok-goes-in-Whole.goes c.requires.apart
    (target_has_type c.args.reader.now (ty_of c.args.ty) c.args.path.now c.requires.settled c.requires.typed)
    c.requires.sound c.requires.flow c.requires.term c.in_ok-goes-in-Whole.ensures)

pub returns-in_ok-goes-in-Number : goal.returns-in_ok-goes-in-Number
returns-in_ok-goes-in-Number c =
    subst (λ (p : TargetPlace). PutsPlace c.args.reader.now c.args.path.now p c.args.id c.args.terms.now
    c.args.terms.now c.args.flow c.in_ok-goes-in-Number.goes) (sym c.in-Number.is)
    (number_put c.args.reader.now c.args.path.now (ty_of c.args.ty) _ c.args.id c.args.terms.now c.args.flow
    c.in_ok-goes-in-Number.goes c.requires.apart
    (elements_typed c.args.reader.now (ty_of c.args.ty) c.args.path.now _ c.requires.settled c.requires.typed)
    c.requires.sound c.requires.flow c.requires.term c.in_ok-goes-in-Number.ensures)

pub put_some-requires-clause-sized : goal.put_some-requires-clause-sized
put_some-requires-clause-sized c = c.requires.typed.sized

pub put_some-requires-clause-typed : goal.put_some-requires-clause-typed
put_some-requires-clause-typed c = λ k.
    elements_typed c.args.reader.now (ty_of c.args.ty) c.args.path.now k c.requires.settled c.requires.typed

pub put_some-requires-clause-known : goal.put_some-requires-clause-known
put_some-requires-clause-known c =
    (subst (IsPlace c.args.terms.now) c.in-Found.is c.requires.place).0

pub put_some-requires-clause-within : goal.put_some-requires-clause-within
put_some-requires-clause-within c =
    (subst (IsPlace c.args.terms.now) c.in-Found.is c.requires.place).1

pub returns-in_ok-goes-in-Found : goal.returns-in_ok-goes-in-Found
returns-in_ok-goes-in-Found c =
    subst (λ (p : TargetPlace). PutsPlace c.args.reader.now c.args.path.now p c.args.id c.args.terms.now
    c.put_some.new.terms c.args.flow c.in_ok-goes-in-Found.goes) (sym c.in-Found.is)
    (found_put c.args.reader.now c.args.path.now _ _ c.args.id c.args.terms.now c.put_some.new.terms c.args.flow
    c.in_ok-goes-in-Found.goes c.in_ok-goes-in-Found.ensures)
