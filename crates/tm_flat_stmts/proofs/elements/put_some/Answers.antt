use Rattle.std.proofs.Common.{◌≡◌, ℕ, ◌^◌, ◌<◌, sym, subst, arith}
use Rattle.tm_scope.specs.Types.{ty_of}
use Rattle.tm_flat_exprs.specs.Valued.{bits_in}
use Rattle.tm_flat_exprs.proofs.Later.{term_along}
use Rattle.tm_flat_stmts.specs.Elements.{PutsSome}
use Rattle.tm_flat_stmts.proofs.IntoElements.{more_put, none_put, some_flow}
use Rattle.tm_flat_stmts.proofs.elements.put_some.Goals as goal

pub loop-number-init : goal.loop-number-init
loop-number-init c =
    none_put c.args.reader.now c.args.path.now c.args.index c.args.id c.args.terms.now c.args.flow c.requires.sound
    c.requires.flow

pub put_one-requires-clause-typed : goal.put_one-requires-clause-typed
put_one-requires-clause-typed c = c.requires.typed c.loop-number.number

pub put_one-requires-clause-sound : goal.put_one-requires-clause-sound
put_one-requires-clause-sound c = c.loop-number.invariant.sound

pub put_one-requires-clause-flow : goal.put_one-requires-clause-flow
put_one-requires-clause-flow c =
    some_flow c.args.reader.now c.args.path.now c.args.index c.args.id c.loop-number.number c.args.terms.now
    c.loop-number.terms c.args.flow c.loop-number.goes c.loop-number.invariant c.requires.flow

pub put_one-requires-clause-known : goal.put_one-requires-clause-known
put_one-requires-clause-known c = c.loop-number.invariant.grown.known c.args.index c.requires.known

pub put_one-requires-clause-below : goal.put_one-requires-clause-below
put_one-requires-clause-below c =
    subst (λ (w : ℕ). c.loop-number.number < 2 ^ w)
    (sym (c.loop-number.invariant.grown.widths c.args.index c.requires.known)) (omega (arith, c.requires.within))

pub put_one-requires-clause-term : goal.put_one-requires-clause-term
put_one-requires-clause-term c =
    term_along c.args.terms.now c.loop-number.terms (bits_in c.args.reader.now (ty_of c.args.ty)) c.args.id
    c.loop-number.invariant.grown c.requires.term

pub loop-number-preserved : goal.loop-number-preserved
loop-number-preserved c =
    more_put c.args.reader.now c.args.path.now c.args.index c.args.id c.loop-number.number c.args.terms.now
    c.loop-number.terms c.put_one.new.terms c.args.flow c.loop-number.goes _ c.loop-number.invariant
    c.in_ok-goes.ensures

pub returns : goal.returns
returns c =
    let end : c.loop-number.number ≡ c.args.count = omega arith in
    subst (λ (k : ℕ). PutsSome c.args.reader.now c.args.path.now c.args.index k c.args.id c.args.terms.now
    c.loop-number.terms c.args.flow c.loop-number.goes) end c.loop-number.invariant
