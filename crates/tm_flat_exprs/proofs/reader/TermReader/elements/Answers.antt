use Rattle.std.proofs.Common.{ℕ, ◌^◌, ◌<◌, sym, subst, arith}
use Rattle.tm_scope.specs.Types.{ty_of}
use Rattle.tm_flat_exprs.proofs.Reading.{more_found, none_found}
use Rattle.tm_flat_exprs.proofs.reader.TermReader.elements.Goals as goal

pub loop-number-init : goal.loop-number-init
loop-number-init c =
    none_found c.args.self.now c.args.memory.now (ty_of c.args.ty) c.args.path.now c.args.index c.args.terms.now
    c.number_term.new.terms c.in_ok-id.id c.requires.ready c.in_ok-id.ensures

pub one_more_element-requires-clause-known : goal.one_more_element-requires-clause-known
one_more_element-requires-clause-known c = c.loop-number.invariant.grown.known c.args.index c.requires.known

pub one_more_element-requires-clause-below : goal.one_more_element-requires-clause-below
one_more_element-requires-clause-below c =
    subst (λ (w : ℕ). c.loop-number.number < 2 ^ w)
    (sym (c.loop-number.invariant.grown.widths c.args.index c.requires.known)) (omega (arith, c.requires.within))

pub loop-number-preserved : goal.loop-number-preserved
loop-number-preserved c =
    more_found c.args.self.now c.args.memory.now (ty_of c.args.ty) c.args.path.now c.args.index c.loop-number.number
    c.args.terms.now c.loop-number.terms c.one_more_element.new.terms c.loop-number.id _
    c.loop-number.invariant c.in_ok-id-2.ensures
