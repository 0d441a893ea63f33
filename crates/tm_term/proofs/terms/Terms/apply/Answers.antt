use Rattle.std.proofs.Common.{arith, subst}
use Rattle.tm_term.specs.Parts.{parts_of, AreOperands}
use Rattle.tm_term.specs.Table.{Fits}
use Rattle.tm_term.specs.Value.{value_of}
use Rattle.tm_term.proofs.Growth.{IsWidth-width_of}
use Rattle.tm_term.proofs.Valued.{value_of-below}
use Rattle.tm_term.proofs.terms.Terms.apply.Goals as goal

pub complement-requires-clause-in_range : goal.complement-requires-clause-in_range
complement-requires-clause-in_range c =
    let t = c.args.self.now in
    let fits = subst (Fits t) c.in-Not.is c.requires.fits in
    let is = subst (λ term. AreOperands (value_of t c.args.values.now) (parts_of term) c.args.operands) c.in-Not.is
    c.requires.operands in
    rw (is, c.width.ensures.width)
    (value_of-below t c.args.values.now c.requires.sound c.requires.inputs c.in-Not.a fits)

pub difference-requires-clause-in_range : goal.difference-requires-clause-in_range
difference-requires-clause-in_range c =
    let t = c.args.self.now in
    let fits = subst (Fits t) c.in-Sub.is c.requires.fits in
    let are = subst (λ term. AreOperands (value_of t c.args.values.now) (parts_of term) c.args.operands) c.in-Sub.is
    c.requires.operands in
    rw (are.1, c.width-in-Sub.ensures.width, fits.2)
    (value_of-below t c.args.values.now c.requires.sound c.requires.inputs c.in-Sub.field-1 fits.1)

pub shift_left-requires-clause-by : goal.shift_left-requires-clause-by
shift_left-requires-clause-by c =
    let t = c.args.self.now in
    let fits = subst (Fits t) c.in-Shl.is c.requires.fits in
    omega (arith, fits.1, (IsWidth-width_of t c.in-Shl.a c.requires.sound fits.0).1)

pub shift_right-requires : goal.shift_right-requires
shift_right-requires c =
    let t = c.args.self.now in
    let fits = subst (Fits t) c.in-Shr.is c.requires.fits in
    omega (arith, fits.1, (IsWidth-width_of t c.in-Shr.field-0 c.requires.sound fits.0).1)
