use Rattle.std.proofs.Common.{ℕ, ◌<◌, subst}
use Rattle.tm_flat_exprs.proofs.Ends.{never_past, past_made}
use Rattle.tm_flat_exprs.proofs.reader.elements.past_end.Goals as goal

pub returns-then-length-greatest : goal.returns-then-length-greatest
returns-then-length-greatest c =
    never_past c.args.terms.now c.args.index c.width-width.result c.args.length c.requires.known c.requires.sound
    c.width-width.ensures.width
    (subst (λ (n : ℕ). n < c.args.length) c.greatest.ensures c.if-length-greatest.true)

pub returns : goal.returns
returns c =
    past_made c.args.terms.now c.make.new.terms c.make-2.new.terms c.denial.new.terms c.args.index c.in_ok-end.end
    c.in_ok-within.within c.in_ok-past.past c.width-width.result c.args.length c.in_ok-end.ensures
    c.in_ok-within.ensures c.in_ok-past.ensures
