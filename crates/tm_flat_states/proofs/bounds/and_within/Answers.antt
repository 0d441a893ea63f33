use Rattle.std.proofs.Common.{◌<◌, ◌^◌, subst, sym}
use Rattle.tm_flat_states.proofs.Bounding.{both_alike, makes_both}
use Rattle.tm_flat_states.specs.Bounds.{bound_number}
use Rattle.tm_flat_states.proofs.bounds.and_within.Goals as goal

pub is_within-requires-clause-known : goal.is_within-requires-clause-known
is_within-requires-clause-known c = c.in_ok-number.ensures.term.0

pub is_within-requires-clause-within : goal.is_within-requires-clause-within
is_within-requires-clause-within c =
    subst (λ w. bound_number c.args.bound < 2 ^ w) (sym c.in_ok-number.ensures.term.1) c.requires.within

pub make-requires-2 : goal.make-requires-2
make-requires-2 c =
    both_alike c.args.terms.now c.make.new.terms c.is_within.new.terms c.args.before c.in_ok-number.number
    c.in_ok-here.here _ _ _ c.requires.before c.in_ok-number.ensures c.in_ok-here.ensures

pub returns : goal.returns
returns c =
    makes_both c.args.terms.now c.make.new.terms c.is_within.new.terms c.make-2.new.terms c.args.before
    c.in_ok-number.number c.in_ok-here.here c.in_ok-id.id c.args.input c.args.bound c.requires.before
    c.in_ok-number.ensures c.in_ok-here.ensures c.in_ok-id.ensures
