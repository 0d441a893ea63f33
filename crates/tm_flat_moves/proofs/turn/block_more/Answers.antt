use Rattle.tm_term.proofs.Valued.{Extends-trans}
use Rattle.tm_flat_exprs.proofs.Later.{truth_along}
use Rattle.tm_flat_moves.proofs.Picking.{one_more, test_fits}
use Rattle.tm_flat_moves.proofs.turn.block_more.Goals as goal

pub make-requires : goal.make-requires
make-requires c = (c.requires.width, c.requires.within)

pub make-requires-2 : goal.make-requires-2
make-requires-2 c =
    test_fits c.args.terms.now c.make.new.terms c.args.width c.args.number c.args.place c.in_ok-here.here
    c.requires.place c.in_ok-here.ensures

pub either-requires-clause-sound : goal.either-requires-clause-sound
either-requires-clause-sound c = c.in_ok-stands.ensures.sound

pub either-requires-clause-first : goal.either-requires-clause-first
either-requires-clause-first c =
    truth_along c.args.terms.now c.make-2.new.terms c.args.before
    (Extends-trans c.args.terms.now c.make.new.terms c.make-2.new.terms c.in_ok-here.ensures.grown
    c.in_ok-stands.ensures.grown) c.requires.before

pub either-requires-clause-second : goal.either-requires-clause-second
either-requires-clause-second c = c.in_ok-stands.ensures.term

pub returns : goal.returns
returns c =
    one_more c.args.terms.now c.make.new.terms c.args.width c.args.number c.args.place c.in_ok-here.here
    c.requires.place c.in_ok-here.ensures c.make-2.new.terms c.either.new.terms c.args.before c.in_ok-truth.truth
    c.in_ok-stands.stands c.in_ok-stands.ensures c.in_ok-truth.ensures
