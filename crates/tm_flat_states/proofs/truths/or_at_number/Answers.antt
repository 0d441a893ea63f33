use Rattle.tm_flat_exprs.proofs.Later.{truth_along}
use Rattle.tm_flat_states.proofs.Choosing.{or_at_number, truth_after}
use Rattle.tm_flat_states.proofs.truths.or_at_number.Goals as goal

pub where_true-requires-clause-truth : goal.where_true-requires-clause-truth
where_true-requires-clause-truth c =
    truth_along c.args.terms.now c.is_number.new.terms c.args.here c.in_ok-stands.ensures.grown c.requires.here

pub either-requires-clause-first : goal.either-requires-clause-first
either-requires-clause-first c =
    truth_after c.args.terms.now c.is_number.new.terms c.where_true.new.terms c.args.before
    c.in_ok-stands.ensures.grown c.in_ok-both.ensures.grown c.requires.before

pub returns : goal.returns
returns c =
    or_at_number c.args.terms.now c.is_number.new.terms c.where_true.new.terms c.either.new.terms c.args.before
    c.args.here c.in_ok-both.both c.in_ok-id.id c.args.of c.in_ok-stands.stands c.args.number c.in_ok-stands.ensures
    c.in_ok-both.ensures c.in_ok-id.ensures
