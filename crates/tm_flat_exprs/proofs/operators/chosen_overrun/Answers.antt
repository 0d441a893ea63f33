use Rattle.std.specs.Prelude.{◌&&◌, ◌||◌, ◌==◌, not}
use Rattle.tm_term.specs.Value.{value_of}
use Rattle.tm_flat_exprs.specs.Made.{truth_at}
use Rattle.tm_term.proofs.Valued.{Extends-trans}
use Rattle.tm_flat_exprs.proofs.Later.{or_both, or_made, term_along, truth_along}
use Rattle.tm_flat_exprs.proofs.operators.chosen_overrun.Goals as goal

pub where_false-requires-clause-test : goal.where_false-requires-clause-test
where_false-requires-clause-test c =
    term_along c.args.terms.now c.where_true.new.terms 1 c.args.test.value c.in_ok-one.ensures.grown c.requires.test

pub where_false-requires-clause-truth : goal.where_false-requires-clause-truth
where_false-requires-clause-truth c =
    truth_along c.args.terms.now c.where_true.new.terms c.args.second c.in_ok-one.ensures.grown c.requires.second

pub either-requires-clause-first : goal.either-requires-clause-first
either-requires-clause-first c =
    truth_along c.where_true.new.terms c.where_false.new.terms c.in_ok-one.one c.in_ok-other.ensures.grown
    c.in_ok-one.ensures.term

pub either-requires-2-clause-first : goal.either-requires-2-clause-first
either-requires-2-clause-first c =
    truth_along c.args.terms.now c.either.new.terms c.args.test.overrun
    (Extends-trans c.args.terms.now c.where_true.new.terms c.either.new.terms c.in_ok-one.ensures.grown
    (Extends-trans c.where_true.new.terms c.where_false.new.terms c.either.new.terms
    c.in_ok-other.ensures.grown c.in_ok-branch.ensures.grown)) c.requires.tested

pub returns : goal.returns
returns c =
    let test = c.args.test in
    or_made c.args.terms.now c.either.new.terms c.either-2.new.terms test.overrun c.in_ok-branch.branch
    c.in_ok-id.id
    (λ u v. not (value_of u v test.value == 0) && truth_at u v c.args.first
    || not (not (value_of u v test.value == 0)) && truth_at u v c.args.second)
    (or_both c.args.terms.now c.where_true.new.terms c.where_false.new.terms c.either.new.terms
    c.in_ok-one.one c.in_ok-other.other c.in_ok-branch.branch
    (λ u v. not (value_of u v test.value == 0) && truth_at u v c.args.first)
    (λ u v. not (not (value_of u v test.value == 0)) && truth_at u v c.args.second) c.in_ok-one.ensures
    c.in_ok-other.ensures c.in_ok-branch.ensures)
    c.in_ok-id.ensures
