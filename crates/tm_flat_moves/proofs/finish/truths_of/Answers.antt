use Rattle.tm_flat_moves.proofs.Judging.{told_truths}
use Rattle.tm_flat_moves.proofs.finish.truths_of.Goals as goal

pub returns : goal.returns
returns c =
    told_truths c.args.terms.now c.either.new.terms c.truth.new.terms c.truth-2.new.terms c.args.arrives
    c.args.failed c.in_ok-either_one.either_one
    (record { legal = c.in_ok-legal.legal; error = c.in_ok-error.error }) c.in_ok-either_one.ensures
    c.in_ok-legal.ensures c.in_ok-error.ensures
