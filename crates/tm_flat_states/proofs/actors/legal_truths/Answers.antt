use Rattle.std.proofs.Common.{map, ap, ◌∙◌, arith}
use Rattle.std.specs.List.{range_with_len}
use Rattle.tm_flat.specs.Flat.{step_terms}
use Rattle.tm_flat_states.specs.Actors.{legal_truth}
use Rattle.tm_flat_states.proofs.MagicPlaces.{one_more}
use Rattle.tm_flat_states.proofs.actors.legal_truths.Goals as goal

pub loop-place-preserved : goal.loop-place-preserved
loop-place-preserved c = λ d p are.
    one_more (legal_truth d p (map step_terms c.args.steps.now)) c.loop-place.place c.loop-place.truths.items
    c.push.new.self.items c.legal_truth.result (c.loop-place.invariant d p are) (c.legal_truth.ensures d p are)
    c.in_ok-push.ensures.items

pub returns : goal.returns
returns c = λ d p are.
    c.loop-place.invariant d p are
    ∙ ap (λ n. map (legal_truth d p (map step_terms c.args.steps.now)) (range_with_len 0 n))
    (omega (arith, c.loop-place-test.false, c.loop-place.auto.place-end))
