use Rattle.std.proofs.Common.{length, ap, arith}
use Rattle.tm_locations.specs.Locations.{table_of}
use Rattle.tm_flat_states.specs.Actors.{magic_truth}
use Rattle.tm_flat_states.proofs.MagicPlaces.{all_places, one_more}
use Rattle.tm_flat_states.proofs.actors.magic_truths.Goals as goal

pub loop-place-preserved : goal.loop-place-preserved
loop-place-preserved c = λ d p are.
    one_more (magic_truth d p c.args.always) c.loop-place.place c.loop-place.truths.items c.push.new.self.items
    c.magic_truth.result (c.loop-place.invariant d p are) (c.magic_truth.ensures d p are) c.in_ok-push.ensures.items

pub returns : goal.returns
returns c = λ d p are.
    let rows = ap length c.rows.ensures in
    all_places (magic_truth d p c.args.always) (table_of c.args.locations.now) d p are c.loop-place.place
    (omega (arith, rows, c.loop-place-test.false, c.loop-place.auto.place-end)) c.loop-place.truths.items
    (c.loop-place.invariant d p are)
