use Rattle.std.proofs.Common.{length, ap, arith}
use Rattle.tm_syntax.specs.Design.Locations.{is_magic_at}
use Rattle.tm_locations.specs.Locations.{table_of}
use Rattle.tm_flat_states.proofs.MagicPlaces.{all_places, one_more}
use Rattle.tm_flat_states.proofs.magic.magic_places.Goals as goal

pub loop-place-preserved : goal.loop-place-preserved
loop-place-preserved c = λ d p are.
    one_more (is_magic_at d p) c.loop-place.place c.loop-place.places.items c.push.new.self.items c.is_magic.result
    (c.loop-place.invariant d p are) (c.is_magic.ensures d p are) c.in_ok-push.ensures.items

pub returns : goal.returns
returns c = λ d p are.
    let t = table_of c.args.locations.now in
    let rows = ap length c.rows.ensures in
    all_places (is_magic_at d p) t d p are c.loop-place.place
    (omega (arith, rows, c.loop-place-test.false, c.loop-place.auto.place-end)) c.loop-place.places.items
    (c.loop-place.invariant d p are)
