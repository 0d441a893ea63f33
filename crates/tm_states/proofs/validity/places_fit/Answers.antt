use Rattle.std.proofs.Common.{◌≡◌, ◌<◌, ◌≤◌, get_or, length, ltb-true, rules, refl, sym, subst, arith}
use Rattle.std.proofs.lemmas.Option.{slice_get_read}
use Rattle.tm_locations.specs.declared.table.Locations.{Locations}
use Rattle.tm_states.specs.States.{end_of}
use Rattle.tm_states.proofs.Zipped.{zip_stops, zip_whole}
use Rattle.tm_states.proofs.validity.places_fit.Goals as goal

pub returns-then-place-end_number : goal.returns-then-place-end_number
returns-then-place-end_number c =
    let k = c.in-Some.place.now in
    let here : k ≡ get_or c.args.places.now c.loop-process.process k = search rules in
    let there = slice_get_read c.args.places.now (length c.args.places.now) c.loop-process.process k refl
    (ltb-true c.loop-process.process (length c.args.places.now) (sym c.in-Some.ensures.lookup.0)) here in
    zip_stops (λ (t : Locations) k. k ≤ end_of t) c.args.locations.now c.args.places.now c.loop-process.process
    c.index-locations-process.result k c.loop-process-test.true c.index-locations-process.is there
    (λ within.
    let beyond = subst (λ e. e < k) c.end_number.ensures.count c.if-place-end_number.true in
    omega (arith, within, beyond))
    c.loop-process.invariant.left

pub returns : goal.returns
returns c =
    zip_whole (λ (t : Locations) k. k ≤ end_of t) c.args.locations.now c.args.places.now c.loop-process.process
    (omega (arith, c.loop-process-test.false)) c.loop-process.invariant.whole
