use Rattle.std.proofs.Common.{rules}
use Rattle.tm_states.proofs.ValidParts.{values_fail, places_fail, mover_decides}
use Rattle.tm_states.proofs.validity.parts_fit.Goals as goal

pub returns-then-not-values_fit : goal.returns-then-not-values_fit
returns-then-not-values_fit c =
    values_fail c.args.design.now c.args.scopes.now c.as_slice.result.now c.args.locations.now c.requires.text
    c.as_slice.ensures.value c.requires.locations c.args.values.now c.args.places.now c.args.last c.values_fit.result
    c.values_fit.ensures c.if-not-values_fit.true

pub returns-then-not-places_fit : goal.returns-then-not-places_fit
returns-then-not-places_fit c =
    places_fail c.args.design.now c.args.scopes.now c.as_slice.result.now c.args.locations.now c.requires.text
    c.as_slice.ensures.value c.requires.locations c.args.values.now c.args.places.now c.args.last c.places_fit.result
    c.places_fit.ensures c.if-not-places_fit.true

pub returns : goal.returns
returns c =
    mover_decides c.args.design.now c.args.scopes.now c.as_slice.result.now c.args.locations.now c.requires.text
    c.as_slice.ensures.value c.requires.locations c.args.values.now c.args.places.now c.args.last c.values_fit.result
    c.places_fit.result c.values_fit.ensures c.if-not-values_fit.false c.places_fit.ensures
    c.if-not-places_fit.false c.len.result (search rules)
