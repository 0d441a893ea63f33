use Rattle.std.proofs.Common.{◌+◌, ◌++◌, List, length, reverse, take, refl, sym, ap, ◌∙◌, arith}
use Rattle.std.proofs.lemmas.List.{take_all}
use Rattle.tm_base.specs.declared.place.Place.{Place}
use Rattle.tm_syntax.specs.Design.Locations.{location_number}
use Rattle.tm_locations.specs.Locations.{table_of}
use Rattle.tm_locations.specs.declared.table.LocationRow.{LocationRow}
use Rattle.tm_plain.proofs.Trails.{number_nowhere}
use Rattle.tm_plain.proofs.machine.rests.location_behind.Goals as goal

pub returns-in-None : goal.returns-in-None
returns-in-None c = λ d p trail are is.
    let t = table_of c.args.locations.now in
    let xs = c.calls-call-items.result.now in
    let i = c.loop-call.call-index in
    ap (λ (rows : List LocationRow). length rows + 1) c.rows.ensures
    ∙ number_nowhere xs trail i _ _ c.loop-call-test.true refl t d p are
    (c.in-None.ensures.none (reverse (take i xs) ++ trail) (c.loop-call.invariant trail is)) c.args.at
    ∙ ap (λ (calls : List Place). location_number d p c.args.at (calls ++ trail)) (sym c.calls-call-items.ensures)

pub returns : goal.returns
returns c = λ d p trail are is.
    let xs = c.calls-call-items.result.now in
    let i = c.loop-call.call-index in
    c.number.ensures d p are (reverse (take i xs) ++ trail) (c.loop-call.invariant trail is)
    ∙ ap (λ (calls : List Place). location_number d p c.args.at (calls ++ trail))
    (ap reverse (take_all i xs (omega (arith, c.loop-call-test.false))) ∙ sym c.calls-call-items.ensures)
