use Rattle.std.proofs.Common.{◌≡◌, Some, length, map, sym, ap, ◌∙◌, arith}
use Rattle.std.specs.Prelude.{slice_get}
use Rattle.std.specs.List.{range_with_len}
use Rattle.std.proofs.lemmas.Option.{slice_get-get_or}
use Rattle.tm_syntax.specs.Design.Locations.{is_magic_at}
use Rattle.tm_syntax.specs.Design.View.{design_tree}
use Rattle.tm_flat.specs.IsFlat.{location_numbers}
use Rattle.tm_flat_states.proofs.Laid.{tables_many}
use Rattle.tm_flat_states.proofs.MagicPlaces.{more_lists, table_of_process}
use Rattle.tm_flat_states.proofs.marker.Marker.magic.Goals as goal

pub loop-locations-preserved : goal.loop-locations-preserved
loop-locations-preserved c =
    let m = c.args.self.now in
    let d = design_tree m.design.now in
    let i = c.loop-locations.locations-index in
    let there : slice_get m.locations.now i ≡ Some c.locations-item.result =
    slice_get-get_or m.locations.now i c.locations-item.result c.loop-locations-test.true
    ∙ ap Some (sym c.locations-item.is) in
    more_lists (λ p. map (is_magic_at d p) (location_numbers d p)) i c.loop-locations.all.items c.push.new.self.items
    c.in_ok-places.places c.loop-locations.invariant
    (c.in_ok-places.ensures d i (table_of_process d m.locations.now c.requires i c.locations-item.result there))
    c.in_ok-push.ensures.items

pub returns : goal.returns
returns c =
    let m = c.args.self.now in
    let d = design_tree m.design.now in
    let many = tables_many d m.locations.now c.requires in
    let all : c.loop-locations.locations-index ≡ length m.design.now.processes.items =
    omega (arith, many, c.loop-locations-test.false, c.loop-locations.auto.locations-index-end) in
    c.loop-locations.invariant
    ∙ ap (λ n. map (λ p. map (is_magic_at d p) (location_numbers d p)) (range_with_len 0 n)) all
