use Rattle.std.proofs.Common.{◌≡◌, ◌+◌, ◌<◌, ◌^◌, length, slice_index, sym, ap, ◌∙◌, subst, refl, arith}
use Rattle.std.proofs.lemmas.Option.{slice_get_read}
use Rattle.tm_syntax.specs.Design.Locations.{end_number, is_magic_at}
use Rattle.tm_syntax.specs.Design.Sizes.{bits_of_number}
use Rattle.tm_syntax.specs.Design.View.{design_tree}
use Rattle.tm_flat.specs.Inputs.{input_widths}
use Rattle.tm_flat_exprs.proofs.Later.{truth_along}
use Rattle.tm_flat_exprs.specs.Made.{MakesTruth}
use Rattle.tm_locations.specs.Locations.{AreLocations, table_of}
use Rattle.tm_plain.proofs.Places.{end_is}
use Rattle.tm_flat_moves.proofs.Located.{place_is, place_low, place_within}
use Rattle.tm_flat_moves.proofs.Picking.{turn_begins, turn_ends, turn_goes_on}
use Rattle.tm_flat_moves.proofs.turn.driver_turn.Goals as goal

pub loop-index-init : goal.loop-index-init
loop-index-init c = turn_begins c.args.terms.now (design_tree c.args.design.now) c.requires.sound

pub magic_place-requires-clause-sound : goal.magic_place-requires-clause-sound
magic_place-requires-clause-sound c = c.loop-index.invariant.sound

pub magic_place-requires-clause-within : goal.magic_place-requires-clause-within
magic_place-requires-clause-within c =
    let d = c.args.design.now in
    let p = c.loop-index.index in
    let first : c.len-first.result ≡ length d.vars.items = omega (arith, c.len-first.ensures, d.vars.ok.0) in
    let inside : p < length d.processes.items = omega (arith, c.loop-index-test.true, c.requires.located.are) in
    let inputs : c.loop-index.terms.inputs ≡ input_widths (design_tree d) =
    c.loop-index.invariant.grown.inputs ∙ c.requires.inputs in
    let within : length d.vars.items + p < length c.loop-index.terms.inputs =
    place_within (design_tree d) c.loop-index.terms inputs p inside in
    omega (arith, within, first)

pub magic_place-requires-clause-places : goal.magic_place-requires-clause-places
magic_place-requires-clause-places c =
    let d = c.args.design.now in
    let p = c.loop-index.index in
    let first : c.len-first.result ≡ length d.vars.items = omega (arith, c.len-first.ensures, d.vars.ok.0) in
    let inside : p < length d.processes.items = omega (arith, c.loop-index-test.true, c.requires.located.are) in
    let inputs : c.loop-index.terms.inputs ≡ input_widths (design_tree d) =
    c.loop-index.invariant.grown.inputs ∙ c.requires.inputs in
    let are : AreLocations (table_of c.index-all-index.result) (design_tree d) p =
    c.requires.located.each p c.index-all-index.result
    (slice_get_read c.args.all.now (length c.args.all.now) p c.index-all-index.result refl c.loop-index-test.true
    c.index-all-index.is) in
    let end = end_is (table_of c.index-all-index.result) (design_tree d) p are in
    let low = place_low (design_tree d) p c.requires.small in
    let width : slice_index c.loop-index.terms.inputs (c.len-first.result + p)
    ≡ bits_of_number (end_number (design_tree d) p) =
    ap (λ k. slice_index c.loop-index.terms.inputs (k + p)) first
    ∙ place_is (design_tree d) c.loop-index.terms inputs p inside in
    subst (λ w. length (table_of c.index-all-index.result).rows < 2 ^ w) (sym width) (omega (arith, end, low))

pub either-requires-clause-sound : goal.either-requires-clause-sound
either-requires-clause-sound c =
    let d = c.args.design.now in
    let p = c.loop-index.index in
    let are : AreLocations (table_of c.index-all-index.result) (design_tree d) p =
    c.requires.located.each p c.index-all-index.result
    (slice_get_read c.args.all.now (length c.args.all.now) p c.index-all-index.result refl c.loop-index-test.true
    c.index-all-index.is) in
    let one = c.in_ok-here.ensures (design_tree d) p are in
    one.sound

pub either-requires-clause-first : goal.either-requires-clause-first
either-requires-clause-first c =
    let d = c.args.design.now in
    let p = c.loop-index.index in
    let are : AreLocations (table_of c.index-all-index.result) (design_tree d) p =
    c.requires.located.each p c.index-all-index.result
    (slice_get_read c.args.all.now (length c.args.all.now) p c.index-all-index.result refl c.loop-index-test.true
    c.index-all-index.is) in
    let one = c.in_ok-here.ensures (design_tree d) p are in
    truth_along c.loop-index.terms c.magic_place.new.terms c.loop-index.turn one.grown c.loop-index.invariant.term

pub either-requires-clause-second : goal.either-requires-clause-second
either-requires-clause-second c =
    let d = c.args.design.now in
    let p = c.loop-index.index in
    let are : AreLocations (table_of c.index-all-index.result) (design_tree d) p =
    c.requires.located.each p c.index-all-index.result
    (slice_get_read c.args.all.now (length c.args.all.now) p c.index-all-index.result refl c.loop-index-test.true
    c.index-all-index.is) in
    let one = c.in_ok-here.ensures (design_tree d) p are in
    one.term

pub loop-index-preserved : goal.loop-index-preserved
loop-index-preserved c =
    let d = c.args.design.now in
    let p = c.loop-index.index in
    let first : c.len-first.result ≡ length d.vars.items = omega (arith, c.len-first.ensures, d.vars.ok.0) in
    let are : AreLocations (table_of c.index-all-index.result) (design_tree d) p =
    c.requires.located.each p c.index-all-index.result
    (slice_get_read c.args.all.now (length c.args.all.now) p c.index-all-index.result refl c.loop-index-test.true
    c.index-all-index.is) in
    let one = c.in_ok-here.ensures (design_tree d) p are in
    let n = c.loop-index.terms in
    let m = c.magic_place.new.terms in
    turn_goes_on c.args.terms.now (design_tree d) n m c.either.new.terms p c.loop-index.turn c.in_ok-here.here
    c.in_ok-turn.turn c.loop-index.invariant
    (subst (λ k. MakesTruth n m c.in_ok-here.here (λ u v. is_magic_at (design_tree d) p (slice_index v (k + p)))) first
    one)
    c.in_ok-turn.ensures

pub returns : goal.returns
returns c =
    let d = c.args.design.now in
    let all : c.loop-index.index ≡ length d.processes.items =
    omega (arith, c.loop-index-test.false, c.loop-index.auto.index-end, c.requires.located.are) in
    turn_ends c.args.terms.now (design_tree d) c.loop-index.terms c.loop-index.index c.loop-index.turn all
    c.loop-index.invariant
