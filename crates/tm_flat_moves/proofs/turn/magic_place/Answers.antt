use Rattle.std.proofs.Common.{◌≡◌, ◌+◌, ◌<◌, ◌^◌, length, slice_get, slice_index, sym, ap, ◌∙◌, subst, refl, arith}
use Rattle.std.proofs.lemmas.Option.{slice_get-get_or}
use Rattle.tm_base.specs.Arithmetic.{IsWidth}
use Rattle.tm_flat.specs.Steps.{IsTerm}
use Rattle.tm_locations.specs.Locations.{table_of}
use Rattle.tm_flat_moves.proofs.Picking.{magic_begins, magic_ends, magic_goes_on}
use Rattle.tm_flat_moves.proofs.turn.magic_place.Goals as goal

pub loop-index-init : goal.loop-index-init
loop-index-init c =
    magic_begins c.args.terms.now (table_of c.args.locations.now).rows c.args.input
    (slice_index c.args.terms.now.inputs c.args.input) c.in_ok-place.place c.make.new.terms c.in_ok-place.ensures

pub one_more_block-requires-clause-sound : goal.one_more_block-requires-clause-sound
one_more_block-requires-clause-sound c = c.loop-index.invariant.sound

pub one_more_block-requires-clause-before : goal.one_more_block-requires-clause-before
one_more_block-requires-clause-before c = c.loop-index.invariant.term

pub one_more_block-requires-clause-place : goal.one_more_block-requires-clause-place
one_more_block-requires-clause-place c =
    subst (λ w. IsTerm c.loop-index.terms w c.in_ok-place.place)
    (λ j. slice_index (sym c.inputs.ensures j) c.args.input) c.loop-index.invariant.place_is

pub one_more_block-requires-clause-width : goal.one_more_block-requires-clause-width
one_more_block-requires-clause-width c =
    subst IsWidth (λ j. slice_index (sym c.inputs.ensures j) c.args.input)
    (c.requires.sound.inputs c.args.input c.requires.within)

pub one_more_block-requires-clause-within : goal.one_more_block-requires-clause-within
one_more_block-requires-clause-within c =
    let rows : length c.rows-rows.result.now ≡ length (table_of c.args.locations.now).rows =
    ap length c.rows-rows.ensures in
    subst (λ w. c.loop-index.index + 1 < 2 ^ w) (λ j. slice_index (sym c.inputs.ensures j) c.args.input)
    (omega (arith, rows, c.loop-index-test.true, c.requires.places))

pub loop-index-preserved : goal.loop-index-preserved
loop-index-preserved c =
    let rows = (table_of c.args.locations.now).rows in
    magic_goes_on c.args.terms.now rows c.args.input (slice_index c.args.terms.now.inputs c.args.input)
    c.in_ok-place.place c.loop-index.terms c.one_more_block.new.terms c.loop-index.index c.loop-index.stands
    c.in_ok-stands.stands _
    ((λ j. slice_get (sym c.rows-rows.ensures j) c.loop-index.index)
    ∙ slice_get-get_or c.rows-rows.result.now c.loop-index.index _ c.loop-index-test.true) c.loop-index.invariant
    c.in_ok-stands.ensures

pub returns : goal.returns
returns c = λ d p are.
    let l = table_of c.args.locations.now in
    let rows : length c.rows-rows.result.now ≡ length l.rows = ap length c.rows-rows.ensures in
    magic_ends c.args.terms.now l.rows c.args.input (slice_index c.args.terms.now.inputs c.args.input)
    c.in_ok-place.place c.loop-index.terms c.loop-index.index c.loop-index.stands
    (omega (arith, rows, c.loop-index-test.false)) c.loop-index.invariant l d p refl are
