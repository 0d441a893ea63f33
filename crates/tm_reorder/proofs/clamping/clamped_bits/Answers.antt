use Rattle.std.proofs.Common.{ℕ, ◌<◌, sym, subst, arith}
use Rattle.std.specs.Prelude.{All}
use Rattle.std.proofs.lemmas.Option.{slice_get-get_or}
use Rattle.tm_numbering.proofs.Items.{at_index}
use Rattle.tm_reorder.specs.Fields.{IsField}
use Rattle.tm_reorder.proofs.ClampedBits.{AreFirst, all_clamped, none_first, one_first, room_here}
use Rattle.tm_reorder.proofs.clamping.clamped_bits.Goals as goal

pub loop-field-init : goal.loop-field-init
loop-field-init c =
    let first = subst (AreFirst c.args.dd.now.table c.args.dd.now.table c.args.levels.now c.args.fields.now 0)
    (sym c.new-bits.ensures.items)
    (none_first c.args.dd.now.table c.args.levels.now c.args.fields.now c.requires.places) in
    record { extends = first.extends; first = first }

pub push_field-requires-clause-levels : goal.push_field-requires-clause-levels
push_field-requires-clause-levels c =
    subst (λ (n : ℕ). All (λ level. level < n) c.args.levels.now) (sym c.loop-field.invariant.extends.same_levels)
    c.requires.levels

pub push_field-requires-clause-field : goal.push_field-requires-clause-field
push_field-requires-clause-field c =
    at_index IsField c.args.fields.now c.loop-field.field-index _ c.requires.places.each
    (slice_get-get_or c.args.fields.now c.loop-field.field-index (record { width = 0; last = 0 })
    c.loop-field-test.true)

pub push_field-requires-clause-room : goal.push_field-requires-clause-room
push_field-requires-clause-room c =
    room_here c.args.dd.now.table c.args.levels.now c.args.fields.now c.requires.places c.loop-field.dd.table
    c.loop-field.field-index c.loop-field.bits.items _ c.loop-field.invariant.first
    (slice_get-get_or c.args.fields.now c.loop-field.field-index (record { width = 0; last = 0 })
    c.loop-field-test.true)

pub push_field-requires-clause-known : goal.push_field-requires-clause-known
push_field-requires-clause-known c = c.loop-field.invariant.first.known

pub loop-field-preserved : goal.loop-field-preserved
loop-field-preserved c =
    let first = one_first c.args.dd.now.table c.args.levels.now c.args.fields.now c.requires.places
    c.loop-field.dd.table c.loop-field.field-index c.loop-field.bits.items _ c.loop-field.invariant.first
    (slice_get-get_or c.args.fields.now c.loop-field.field-index (record { width = 0; last = 0 })
    c.loop-field-test.true)
    c.push_field.new.dd.table c.push_field.new.bits.items c.push_field.ensures.extends
    c.in_ok-push_field.ensures.pushed in
    record { extends = first.extends; first = first }

pub returns-clause-clamped : goal.returns-clause-clamped
returns-clause-clamped c =
    all_clamped c.args.dd.now.table c.args.levels.now c.args.fields.now c.requires.places c.loop-field.dd.table
    c.push_levels.new.dd.table c.loop-field.field-index _ c.loop-field.bits.items c.push_levels.new.bits.items
    c.push_levels.ensures.extends c.loop-field.invariant.first
    (omega (arith, c.len.ensures, c.loop-field.bits.ok.0)) c.in_ok-push_levels.ensures.pushed
