use Rattle.std.proofs.Common.{false, get_or, refl, arith}
use Rattle.tm_scope.proofs.Positions.{position-noted}
use Rattle.tm_locations.specs.Inner.Numbers.{first_at, is_row_at, same_arrival}
use Rattle.tm_locations.specs.declared.table.LocationRow.{LocationRow}
use Rattle.tm_locations.proofs.RowNumbers.{row-read}
use Rattle.tm_locations.proofs.numbers.LocationNumbers.of.Goals as goal

pub loop-index-preserved : goal.loop-index-preserved
loop-index-preserved c = λ a.
    let rows = c.args.rows.now in
    let index = c.loop-index.index in
    let none : LocationRow =
    record { at = record { line = 0; column = 0 }; trail = 0; is_magic = false; rest = 0 } in
    let row : LocationRow = get_or rows index none in
    position-noted (is_row_at a.at a.trail) rows index row (first_at c.loop-index.numbers a)
    (first_at c.note.new.self a) (same_arrival a (record { at = row.at; trail = row.trail })) (omega arith)
    (row-read rows index none row (omega arith)) refl (c.in_ok-note.ensures a) (c.loop-index.invariant a)
