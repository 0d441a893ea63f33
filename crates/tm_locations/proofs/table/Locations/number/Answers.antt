use Rattle.std.proofs.Common.{◌≡◌, ◌+◌, ◌∙◌, length, position, ap}
use Rattle.std.specs.Prelude.{unwrap_or}
use Rattle.tm_locations.specs.Inner.Numbers.{is_row_at}
use Rattle.tm_locations.specs.Locations.{table_of}
use Rattle.tm_locations.specs.declared.numbers.Arrival.{Arrival}
use Rattle.tm_locations.proofs.RowNumbers.{row-number}
use Rattle.tm_locations.proofs.table.Locations.number.Goals as goal

pub returns : goal.returns
returns c = λ d p are before it.
    let table = c.args.self.now in
    let arrival : Arrival = record { at = c.args.at; trail = c.args.trail } in
    let found : c.find.result ≡ position (is_row_at arrival.at arrival.trail) table.rows.items =
    c.find.ensures ∙ table.numbered arrival in
    let last : c.len-last.result ≡ length table.rows.items = c.len-last.ensures ∙ table.rows.ok.0 in
    let is : c.unwrap_or.result ≡ unwrap_or c.find.result (length table.rows.items) =
    c.unwrap_or.ensures ∙ ap (unwrap_or c.find.result) last in
    ap (λ n. n + 1) is
    ∙ row-number (table_of table) d p are c.args.at c.args.trail before it c.find.result found
