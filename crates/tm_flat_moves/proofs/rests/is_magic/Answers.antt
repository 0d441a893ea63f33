use Rattle.std.proofs.Common.{◌≡◌, suc, ◌-◌, Some, None, arith}
use Rattle.tm_locations.specs.Locations.{table_of}
use Rattle.tm_locations.proofs.TableCallees.{item-read}
use Rattle.tm_plain.proofs.Places.{magic_none, magic_row}
use Rattle.tm_flat_moves.proofs.rests.is_magic.Goals as goal

pub returns-in-Some : goal.returns-in-Some
returns-in-Some c = λ d p are.
    let t = table_of c.args.locations.now in
    let behind : c.args.place ≡ suc (c.args.place - 1) = omega arith in
    magic_row t d p are c.args.place (c.args.place - 1) behind c.in-Some.row.now
    (item-read t.rows c.rows.result.now (c.args.place - 1) (Some c.in-Some.row) c.rows.ensures c.in-Some.ensures.lookup)

pub returns-in-None : goal.returns-in-None
returns-in-None c = λ d p are.
    let t = table_of c.args.locations.now in
    let behind : c.args.place ≡ suc (c.args.place - 1) = omega arith in
    magic_none t d p are c.args.place (c.args.place - 1) behind
    (item-read t.rows c.rows.result.now (c.args.place - 1) None c.rows.ensures c.in-None.ensures.lookup)
