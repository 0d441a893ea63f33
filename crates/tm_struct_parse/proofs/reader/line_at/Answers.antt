use Rattle.std.proofs.Common.{sym, rules}
use Rattle.tm_struct_parse.proofs.BodyFaults.{token_there, none_there}
use Rattle.tm_struct_parse.proofs.reader.line_at.Goals as goal

pub returns-in-Some : goal.returns-in-Some
returns-in-Some c =
    token_there c.args.scan.now.spots.items c.deref.result.now c.args.scan.now.line c.args.scan.now.is_whole
    c.args.place c.in-Some.spot.now c.requires (search rules) (sym c.in-Some.ensures.lookup.0) (search rules)

pub returns-in-None : goal.returns-in-None
returns-in-None c =
    none_there c.args.scan.now.spots.items c.deref.result.now c.args.scan.now.line c.args.scan.now.is_whole c.args.place
    c.requires (search rules) (sym c.in-None.ensures.lookup.0)
