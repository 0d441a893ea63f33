use Rattle.tm_plain_exprs.proofs.Reading.{asked_by_tables}
use Rattle.tm_plain_exprs.proofs.reader.Reader.asked_by.Goals as goal

pub returns-in-Some : goal.returns-in-Some
returns-in-Some c =
    asked_by_tables c.self.inside.scope c.args.self.now c.self.view_is c.in-Some.cell c.cell_type.result
    c.unwrap_or.result c.cell_type.ensures c.unwrap_or.ensures c.args.cell c.in-Some.is
