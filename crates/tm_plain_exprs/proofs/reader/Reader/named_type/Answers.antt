use Rattle.tm_plain_exprs.proofs.Reading.{named_by_tables}
use Rattle.tm_plain_exprs.proofs.reader.Reader.named_type.Goals as goal

pub returns : goal.returns
returns c =
    named_by_tables c.self.inside.scope c.args.self.now c.self.view_is c.named_type.result c.args.path.now
    c.named_type.ensures
