use Rattle.std.proofs.Common.{◌∙◌}
use Rattle.tm_design.proofs.Contexts.{length_by_tables}
use Rattle.tm_plain_exprs.proofs.reader.Reader.length.Goals as goal

pub returns : goal.returns
returns c = λ k stands.
    c.unwrap_or.ensures
    ∙ length_by_tables c.self.inside.scope c.args.self.now c.self.view_is c.array_length.result c.args.path.now
    c.array_length.ensures k stands
