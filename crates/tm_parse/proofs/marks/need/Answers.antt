use Rattle.std.proofs.Common.{rules}
use Rattle.tm_parse.proofs.Terminals.{no_mark}
use Rattle.tm_parse.proofs.marks.need.Goals as goal

pub returns-in-None-clause-refused : goal.returns-in-None-clause-refused
returns-in-None-clause-refused c = no_mark c.args.kind c.args.tokens.now (c.mark.ensures.none (search rules))
