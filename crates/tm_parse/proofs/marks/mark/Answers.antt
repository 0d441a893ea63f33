use Rattle.tm_parse.proofs.Terminals.{taken_mark}
use Rattle.tm_parse.proofs.marks.mark.Goals as goal

pub returns-clause-taken : goal.returns-clause-taken
returns-clause-taken c =
    taken_mark c.in_ok-first.first.now c.in_ok-first.ensures.whole c.in_ok-first.ensures.is
