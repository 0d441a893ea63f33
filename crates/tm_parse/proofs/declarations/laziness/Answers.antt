use Rattle.std.proofs.Common.{rules}
use Rattle.tm_parse.proofs.Tasks.{taken_lazy, taken_not_lazy}
use Rattle.tm_parse.proofs.declarations.laziness.Goals as goal

pub returns-in-None-clause-taken : goal.returns-in-None-clause-taken
returns-in-None-clause-taken c = taken_not_lazy c.args.tokens.now (c.mark.ensures.none (search rules))

pub returns-in-Some-clause-taken : goal.returns-in-Some-clause-taken
returns-in-Some-clause-taken c = taken_lazy c.in-Some.ensures.some c.in-Some.ensures.taken
