use Rattle.std.proofs.Common.{is_some, ap, rules}
use Rattle.tm_parse.proofs.Types.{taken_bool, taken_uint, taken_type_name, no_uint, no_type_name}
use Rattle.tm_parse.proofs.leaves.type_name.Goals as goal

pub returns-in-Some-clause-taken : goal.returns-in-Some-clause-taken
returns-in-Some-clause-taken c = taken_bool c.in-Some.ensures.some c.in-Some.ensures.taken

pub returns-in-Err-clause-refused : goal.returns-in-Err-clause-refused
returns-in-Err-clause-refused c =
    no_uint c.args.text.now c.in-Some-mark.ensures.some c.in-Some-mark.ensures.taken _
    c.in-Err.ensures.refused

pub returns-in-Some-mark-clause-taken : goal.returns-in-Some-mark-clause-taken
returns-in-Some-mark-clause-taken c =
    taken_uint c.in-Some-mark.ensures.some c.in-Some-mark.ensures.taken c.in-Ok.ensures.taken

pub returns-in-Err-name-clause-refused : goal.returns-in-Err-name-clause-refused
returns-in-Err-name-clause-refused c =
    no_type_name c.args.text.now c.args.tokens.now (c.mark.ensures.none (ap is_some c.in_default.is))
    (c.mark-2.ensures.none (ap is_some c.in_default-mark.is)) _ c.in-Err-name.ensures.refused

pub returns-clause-taken : goal.returns-clause-taken
returns-clause-taken c = taken_type_name c.args.tokens.now (c.mark.ensures.none (ap is_some c.in_default.is))
    (c.mark-2.ensures.none (ap is_some c.in_default-mark.is)) c.in-Ok-name.ensures.taken
