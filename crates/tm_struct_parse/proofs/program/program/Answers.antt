use Rattle.tm_struct_parse.specs.View.{draft_program}
use Rattle.tm_struct_parse.proofs.Stuck.{stopped_at, followed_at, whole_there}
use Rattle.tm_struct_parse.proofs.program.program.Goals as goal

pub returns-then-is_empty-clause-taken : goal.returns-then-is_empty-clause-taken
returns-then-is_empty-clause-taken c =
    whole_there (draft_program c.in-Ok.draft) c.args.spots.now c.in-Ok.rest.now c.is_empty.result
    c.in-Ok.ensures.taken c.is_empty.ensures c.if-is_empty.true

pub returns-else-is_empty-clause-refused : goal.returns-else-is_empty-clause-refused
returns-else-is_empty-clause-refused c =
    followed_at (draft_program c.in-Ok.draft) c.args.spots.now c.in-Ok.rest.now c.is_empty.result
    c.in-Ok.ensures.taken c.in-Ok.ensures.shorter c.is_empty.ensures c.if-is_empty.false

pub returns-in-Err-Unexpected-clause-refused : goal.returns-in-Err-Unexpected-clause-refused
returns-in-Err-Unexpected-clause-refused c =
    stopped_at c.args.spots.now c.in-Err-Unexpected.rest.now
    (rw c.in-Err-Unexpected.field-0-is at c.in-Err-Unexpected.ensures.refused)
