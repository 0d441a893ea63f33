use Rattle.std.proofs.Common.{map}
use Rattle.tm_cparse.specs.View.{written_tree}
use Rattle.tm_cparse.proofs.Functions.{stopped_at, followed_at}
use Rattle.tm_cparse.proofs.statement.function.Goals as goal

pub returns-in-Ok-2-clause-refused : goal.returns-in-Ok-2-clause-refused
returns-in-Ok-2-clause-refused c =
    followed_at (map written_tree c.in-Ok.blocks.items) c.args.spots.now c.in-Ok.rest.now c.is_empty.result
    c.in-Ok.ensures.taken c.in-Ok.ensures.shorter c.is_empty.ensures c.if-is_empty.false

pub returns-in-Err-Unexpected-clause-refused : goal.returns-in-Err-Unexpected-clause-refused
returns-in-Err-Unexpected-clause-refused c =
    stopped_at c.args.spots.now c.in-Err-Unexpected.rest.now
    (rw c.in-Err-Unexpected.field-0-is at c.in-Err-Unexpected.ensures.refused)
