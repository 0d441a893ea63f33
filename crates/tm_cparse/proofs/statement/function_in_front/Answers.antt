use Rattle.std.proofs.Common.{rules, map}
use Rattle.tm_cparse.specs.View.{tokens_of, written_tree}
use Rattle.tm_cparse.proofs.Readings.{ok_map, err_map}
use Rattle.tm_cparse.proofs.Functions.{function_read, head_refused, blocks_refused}
use Rattle.tm_cparse.proofs.statement.function_in_front.Goals as goal

pub returns-in_err-rest-clause-refused : goal.returns-in_err-rest-clause-refused
returns-in_err-rest-clause-refused c =
    let h = head_refused (tokens_of c.args.spots.now) _ c.in_err-rest.ensures.refused in search rules

pub returns-clause-taken : goal.returns-clause-taken
returns-clause-taken c =
    ok_map
    (λ r h.
    function_read _ (map written_tree r.0.items) (tokens_of c.args.spots.now) (tokens_of c.in_ok-rest.rest.now)
    (tokens_of r.1.now) c.in_ok-rest.ensures.taken h)
    c.some_blocks.result c.some_blocks.ensures.taken

pub returns-clause-refused : goal.returns-clause-refused
returns-clause-refused c =
    err_map
    (λ e h.
    blocks_refused _ (tokens_of c.args.spots.now) (tokens_of c.in_ok-rest.rest.now) e c.in_ok-rest.ensures.taken h)
    c.some_blocks.result c.some_blocks.ensures.refused
