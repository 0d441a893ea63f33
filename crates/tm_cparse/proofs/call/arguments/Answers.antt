use Rattle.std.proofs.Common.{map}
use Rattle.tm_cir.specs.View.{num_tree}
use Rattle.tm_cparse.specs.View.{tokens_of}
use Rattle.tm_cparse.proofs.Readings.{ok_map, err_map}
use Rattle.tm_cparse.proofs.Arguments.{arguments_read, arguments_refused}
use Rattle.tm_cparse.proofs.call.arguments.Goals as goal

pub returns-clause-taken : goal.returns-clause-taken
returns-clause-taken c =
    ok_map
    (λ r h. arguments_read (map num_tree r.0.items) (tokens_of c.args.spots.now) (tokens_of r.1.now) h)
    c.some_arguments.result c.some_arguments.ensures.taken

pub returns-clause-refused : goal.returns-clause-refused
returns-clause-refused c =
    err_map (λ e h. arguments_refused (tokens_of c.args.spots.now) e c.in_default.ensures.whole h)
    c.some_arguments.result c.some_arguments.ensures.refused
