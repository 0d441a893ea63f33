use Rattle.std.proofs.Common.{map, refl}
use Rattle.tm_cparse.specs.View.{tokens_of}
use Rattle.tm_struct_parse.specs.View.{named_tree}
use Rattle.tm_struct_parse.proofs.Forms.{refused_behind}
use Rattle.tm_struct_parse.proofs.Programs.{turn_refused, program_read}
use Rattle.tm_struct_parse.proofs.program.program_in_front.Goals as goal

pub returns-in-Err-driver_turn-clause-refused : goal.returns-in-Err-driver_turn-clause-refused
returns-in-Err-driver_turn-clause-refused c =
    refused_behind c.in-Ok.ensures.taken.moves _
    (turn_refused (map named_tree c.in-Ok.read.0.items) (tokens_of c.in-Ok.read.1.now) _
    c.in-Ok.ensures.taken.ends c.in-Err-driver_turn.ensures.refused)

pub returns-clause-taken : goal.returns-clause-taken
returns-clause-taken c =
    program_read (map named_tree c.in-Ok.read.0.items) _ (tokens_of c.args.spots.now) (tokens_of
    c.in-Ok.read.1.now)
    (tokens_of c.in-Ok-driver_turn.read.1.now) c.in-Ok.ensures.taken c.in-Ok-driver_turn.ensures.taken refl
