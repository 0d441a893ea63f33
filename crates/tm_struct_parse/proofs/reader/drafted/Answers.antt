use Rattle.std.proofs.Common.{rules}
use Rattle.tm_struct_parse.specs.View.{draft_program}
use Rattle.tm_struct_parse.proofs.BodyFaults.{not_whole}
use Rattle.tm_struct_parse.proofs.reader.drafted.Goals as goal

pub returns-else-scan-clause-refused : goal.returns-else-scan-clause-refused
returns-else-scan-clause-refused c =
    not_whole c.args.scan.now.spots.items c.as_slice.result.now c.args.scan.now.line c.args.scan.now.is_whole
    (draft_program c.in-Ok.draft) (search rules) c.in-Ok.ensures.taken (search rules)
