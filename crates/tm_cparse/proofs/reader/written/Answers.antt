use Rattle.std.proofs.Common.{map, rules}
use Rattle.tm_cparse.specs.View.{written_tree}
use Rattle.tm_cparse.proofs.BodyFaults.{not_whole}
use Rattle.tm_cparse.proofs.reader.written.Goals as goal

pub returns-else-scan-clause-refused : goal.returns-else-scan-clause-refused
returns-else-scan-clause-refused c =
    not_whole c.args.scan.now.spots.items c.as_slice.result.now c.args.scan.now.line c.args.scan.now.is_whole
    (map written_tree c.in-Ok.written.items) (search rules) c.in-Ok.ensures.taken (search rules)
