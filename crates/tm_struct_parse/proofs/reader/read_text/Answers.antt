use Rattle.std.proofs.Common.{rules}
use Rattle.tm_syntax.specs.Design.View.{design_tree}
use Rattle.tm_cparse.proofs.Readings.{ok_map, err_map}
use Rattle.tm_cparse.proofs.BodyFaults.{behind_short, behind_low}
use Rattle.tm_struct_parse.proofs.BodyFaults.{include_fault}
use Rattle.tm_struct_parse.proofs.reader.read_text.Goals as goal

pub program_behind-requires-clause-short : goal.program_behind-requires-clause-short
program_behind-requires-clause-short c =
    behind_short c.args.text.now c.in-Ok.body.now c.in-Ok.line c.in-Ok.ensures.found (search rules)

pub program_behind-requires-clause-low : goal.program_behind-requires-clause-low
program_behind-requires-clause-low c =
    behind_low c.args.text.now c.in-Ok.body.now c.in-Ok.line c.in-Ok.ensures.found (search rules)

pub returns-in-Ok-clause-read : goal.returns-in-Ok-clause-read
returns-in-Ok-clause-read c =
    ok_map (λ b h. h c.args.text.now c.in-Ok.ensures.found (search rules)) c.program_behind.result
    c.program_behind.ensures.read

pub returns-in-Ok-clause-faulty : goal.returns-in-Ok-clause-faulty
returns-in-Ok-clause-faulty c =
    err_map (λ e h. h c.args.text.now c.in-Ok.ensures.found (search rules)) c.program_behind.result
    c.program_behind.ensures.faulty

pub returns-in-Err-clause-faulty : goal.returns-in-Err-clause-faulty
returns-in-Err-clause-faulty c =
    let h = include_fault (design_tree c.args.design.now) c.args.text.now c.in-Err.line (search rules)
    c.in-Err.ensures.missing in
    search rules
