use Rattle.std.proofs.Common.{rules}
use Rattle.tm_syntax.specs.Design.View.{design_tree}
use Rattle.tm_struct_parse.specs.View.{draft_program}
use Rattle.tm_struct_parse.proofs.BodyFaults.{text_fault, named_fault}
use Rattle.tm_struct_parse.proofs.Named.{named_is, named_functions_small, named_main_small, named_body, made_body}
use Rattle.tm_struct_parse.proofs.reader.program_behind.Goals as goal

pub returns-in-Err-clause-faulty : goal.returns-in-Err-clause-faulty
returns-in-Err-clause-faulty c =
    text_fault (design_tree c.args.design.now) c.args.line c.args.body.now c.in_ok-scan.scan.spots.items
    c.in_ok-scan.scan.line c.in_ok-scan.scan.is_whole _ c.in_ok-scan.ensures c.in-Err.ensures.refused

pub returns-in-Some-clause-faulty : goal.returns-in-Some-clause-faulty
returns-in-Some-clause-faulty c =
    let h = named_fault (design_tree c.args.design.now) c.args.line c.args.body.now c.in_ok-scan.scan.spots.items
    c.as_slice.result.now c.in_ok-scan.scan.line c.in_ok-scan.scan.is_whole (draft_program c.in-Ok.read)
    c.in-Some.fault (search rules) c.in_ok-scan.ensures c.in-Ok.ensures.whole c.in-Ok.ensures.taken
    c.in-Some.ensures in
    search rules

pub structured-requires-clause-functions : goal.structured-requires-clause-functions
structured-requires-clause-functions c =
    named_functions_small (design_tree c.args.design.now) c.args.line c.args.body.now c.in_ok-scan.scan.spots.items
    (draft_program c.in-Ok.read)
    (named_is (design_tree c.args.design.now) c.args.line c.args.body.now c.in_ok-scan.scan.spots.items
    c.as_slice.result.now c.in_ok-scan.scan.line c.in_ok-scan.scan.is_whole (draft_program c.in-Ok.read)
    (search rules) c.in_ok-scan.ensures c.in-Ok.ensures.whole c.in-Ok.ensures.taken c.in-None.ensures
    c.requires.short)

pub structured-requires-clause-main : goal.structured-requires-clause-main
structured-requires-clause-main c =
    named_main_small (design_tree c.args.design.now) c.args.line c.args.body.now c.in_ok-scan.scan.spots.items
    (draft_program c.in-Ok.read)
    (named_is (design_tree c.args.design.now) c.args.line c.args.body.now c.in_ok-scan.scan.spots.items
    c.as_slice.result.now c.in_ok-scan.scan.line c.in_ok-scan.scan.is_whole (draft_program c.in-Ok.read)
    (search rules) c.in_ok-scan.ensures c.in-Ok.ensures.whole c.in-Ok.ensures.taken c.in-None.ensures
    c.requires.short)

pub returns-in_ok-structured-in-None-clause-read : goal.returns-in_ok-structured-in-None-clause-read
returns-in_ok-structured-in-None-clause-read c =
    made_body (design_tree c.args.design.now) c.args.line c.args.body.now (draft_program c.in-Ok.read) _
    (named_body (design_tree c.args.design.now) c.args.line c.args.body.now c.in_ok-scan.scan.spots.items
    (draft_program c.in-Ok.read)
    (named_is (design_tree c.args.design.now) c.args.line c.args.body.now c.in_ok-scan.scan.spots.items
    c.as_slice.result.now c.in_ok-scan.scan.line c.in_ok-scan.scan.is_whole (draft_program c.in-Ok.read)
    (search rules) c.in_ok-scan.ensures c.in-Ok.ensures.whole c.in-Ok.ensures.taken c.in-None.ensures
    c.requires.short))
    c.in_ok-structured-in-None.ensures.functions c.in_ok-structured-in-None.ensures.main
