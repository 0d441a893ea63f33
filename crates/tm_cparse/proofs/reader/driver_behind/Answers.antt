use Rattle.std.proofs.Common.{List, map, sym, subst, rules}
use Rattle.tm_syntax.specs.Design.View.{design_tree}
use Rattle.tm_cir.specs.Tree.{BlockTree}
use Rattle.tm_cparse.specs.View.{written_tree}
use Rattle.tm_cparse.specs.Inner.Bodies.{IsBody}
use Rattle.tm_cparse.proofs.Readings.{ok_map}
use Rattle.tm_cparse.proofs.BodyFaults.{text_fault, named_fault}
use Rattle.tm_cparse.proofs.Named.{named_is, named_fits, named_small, named_body}
use Rattle.tm_cparse.proofs.reader.driver_behind.Goals as goal

pub returns-in_err-written-clause-faulty : goal.returns-in_err-written-clause-faulty
returns-in_err-written-clause-faulty c =
    let h = text_fault (design_tree c.args.design.now) c.args.line c.args.body.now c.in_ok-scan.scan.spots.items
    c.in_ok-scan.scan.line c.in_ok-scan.scan.is_whole _ c.in_ok-scan.ensures c.in_err-written.ensures.refused in
    search rules

pub returns-in-Some-clause-faulty : goal.returns-in-Some-clause-faulty
returns-in-Some-clause-faulty c =
    let h = named_fault (design_tree c.args.design.now) c.args.line c.args.body.now c.in_ok-scan.scan.spots.items
    c.as_slice.result.now c.in_ok-scan.scan.line c.in_ok-scan.scan.is_whole
    (map written_tree c.in_ok-written.written.items) c.in-Some.fault (search rules)
    c.in_ok-scan.ensures c.in_ok-written.ensures.whole c.in_ok-written.ensures.taken c.in-Some.ensures in
    search rules

pub driver_of-requires-clause-fits : goal.driver_of-requires-clause-fits
driver_of-requires-clause-fits c =
    named_fits (design_tree c.args.design.now) c.args.line c.args.body.now c.in_ok-scan.scan.spots.items
    (map written_tree c.in_ok-written.written.items)
    (named_is (design_tree c.args.design.now) c.args.line c.args.body.now c.in_ok-scan.scan.spots.items
    c.as_slice.result.now c.in_ok-scan.scan.line c.in_ok-scan.scan.is_whole
    (map written_tree c.in_ok-written.written.items) (search rules) c.in_ok-scan.ensures
    c.in_ok-written.ensures.whole c.in_ok-written.ensures.taken c.in-None.ensures c.requires.short)

pub driver_of-requires-clause-small : goal.driver_of-requires-clause-small
driver_of-requires-clause-small c =
    named_small (design_tree c.args.design.now) c.args.line c.args.body.now c.in_ok-scan.scan.spots.items
    (map written_tree c.in_ok-written.written.items)
    (named_is (design_tree c.args.design.now) c.args.line c.args.body.now c.in_ok-scan.scan.spots.items
    c.as_slice.result.now c.in_ok-scan.scan.line c.in_ok-scan.scan.is_whole
    (map written_tree c.in_ok-written.written.items) (search rules) c.in_ok-scan.ensures
    c.in_ok-written.ensures.whole c.in_ok-written.ensures.taken c.in-None.ensures c.requires.short)

pub returns-clause-read : goal.returns-clause-read
returns-clause-read c =
    let body = named_body (design_tree c.args.design.now) c.args.line c.args.body.now c.in_ok-scan.scan.spots.items
    (map written_tree c.in_ok-written.written.items)
    (named_is (design_tree c.args.design.now) c.args.line c.args.body.now c.in_ok-scan.scan.spots.items
    c.as_slice.result.now c.in_ok-scan.scan.line c.in_ok-scan.scan.is_whole
    (map written_tree c.in_ok-written.written.items) (search rules) c.in_ok-scan.ensures
    c.in_ok-written.ensures.whole c.in_ok-written.ensures.taken c.in-None.ensures c.requires.short) in
    ok_map
    (λ b h.
    subst (λ (bs : List BlockTree). IsBody (design_tree c.args.design.now) c.args.line c.args.body.now bs) (sym h) body)
    c.driver_of.result c.driver_of.ensures.read
