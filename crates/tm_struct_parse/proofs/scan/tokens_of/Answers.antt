use Rattle.std.proofs.Common.{ap, length, arith}
use Rattle.std.proofs.lemmas.List.{take_rest, length-drop}
use Rattle.tm_syntax.specs.Design.View.{design_tree}
use Rattle.tm_struct_parse.proofs.Scans.{so_far_begins, so_far_more, so_far_ends}
use Rattle.tm_struct_parse.proofs.scan.tokens_of.Goals as goal

pub loop-spot-init : goal.loop-spot-init
loop-spot-init c =
    so_far_begins (design_tree c.args.design.now) c.args.line c.behind_blanks-behind_line.result.1 c.args.text.now
    c.behind_blanks-behind_line.result.0.now _ c.new-spots.ensures.items c.behind_blanks-behind_line.ensures

pub next_spot-requires-clause-no_blank : goal.next_spot-requires-clause-no_blank
next_spot-requires-clause-no_blank c = c.loop-spot.invariant.no_blank

pub next_spot-requires-clause-low : goal.next_spot-requires-clause-low
next_spot-requires-clause-low c = omega (arith, c.requires, c.loop-spot.invariant.low)

pub behind_blanks-behind_line-requires-in-Some : goal.behind_blanks-behind_line-requires-in-Some
behind_blanks-behind_line-requires-in-Some c =
    omega (
      arith,
      c.requires,
      c.loop-spot.invariant.low,
      ap length (take_rest c.loop-spot.rest.now c.in-Some.len),
      length-drop c.in-Some.len c.loop-spot.rest.now,
    )

pub loop-spot-preserved : goal.loop-spot-preserved
loop-spot-preserved c =
    so_far_more (design_tree c.args.design.now) c.args.line c.args.text.now c.loop-spot.spots.items
    c.push.new.self.items c.loop-spot.open_count c.loop-spot.last c.loop-spot.rest.now c.in-Some.spot c.in-Some.len
    c.open_behind-open_count.result c.behind_blanks-behind_line-in-Some.result.1 _
    c.behind_blanks-behind_line-in-Some.result.0.now c.loop-spot.invariant c.in-Some.ensures
    c.in_ok-push.ensures.items c.open_behind-open_count.ensures (take_rest c.loop-spot.rest.now c.in-Some.len)
    c.behind_blanks-behind_line-in-Some.ensures

pub returns : goal.returns
returns c =
    so_far_ends (design_tree c.args.design.now) c.args.line c.args.text.now c.loop-spot.spots.items
    c.loop-spot.open_count c.loop-spot.last c.loop-spot.rest.now c.is_empty.result c.loop-spot.invariant
    c.in_default.ensures c.is_empty.ensures
