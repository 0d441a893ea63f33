use Rattle.std.proofs.Common.{◌≤◌, length, ◌∙◌, arith}
use Rattle.std.proofs.lemmas.Result.{IfOk-weaker}
use Rattle.tm_refine.proofs.RoundSides.{of_none, of_some}
use Rattle.tm_refine.proofs.SearchSteps.{apart_parted, points_end, same_length, searching_more}
use Rattle.tm_refine.proofs.searching.cut.Goals as goal

pub unreachable-requires : goal.unreachable-requires
unreachable-requires g c =
    let d = c.requires.failed.0 in
    let now = c.cut_by_either.ensures.stay.of d c.requires.failed.1 in
    let less : length c.cut_by_either.new.added.items ≤ length c.args.added.now.items =
    let a = c.len.ensures in let b = c.len-count.ensures in let f = c.if-len-count.false in omega arith in
    let same = c.in_ok-cut_by_either.ensures.same
    (same_length c.args.added.now.items c.cut_by_either.new.added.items c.in_ok-cut_by_either.ensures.longer less) in
    points_end d c.as_slice.result.now c.args.sided.now.tracked.items (c.as_slice.ensures.value ∙ same)
    c.args.sided.now.upper
    (of_none c.in_ok-pair.field-0 _ _ (c.in_ok-pair.ensures.apart d now) c.in_default.not-Some) c.requires.failed.3
    c.requires.failed.2.own

pub add-requires : goal.add-requires
add-requires g c =
    let d = c.requires.failed.0 in
    let now = c.cut_by_either.ensures.stay.of d c.requires.failed.1 in
    record {
      parted = (
        d,
        c.apart.ensures.follows.extends.of d now,
        apart_parted d c.as_slice.result.now c.cut_by_either.new.sided.tracked.items c.as_slice.ensures.value
            c.in-Some.pair.0 c.in-Some.pair.1
            (of_some c.in_ok-pair.field-0 _ _ c.in-Some.pair (c.in_ok-pair.ensures.apart d now) c.in-Some.is),
      );
    }

pub returns-clause-searching : goal.returns-clause-searching
returns-clause-searching g c = IfOk-weaker c.add.result _ _ (λ u more d first of s.
    let now = c.cut_by_either.ensures.stay.of d of in
    searching_more (g.A.Arena.ids c.apart.new.self).of c.in-Some.pair.0 c.in-Some.pair.1
    c.cut_by_either.new.sided.tracked.items c.add.new.sided.tracked.items c.cut_by_either.new.added.items
    c.add.new.added.items more d (c.apart.ensures.follows.extends.of d now)
    (apart_parted d c.as_slice.result.now c.cut_by_either.new.sided.tracked.items c.as_slice.ensures.value
    c.in-Some.pair.0 c.in-Some.pair.1
    (of_some c.in_ok-pair.field-0 _ _ c.in-Some.pair (c.in_ok-pair.ensures.apart d now) c.in-Some.is)) first
    (c.in_ok-cut_by_either.ensures.searching d first of s)) c.add.ensures.more
