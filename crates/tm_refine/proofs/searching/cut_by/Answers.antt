use Rattle.std.proofs.Common.{◌∙◌}
use Rattle.tm_refine.proofs.RoundSides.{of_some}
use Rattle.tm_refine.proofs.SearchSteps.{longer_then, not_grown, number_shrinks, searching_more, cut_parted, stay_of, stay_then}
use Rattle.tm_refine.proofs.searching.cut_by.Goals as goal

pub add-requires : goal.add-requires
add-requires g c =
    let d = c.requires.of.0 in
    let now = c.pairs.invariant.stay.of d c.requires.of.1 in
    record {
      parted = (
        d,
        c.split.ensures.follows.extends.of d now,
        cut_parted d c.as_slice.result.now c.pairs.sided.tracked.items c.as_slice.ensures.value
            ((g.A.Arena.ids c.pairs.sided.arena).means c.args.set) c.in-Some.pair.0 c.in-Some.pair.1
            (of_some c.in_ok-split.field-0 _ _ c.in-Some.pair (c.in_ok-split.ensures.split d now) c.in-Some.is),
      );
    }

pub pairs-smaller : goal.pairs-smaller
pairs-smaller g c =
    let d = c.requires.of.0 in
    let now = c.pairs.invariant.stay.of d c.requires.of.1 in
    number_shrinks (g.A.Arena.ids c.split.new.self).of c.in-Some.pair.0 c.in-Some.pair.1 c.pairs.sided.tracked.items
    c.add.new.sided.tracked.items c.pairs.added.items c.add.new.added.items c.in_ok-add-in-Some.ensures.more d
    (c.split.ensures.follows.extends.of d now)
    (cut_parted d c.as_slice.result.now c.pairs.sided.tracked.items c.as_slice.ensures.value
    ((g.A.Arena.ids c.pairs.sided.arena).means c.args.set) c.in-Some.pair.0 c.in-Some.pair.1
    (of_some c.in_ok-split.field-0 _ _ c.in-Some.pair (c.in_ok-split.ensures.split d now) c.in-Some.is))
    (g.A.Arena.size c.args.sided.now.arena) (g.met.A.Arena.pool_size c.args.sided.now.arena d c.requires.of.1)

pub pairs-preserved : goal.pairs-preserved
pairs-preserved g c =
    let inv = c.pairs.invariant in
    let more = c.in_ok-add-in-Some.ensures.more in
    record {
      stay = stay_then inv.stay (stay_then (stay_of c.split.ensures.follows) c.add.ensures.stay);
      game = c.add.ensures.game ∙ c.split.ensures.follows.game ∙ inv.game;
      side = c.add.ensures.side ∙ inv.side;
      searching = λ d first of s.
          let now = inv.stay.of d of in
          searching_more (g.A.Arena.ids c.split.new.self).of c.in-Some.pair.0 c.in-Some.pair.1
          c.pairs.sided.tracked.items c.add.new.sided.tracked.items c.pairs.added.items c.add.new.added.items more d
          (c.split.ensures.follows.extends.of d now)
          (cut_parted d c.as_slice.result.now c.pairs.sided.tracked.items c.as_slice.ensures.value
          ((g.A.Arena.ids c.pairs.sided.arena).means c.args.set) c.in-Some.pair.0 c.in-Some.pair.1
          (of_some c.in_ok-split.field-0 _ _ c.in-Some.pair (c.in_ok-split.ensures.split d now) c.in-Some.is)) first
          (inv.searching d first of s);
      longer = longer_then c.args.added.now.items c.pairs.added.items c.add.new.added.items _ inv.longer more.items;
      same = λ is. absurd
          (not_grown c.args.added.now.items c.pairs.added.items c.add.new.added.items _ inv.longer more.items is);
    }
