use Rattle.std.proofs.Common.{ℕ, List, get_or, sym, subst, arith}
use Rattle.std.proofs.lemmas.Option.{slice_get-get_or}
use Rattle.tm_dd.specs.declared.node.NodeId.{NodeId}
use Rattle.tm_dd.specs.declared.node.TheConstants.{FALSE}
use Rattle.tm_game.specs.declared.moves.MoveShape.TheVariants.{Idle}
use Rattle.tm_strat.proofs.Carrying.{grown, sets_stay}
use Rattle.tm_strat.proofs.Gathering.{care_none, shapes_none}
use Rattle.tm_strat.proofs.Shaped.{care_step, pairs_step}
use Rattle.tm_strat.specs.Zoned.{AreShapePairs, IsCareOf}
use Rattle.tm_strat.proofs.good.moves_of.Goals as goal

pub loop-shape-init : goal.loop-shape-init
loop-shape-init c = record {
  grows = λ base b. b;
  are = λ d is.
      subst (λ (l : List NodeId). AreShapePairs d c.args.game.now c.args.zones.now c.args.targets.now
      c.args.game.now.diagrams.table c.args.shapes.now l 0) (sym c.new-pairs.ensures.items)
      (shapes_none d c.args.game.now c.args.zones.now c.args.targets.now c.args.shapes.now
      c.args.game.now.diagrams.table);
  care_is = λ d is.
      subst (λ (l : List NodeId). IsCareOf c.args.game.now c.args.game.now.diagrams.table l FALSE)
      (sym c.new-pairs.ensures.items) (care_none c.args.game.now c.args.game.now.diagrams.table);
}

pub shape_moves-requires-clause-zones : goal.shape_moves-requires-clause-zones
shape_moves-requires-clause-zones c =
    sets_stay c.args.game.now c.loop-shape.game c.loop-shape.invariant.grows c.args.zones.now c.requires.zones

pub shape_moves-requires-clause-targets : goal.shape_moves-requires-clause-targets
shape_moves-requires-clause-targets c =
    sets_stay c.args.game.now c.loop-shape.game c.loop-shape.invariant.grows c.args.targets.now c.requires.targets

pub loop-shape-preserved : goal.loop-shape-preserved
loop-shape-preserved c =
    let below = c.loop-shape-test.true in
    let shape = get_or c.args.shapes.now c.loop-shape.shape-index Idle in
    let there = slice_get-get_or c.args.shapes.now c.loop-shape.shape-index Idle below in
    let to_m = grown c.args.game.now c.loop-shape.game c.loop-shape.invariant.grows in
    let to_e = grown c.loop-shape.game c.shape_moves.new.game c.shape_moves.ensures.grows in
    let to_s = grown c.shape_moves.new.game c.somewhere.new.game c.somewhere.ensures.grows in
    let to_h = grown c.somewhere.new.game c.either.new.game c.either.ensures.grows in
    record {
      grows = λ base b.
          c.either.ensures.grows base
          (c.somewhere.ensures.grows base
          (c.shape_moves.ensures.grows base (c.loop-shape.invariant.grows base b)));
      are = λ d is.
          pairs_step d c.args.game.now c.loop-shape.game is to_m c.args.zones.now c.args.targets.now c.requires.zones
          c.requires.targets c.shape_moves.new.game c.somewhere.new.game c.either.new.game to_e to_s to_h
          c.args.shapes.now c.loop-shape.shape-index shape there below c.loop-shape.pairs.items c.push.new.self.items
          c.in_ok-good.good (c.loop-shape.invariant.are d is) (c.in_ok-good.ensures.pairs d)
          c.in_ok-push.ensures.items;
      care_is = λ d is.
          care_step d c.args.game.now c.loop-shape.game is to_m c.args.zones.now c.args.targets.now c.requires.zones
          c.requires.targets c.shape_moves.new.game c.somewhere.new.game c.either.new.game to_e to_s to_h
          c.args.shapes.now c.loop-shape.shape-index shape there below c.loop-shape.pairs.items c.push.new.self.items
          c.in_ok-good.good (c.loop-shape.invariant.are d is) (c.in_ok-good.ensures.pairs d)
          c.in_ok-push.ensures.items c.args.levels.now c.requires.levels c.loop-shape.care c.in_ok-states.states
          c.in_ok-care.care (c.loop-shape.invariant.care_is d is) c.in_ok-states.ensures.answer
          c.in_ok-care.ensures.answer;
    }

pub returns-clause-pairs : goal.returns-clause-pairs
returns-clause-pairs c =
    let ends = c.loop-shape.auto.shape-index-end in
    let last = c.loop-shape-test.false in
    λ d is.
    subst (λ (n : ℕ). AreShapePairs d c.args.game.now c.args.zones.now c.args.targets.now
    c.loop-shape.game.diagrams.table c.args.shapes.now c.loop-shape.pairs.items n) (omega (arith, ends, last))
    (c.loop-shape.invariant.are d is)

pub returns-clause-care : goal.returns-clause-care
returns-clause-care c = c.loop-shape.invariant.care_is
