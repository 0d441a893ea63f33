use Rattle.std.proofs.Common.{ℕ, subst, arith}
use Rattle.tm_dd.specs.declared.node.NodeId.{NodeId}
use Rattle.tm_strat.proofs.Carrying.{grown, sets_stay}
use Rattle.tm_strat.proofs.Gathering.{set_in}
use Rattle.tm_strat.proofs.Shaped.{shape_step}
use Rattle.tm_strat.proofs.ZonePairs.{zones_none}
use Rattle.tm_strat.specs.Zoned.{AreZonePairs}
use Rattle.tm_strat.proofs.good.shape_moves.Goals as goal

pub loop-index-init : goal.loop-index-init
loop-index-init c = record {
  grows = λ base b. b;
  pairs = λ d is.
      zones_none d c.args.game.now is c.args.zones.now c.args.targets.now c.args.game.now.diagrams.table c.args.shape;
}

pub zone_moves-requires-clause-states : goal.zone_moves-requires-clause-states
zone_moves-requires-clause-states c =
    subst (λ (i : NodeId). Rattle.tm_game.specs.Game.IsSet c.loop-index.game i)
    (Rattle.std.proofs.Common.sym c.id_at-states.ensures)
    (set_in c.loop-index.game c.args.zones.now
    (sets_stay c.args.game.now c.loop-index.game c.loop-index.invariant.grows c.args.zones.now c.requires.zones)
    c.loop-index.index)

pub zone_moves-requires-clause-target : goal.zone_moves-requires-clause-target
zone_moves-requires-clause-target c =
    c.target_at-target.ensures.sets c.loop-index.game
    (sets_stay c.args.game.now c.loop-index.game c.loop-index.invariant.grows c.args.targets.now c.requires.targets)

pub loop-index-preserved : goal.loop-index-preserved
loop-index-preserved c = record {
  grows = λ base b.
      c.either.ensures.grows base (c.zone_moves.ensures.grows base (c.loop-index.invariant.grows base b));
  pairs = λ d is.
      shape_step d c.args.game.now c.loop-index.game is
      (grown c.args.game.now c.loop-index.game c.loop-index.invariant.grows) c.args.zones.now c.args.targets.now
      c.requires.zones c.requires.targets c.zone_moves.new.game c.either.new.game
      (grown c.loop-index.game c.zone_moves.new.game c.zone_moves.ensures.grows)
      (grown c.zone_moves.new.game c.either.new.game c.either.ensures.grows) c.loop-index.index c.args.shape
      c.loop-index.good c.in_ok-here.here c.in_ok-good.good c.id_at-states.result c.target_at-target.result
      c.id_at-states.ensures c.target_at-target.ensures.same (c.loop-index.invariant.pairs d is)
      (c.in_ok-here.ensures.pairs d) c.in_ok-good.ensures.answer;
}

pub returns-clause-pairs : goal.returns-clause-pairs
returns-clause-pairs c =
    let ends = c.loop-index.auto.index-end in
    let last = c.loop-index-test.false in
    λ d is.
    subst (λ (n : ℕ). AreZonePairs d c.args.game.now c.args.zones.now c.args.targets.now n
    c.loop-index.game.diagrams.table c.args.shape c.loop-index.good) (omega (arith, ends, last))
    (c.loop-index.invariant.pairs d is)
