use Rattle.std.proofs.Common.{ℕ, List, length, sym, ap, subst, arith}
use Rattle.tm_dd.specs.Reduced.{RanksRise}
use Rattle.tm_dd.proofs.CallerLaws.{RanksRise-Extends}
use Rattle.tm_blast.specs.Memory.{Made}
use Rattle.tm_flat.specs.Flat.{flat_terms}
use Rattle.tm_game_bits.specs.Diagrams.{game_of}
use Rattle.tm_game.proofs.Extending.{made_kept}
use Rattle.tm_flat.proofs.Growth.{flat_kept}
use Rattle.tm_game.proofs.game.Game.with_order.Goals as goal
use Rattle.tm_game.specs.Shape.{IsShape}
use Rattle.tm_game.specs.Start.{state_bits_in}
use Rattle.tm_game_bits.specs.Order.{IsOrder}
use Rattle.tm_game_bits.proofs.Orders.{length_order}
use Rattle.tm_game_steps.specs.Passing.{ArePassing}
use Rattle.tm_game_steps.specs.Places.{ArePlaces}
use Rattle.tm_game_steps.specs.Setting.{IsReady, setting_of}

pub manager-requires : goal.manager-requires
manager-requires c =
    omega (
      arith,
      c.requires.design.1.levels,
      length_order (state_bits_in (flat_terms c.args.flat)) c.args.order.items c.requires.order,
      ap length c.deref.ensures.value,
    )

pub prepare-requires-clause-design : goal.prepare-requires-clause-design
prepare-requires-clause-design c = c.requires.design

pub prepare-requires-clause-order : goal.prepare-requires-clause-order
prepare-requires-clause-order c =
    subst (IsOrder (state_bits_in (flat_terms c.args.flat))) (sym c.deref-2.ensures.value) c.requires.order

pub game-steps-requires-clause-terms : goal.game-steps-requires-clause-terms
game-steps-requires-clause-terms c = c.in-Ok-prepare.ensures.terms

pub game-steps-requires-clause-places : goal.game-steps-requires-clause-places
game-steps-requires-clause-places c =
    subst
    (ArePlaces c.in-Ok-prepare.given.encoding.terms (flat_terms c.args.flat).magic c.in-Ok-prepare.given.encoding.first)
    (sym c.deref-3.ensures.value) c.in-Ok-prepare.ensures.places_are

pub game-steps-requires-clause-stutter : goal.game-steps-requires-clause-stutter
game-steps-requires-clause-stutter c =
    subst (ArePassing c.in-Ok-prepare.given.encoding.terms c.in-Ok-prepare.given.encoding.numbers 0)
    (sym c.deref-4.ensures.value) c.in-Ok-prepare.ensures.stutter_is

pub game-steps-requires-clause-idle : goal.game-steps-requires-clause-idle
game-steps-requires-clause-idle c =
    subst (ArePassing c.in-Ok-prepare.given.encoding.terms c.in-Ok-prepare.given.encoding.numbers 1)
    (sym c.deref-5.ensures.value) c.in-Ok-prepare.ensures.idle_is

pub game-steps-requires-clause-ready : goal.game-steps-requires-clause-ready
game-steps-requires-clause-ready c =
    subst (λ (made : Made). IsReady (setting_of c.in-Ok-prepare.given.encoding) c.in-Ok.given.table made)
    (sym c.new-bits.ensures) (c.in-Ok-prepare.ensures.ready c.in-Ok.given.table
    (omega (
      arith,
      c.in-Ok.ensures.levels,
      c.in-Ok-prepare.ensures.shape.count,
      ap length c.deref.ensures.value,
      ap length c.deref-2.ensures.value,
    )))

pub returns-clause-goals : goal.returns-clause-goals
returns-clause-goals c = c.in-Ok-ids.ensures.kept.goals_are.long

pub returns-clause-fairs : goal.returns-clause-fairs
returns-clause-fairs c = c.in-Ok-ids.ensures.kept.fairs_are.long

pub returns-clause-of : goal.returns-clause-of
returns-clause-of c = λ d can. record {
  flat = flat_kept c.args.terms c.in-Ok-prepare.given.encoding.terms c.in-Ok-prepare.ensures.earlier d
      (flat_terms c.args.flat) can.flat;
  room = can.room;
  small = can.small;
  design = can.design;
}

pub invariant_of-result : goal.invariant_of-result
invariant_of-result c = record {
  shape = subst (IsShape (setting_of c.in-Ok-prepare.given.encoding) (flat_terms c.args.flat)) c.deref-2.ensures.value
      c.in-Ok-prepare.ensures.shape;
  terms = c.in-Ok-prepare.ensures.terms;
  levels = omega (
    arith,
    c.in-Ok.ensures.levels,
    ap length c.deref.ensures.value,
    c.game-steps.ensures.earlier.same_levels,
    c.kept_ids-ids.ensures.earlier.same_levels,
  );
  rises = RanksRise-Extends c.game-steps.new.dd.table c.kept_ids-ids.new.dd.table c.kept_ids-ids.ensures.earlier
      (length c.args.order.items)
      (RanksRise-Extends c.in-Ok.given.table c.game-steps.new.dd.table c.game-steps.ensures.earlier
      (length c.args.order.items)
      (subst (λ (o : List ℕ). RanksRise (length o) c.in-Ok.given.table) c.deref.ensures.value
      c.in-Ok.ensures.rises));
  ready = c.kept_ids-ids.ensures.ready;
  steps = made_kept c.game-steps.new.dd.table c.kept_ids-ids.new.dd.table c.kept_ids-ids.ensures.earlier
      (setting_of c.in-Ok-prepare.given.encoding) (flat_terms c.args.flat) c.in-Ok-steps.given
      c.in-Ok-steps.ensures.game;
  answers = c.new.ensures c.kept_ids-ids.new.dd.table (game_of c.kept_ids-ids.new.dd.table c.in-Ok-steps.given.steps);
  kept = c.in-Ok-ids.ensures.kept;
}
