use Rattle.std.proofs.Common.{ℕ, List, length, sym, ap, ◌∙◌, subst}
use Rattle.std.specs.List.{range_with_len}
use Rattle.tm_dd.specs.declared.node.NodeId.{NodeId}
use Rattle.tm_flat.specs.Inputs.{room}
use Rattle.tm_game.proofs.Growing.{grows_then}
use Rattle.tm_solve_exact.proofs.Growing.{kept_exact}
use Rattle.tm_strat.specs.Targets.{AreSets}
use Rattle.tm_strat.proofs.Carrying.{grown, ranks_stay, set_stays}
use Rattle.tm_strat.proofs.Found.{good_found, turn_set}
use Rattle.tm_strat.proofs.ZoneSets.{zoned_made}
use Rattle.tm_strat.proofs.good.goal_moves.Goals as goal

pub targets-requires-clause-region : goal.targets-requires-clause-region
targets-requires-clause-region c =
    set_stays c.args.game.now c.zones.new.game c.zones.ensures.grows c.args.region c.requires.region

pub targets-requires-clause-ranks : goal.targets-requires-clause-ranks
targets-requires-clause-ranks c =
    ranks_stay c.args.game.now c.zones.new.game c.zones.ensures.grows c.args.ranks.now c.requires.ranks

pub moves_of-requires-clause-zones : goal.moves_of-requires-clause-zones
moves_of-requires-clause-zones c =
    let is = c.requires.of.1 in
    let to_m = grown c.args.game.now c.zones.new.game c.zones.ensures.grows in
    let to_t = grown c.zones.new.game c.targets.new.game c.targets.ensures.grows in
    subst (λ (l : List NodeId). AreSets c.targets.new.game l) (sym c.deref.ensures.value)
    (zoned_made c.requires.of.0 c.args.game.now c.zones.new.game c.targets.new.game is to_m to_t c.args.region
    c.args.ranks.now c.args.goal c.in_ok-states.states.items c.in_ok-ends.ends.items
    (turn_set c.requires.of.0 c.args.game.now is c.turn-turn.result c.turn-turn.ensures.value
    (c.turn-turn.ensures.states c.requires.of.0 is.ordered.of)) c.requires.region c.requires.ranks
    c.in_ok-states.ensures.are c.in_ok-ends.ensures.are c.in_ok-ends.ensures.sets).zone_sets

pub moves_of-requires-clause-targets : goal.moves_of-requires-clause-targets
moves_of-requires-clause-targets c =
    subst (λ (l : List NodeId). AreSets c.targets.new.game l) (sym c.deref-2.ensures.value) c.in_ok-ends.ensures.sets

pub moves_of-requires-clause-levels : goal.moves_of-requires-clause-levels
moves_of-requires-clause-levels c =
    let to_m = grown c.args.game.now c.zones.new.game c.zones.ensures.grows in
    let to_t = grown c.zones.new.game c.targets.new.game c.targets.ensures.grows in
    c.requires.levels
    ∙ ap (λ (o : List ℕ). range_with_len (length o) room) (sym (to_t.order ∙ to_m.order))

pub returns-clause-good : goal.returns-clause-good
returns-clause-good c = λ d is.
    let to_m = grown c.args.game.now c.zones.new.game c.zones.ensures.grows in
    let to_t = grown c.zones.new.game c.targets.new.game c.targets.ensures.grows in
    let to_h = grown c.targets.new.game c.moves_of.new.game c.moves_of.ensures.grows in
    let to = grows_then c.args.game.now c.zones.new.game c.targets.new.game to_m to_t in
    good_found d c.targets.new.game c.moves_of.new.game (kept_exact d c.args.game.now is c.targets.new.game to) to_h
    c.args.region c.args.ranks.now c.args.goal c.in_ok-states.states.items c.in_ok-ends.ends.items
    c.deref.result.now c.deref-2.result.now c.deref.ensures.value c.deref-2.ensures.value
    (zoned_made d c.args.game.now c.zones.new.game c.targets.new.game is to_m to_t c.args.region
    c.args.ranks.now c.args.goal c.in_ok-states.states.items c.in_ok-ends.ends.items
    (turn_set d c.args.game.now is c.turn-turn.result c.turn-turn.ensures.value
    (c.turn-turn.ensures.states d is.ordered.of)) c.requires.region c.requires.ranks
    c.in_ok-states.ensures.are c.in_ok-ends.ensures.are c.in_ok-ends.ensures.sets)
    c.args.shapes.now c.in_ok-good.good (c.in_ok-good.ensures.pairs d) (c.in_ok-good.ensures.care d)

pub returns-in_err-ends-clause-grows : goal.returns-in_err-ends-clause-grows
returns-in_err-ends-clause-grows c = λ base b. c.targets.ensures.grows base (c.zones.ensures.grows base b)

pub returns-in_err-good-clause-grows : goal.returns-in_err-good-clause-grows
returns-in_err-good-clause-grows c =
    λ base b. c.moves_of.ensures.grows base (c.targets.ensures.grows base (c.zones.ensures.grows base b))

pub returns-clause-grows : goal.returns-clause-grows
returns-clause-grows c =
    λ base b. c.moves_of.ensures.grows base (c.targets.ensures.grows base (c.zones.ensures.grows base b))
