use Rattle.std.proofs.Common.{ℕ, suc, List, length, sym, ap, ◌∙◌, subst}
use Rattle.tm_dd.specs.declared.node.NodeId.{NodeId}
use Rattle.tm_ddops.specs.Manager.{IsFunction}
use Rattle.tm_strat.specs.declared.good.NewStates.{NewStates}
use Rattle.tm_strat.proofs.Zoning.{both_of, first_zone, function_kept, rest_of, tells_kept}
use Rattle.tm_strat.specs.Choice.{id_in}
use Rattle.tm_strat.specs.Zones.{AreWaits, AreZones, failing, here, met}
use Rattle.tm_strat.proofs.good.zones.Goals as goal

pub returns-clause-are : goal.returns-clause-are
returns-clause-are c =
    λ z tells.
    let g0 = c.args.game.now in
    let g1 = c.both.new.game in
    let g2 = c.both-2.new.game in
    let g3 = c.rest.new.game in
    let g4 = c.waits.new.game in
    let holds : IsFunction g0.diagrams.table c.id_at-holds.result z.goal =
    subst (λ (id : NodeId). IsFunction g0.diagrams.table id z.goal)
    (sym (c.id_at-holds.ensures ∙ ap (λ (l : List NodeId). id_in l c.args.goal) c.goals.ensures.value)) tells.goal_is in
    let turn : IsFunction g0.diagrams.table c.turn-turn.result z.turn =
    subst (λ (id : NodeId). IsFunction g0.diagrams.table id z.turn) (sym c.turn-turn.ensures.value) tells.turn_is in
    let here_is : IsFunction g1.diagrams.table c.in_ok-here.here (here z) =
    both_of g0 g1 c.both.ensures.grows c.args.region c.turn-turn.result c.in_ok-here.here z.region z.turn
    tells.region_is turn c.in_ok-here.ensures.answer in
    let holds_1 = function_kept g0 g1 c.both.ensures.grows c.id_at-holds.result z.goal holds in
    let met_is : IsFunction g2.diagrams.table c.in_ok-met.met (met z) =
    both_of g1 g2 c.both-2.ensures.grows c.in_ok-here.here c.id_at-holds.result c.in_ok-met.met (here z) z.goal here_is
    holds_1 c.in_ok-met.ensures.answer in
    let fails : IsFunction g3.diagrams.table c.in_ok-failing.failing (failing z) =
    rest_of g2 g3 c.rest.ensures.grows c.in_ok-here.here c.id_at-holds.result c.in_ok-failing.failing (here z) z.goal
    (function_kept g1 g2 c.both-2.ensures.grows c.in_ok-here.here (here z) here_is)
    (function_kept g1 g2 c.both-2.ensures.grows c.id_at-holds.result z.goal holds_1) c.in_ok-failing.ensures.answer in
    let waits : AreWaits g4.diagrams.table z (length c.args.ranks.now) c.in_ok-waits.waits.items =
    c.in_ok-waits.ensures.are c.args.region c.args.goal z
    (tells_kept g0 g3 (λ base b.
    c.rest.ensures.grows base (c.both-2.ensures.grows base (c.both.ensures.grows base b)))
    c.args.region c.args.ranks.now c.args.goal z tells) fails in
    let first : AreZones g4.diagrams.table z 1 c.push.new.self.items =
    first_zone g4.diagrams.table z c.push.new.self.items c.new-zones.result.items c.in_ok-met.met
    c.new-zones.ensures.items c.in_ok-push.ensures.items
    (function_kept g3 g4 c.waits.ensures.grows c.in_ok-met.met (met z)
    (function_kept g2 g3 c.rest.ensures.grows c.in_ok-met.met (met z) met_is)) in
    let own : AreWaits g4.diagrams.table z (length z.ranks) c.in_ok-waits.waits.items =
    subst (λ (n : ℕ). AreWaits g4.diagrams.table z n c.in_ok-waits.waits.items) (sym tells.count) waits in
    let given : AreWaits g4.diagrams.table z (length z.ranks) c.deref.result.now =
    subst (λ (l : List NewStates). AreWaits g4.diagrams.table z (length z.ranks) l) (sym c.deref.ensures.value) own in
    subst (λ (n : ℕ). AreZones c.push_zones.new.game.diagrams.table z (suc n) c.push_zones.new.zones.items)
    (ap (λ (l : List NewStates). length l) c.deref.ensures.value ∙ waits.count)
    (c.in_ok-push_zones.ensures.are z first given)
