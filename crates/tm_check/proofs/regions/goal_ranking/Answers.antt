use Rattle.std.proofs.Common.{refl, sym, subst, ◌&&◌, not, arith}
use Rattle.tm_check.proofs.Found.{all_found, found_set, found_tried, ranking_found}
use Rattle.tm_check.proofs.Keeping.{told_kept}
use Rattle.tm_check.proofs.regions.goal_ranking.Goals as goal
use Rattle.tm_dd.specs.declared.node.NodeId.{NodeId}
use Rattle.tm_dd.specs.Table.{Knows, means}
use Rattle.tm_ddops.specs.Manager.{IsFunction}
use Rattle.tm_verdict.specs.Driver.{is_ranked}
use Rattle.tm_game.proofs.Growing.{grows_none, grows_then}

pub without-requires-clause-set : goal.without-requires-clause-set
without-requires-clause-set c = c.requires.told.3.diagrams.region.known

pub without-requires-clause-other : goal.without-requires-clause-other
without-requires-clause-other c =
    subst (Knows c.args.game.now.diagrams.table) (sym c.all_ranked-ranked.ensures)
    (all_found c.requires.told.0 c.requires.told.1 c.requires.told.2 c.args.told.now c.args.game.now c.args.game.now
    c.requires.told.3 (grows_none c.args.game.now) c.args.goal c.requires.goal).known

pub try_part-requires : goal.try_part-requires
try_part-requires c =
    let d = c.requires.told.0 in
    let bs = c.requires.told.1 in
    let cs = c.requires.told.2 in
    let is = c.requires.told.3 in
    found_set d bs cs c.args.told.now c.without.new.game
    (told_kept d c.args.game.now c.without.new.game c.without.ensures.grows bs cs c.args.told.now is)
    (is_ranked c.args.goal) c.in_ok-outside.outside
    (ranking_found d bs cs c.args.told.now c.args.game.now c.without.new.game is c.without.ensures.grows c.args.goal
    c.requires.goal c.in_ok-outside.outside
    (subst (λ (x : NodeId). IsFunction c.without.new.game.diagrams.table c.in_ok-outside.outside
    (λ v. means c.args.game.now.diagrams.table c.args.told.now.region v && not (means c.args.game.now.diagrams.table
    x v)))
    c.all_ranked-ranked.ensures c.in_ok-outside.ensures.rest))

pub returns-in_err-verdict-clause-grows : goal.returns-in_err-verdict-clause-grows
returns-in_err-verdict-clause-grows c =
    grows_then c.args.game.now c.without.new.game c.try_part.new.game c.without.ensures.grows c.try_part.ensures.grows

pub returns-clause-grows : goal.returns-clause-grows
returns-clause-grows c =
    grows_then c.args.game.now c.without.new.game c.try_part.new.game c.without.ensures.grows c.try_part.ensures.grows

pub returns-clause-tried : goal.returns-clause-tried
returns-clause-tried c = λ d bs cs is.
    let later = told_kept d c.args.game.now c.without.new.game c.without.ensures.grows bs cs c.args.told.now is in
    found_tried d bs cs c.args.told.now c.without.new.game later (is_ranked c.args.goal) c.in_ok-outside.outside
    (ranking_found d bs cs c.args.told.now c.args.game.now c.without.new.game is c.without.ensures.grows c.args.goal
    c.requires.goal c.in_ok-outside.outside
    (subst (λ (x : NodeId). IsFunction c.without.new.game.diagrams.table c.in_ok-outside.outside
    (λ v. means c.args.game.now.diagrams.table c.args.told.now.region v && not (means c.args.game.now.diagrams.table
    x v)))
    c.all_ranked-ranked.ensures c.in_ok-outside.ensures.rest)) 2 c.args.goal c.in_ok-verdict.verdict tt tt refl refl
    (c.in_ok-verdict.ensures.first d later.of)

pub overflow_cast-goal : goal.overflow_cast-goal
overflow_cast-goal c =
    let is = c.requires.told.3 in omega (arith, c.requires.goal, is.diagrams.count, is.goals, is.few)
