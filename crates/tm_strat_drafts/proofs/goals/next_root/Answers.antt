use Rattle.tm_strat_drafts.proofs.Making.{drafts_at}
use Rattle.tm_strat_drafts.proofs.Rooting.{below_stays, goal_test, roots_more, roots_same}
use Rattle.tm_strat_drafts.proofs.goals.next_root.Goals as goal

pub join-requires-clause-test : goal.join-requires-clause-test
join-requires-clause-test g c =
    goal_test (g.M.Moves.setting c.args.moves.now).game (g.M.Moves.setting c.own_root.new.moves).game c.args.goal
    c.args.test c.own_root.ensures.follows.game c.requires.test c.requires.goal

pub join-requires-clause-first : goal.join-requires-clause-first
join-requires-clause-first g c = c.in_ok-own.ensures.makes.made.below

pub join-requires-clause-second : goal.join-requires-clause-second
join-requires-clause-second g c =
    below_stays (g.M.Moves.setting c.args.moves.now).game c.args.drafts.now.items c.own_root.new.drafts.items
    c.args.root c.in_ok-own.ensures.makes.stay c.requires.roots.below

pub join-requires-clause-drafts : goal.join-requires-clause-drafts
join-requires-clause-drafts g c = drafts_at c.own_root.ensures.follows.game c.in_ok-own.ensures.makes.drafts

pub returns-clause-roots : goal.returns-clause-roots
returns-clause-roots g c =
    roots_more (g.M.Moves.setting c.args.moves.now).game (g.M.Moves.setting c.own_root.new.moves).game
    (g.M.Moves.setting c.own_root.new.moves).ids (g.M.Moves.setting c.join.new.moves).ids c.args.drafts.now.items
    c.own_root.new.drafts.items c.join.new.drafts.items c.args.goal c.args.test c.in_ok-own.own c.args.root
    c.in_ok-at.at c.own_root.ensures.follows.game c.requires.test c.requires.roots c.in_ok-own.ensures.makes
    c.in_ok-at.ensures.makes c.in_ok-at.ensures.at c.in_ok-at.ensures.blocks

pub returns-then-own-root-clause-roots : goal.returns-then-own-root-clause-roots
returns-then-own-root-clause-roots g c =
    roots_same (g.M.Moves.setting c.args.moves.now).game (g.M.Moves.setting c.own_root.new.moves).ids
    c.args.drafts.now.items c.own_root.new.drafts.items c.args.goal c.in_ok-own.own c.args.root c.if-own-root.true
    c.requires.roots c.in_ok-own.ensures.makes
