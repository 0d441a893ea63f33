use Rattle.std.proofs.Common.{ℕ, sym, subst}
use Rattle.tm_strat_drafts.specs.Drafts.{Makes}
use Rattle.tm_strat_drafts.specs.Moves.{good_now}
use Rattle.tm_strat_drafts.proofs.Making.{block_more, move_made, within_here}
use Rattle.tm_strat_drafts.proofs.building.plain.Goals as goal

pub returns-clause-makes : goal.returns-clause-makes
returns-clause-makes g c =
    subst (λ (at : ℕ). Makes (g.M.Moves.setting c.args.moves.now).game (g.M.Moves.setting c.good.new.self).ids
    c.args.drafts.now.items c.put.new.drafts.items at (good_now (g.M.Moves.setting c.args.moves.now).game
    c.args.choice))
    (sym c.in_ok-at.ensures.at)
    (move_made c.args.drafts.now.items c.put.new.drafts.items c.args.choice c.in_ok-good.good
    (good_now (g.M.Moves.setting c.args.moves.now).game c.args.choice) c.requires.drafts c.good.ensures.follows.extends
    c.in_ok-at.ensures.few c.in_ok-good.ensures.value (within_here _ _) c.in_ok-at.ensures.items)

pub returns-clause-blocks : goal.returns-clause-blocks
returns-clause-blocks g c = block_more c.args.drafts.now.items c.put.new.drafts.items _ c.in_ok-at.ensures.items
