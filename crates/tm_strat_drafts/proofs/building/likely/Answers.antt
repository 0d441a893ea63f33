use Rattle.std.proofs.Common.{ℕ, sym, ◌∙◌, subst}
use Rattle.tm_solve.proofs.Following.{extends_then, is_kept}
use Rattle.tm_strat_drafts.specs.Drafts.{Makes}
use Rattle.tm_strat_drafts.proofs.Making.{good_at, lies_good, move_made}
use Rattle.tm_strat_drafts.proofs.building.likely.Goals as goal

pub returns-then-branch-clause-makes : goal.returns-then-branch-clause-makes
returns-then-branch-clause-makes g c =
    let to = c.likely_move.ensures in
    let all = extends_then to.extends c.good.ensures.follows.extends in
    let is = good_at to.game c.in_ok-good.ensures.value in
    subst (λ (at : ℕ). Makes (g.M.Moves.setting c.args.moves.now).game (g.M.Moves.setting c.lies_in.new.moves).ids
    c.args.drafts.now.items c.put.new.drafts.items at ((g.M.Moves.setting c.args.moves.now).ids.means c.args.care))
    (sym c.in_ok-at.ensures.at)
    (move_made c.args.drafts.now.items c.put.new.drafts.items c.in_ok-choice.choice c.in_ok-good.good
    ((g.M.Moves.setting c.args.moves.now).ids.means c.args.care) c.requires.drafts
    (extends_then all c.lies_in.ensures.follows.extends) c.in_ok-at.ensures.few
    (is_kept c.lies_in.ensures.follows.extends is)
    (lies_good (c.good.ensures.follows.game ∙ to.game) all c.requires.known
    (c.in_ok-lies_in.ensures.value c.if-branch.true) is)
    c.in_ok-at.ensures.items)
