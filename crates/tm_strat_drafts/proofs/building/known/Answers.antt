use Rattle.std.proofs.Common.{refl, sym}
use Rattle.tm_strat_drafts.proofs.Begun.{made_at}
use Rattle.tm_strat_drafts.proofs.Following.{follows_here, follows_then}
use Rattle.tm_strat_drafts.proofs.Making.{drafts_on}
use Rattle.tm_strat_drafts.proofs.building.known.Goals as goal

pub loop-at-init : goal.loop-at-init
loop-at-init g c = follows_here (g.M.Moves.setting c.args.moves.now)

pub loop-at-preserved : goal.loop-at-preserved
loop-at-preserved g c = follows_then c.loop-at.invariant c.serves.ensures.follows

pub serves-requires-clause-known : goal.serves-requires-clause-known
serves-requires-clause-known g c = c.loop-at.invariant.extends.known c.args.care c.requires.known

pub serves-requires-clause-drafts : goal.serves-requires-clause-drafts
serves-requires-clause-drafts g c =
    let inv = c.loop-at.invariant in drafts_on inv.game inv.extends refl c.requires.drafts

pub returns-then-branch-clause-found : goal.returns-then-branch-clause-found
returns-then-branch-clause-found g c =
    let inv = c.loop-at.invariant in
    made_at (sym inv.game) (inv.extends.same c.args.care c.requires.known)
    (c.in_ok-serves.ensures.made c.if-branch.true)
