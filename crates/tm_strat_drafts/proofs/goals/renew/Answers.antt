use Rattle.std.proofs.Common.{ℕ, ◌+◌, ◌∙◌, ap, length, subst, arith}
use Rattle.tm_strat_drafts.specs.Drafts.{AreDrafts, blocks_of}
use Rattle.tm_strat_drafts.specs.Moves.{Game}
use Rattle.tm_strat_drafts.proofs.Following.{follows_here, follows_then}
use Rattle.tm_strat_drafts.proofs.Making.{drafts_at}
use Rattle.tm_strat_drafts.proofs.Renewing.{all_copied, blocks_count, copied_more, count_blocks, fits_on, fits_read}
use Rattle.tm_strat_drafts.proofs.Renewing.{none_copied, none_drafts}
use Rattle.tm_strat_drafts.proofs.goals.renew.Goals as goal

pub loop-at-init : goal.loop-at-init
loop-at-init g c = record {
  follows = follows_here (g.M.Moves.setting c.args.moves.now);
  drafts = none_drafts (g.M.Moves.setting c.args.moves.now).game (g.M.Moves.setting c.args.moves.now).ids
      c.new-renewed.result.items c.new-renewed.ensures.items;
  count = ap (λ xs. length xs) c.new-renewed.ensures.items;
  copied = none_copied c.args.drafts.now (blocks_of c.new-renewed.result.items);
}

pub again-requires-clause-drafts : goal.again-requires-clause-drafts
again-requires-clause-drafts g c =
    drafts_at c.loop-at.invariant.follows.game c.loop-at.invariant.drafts

pub again-requires-clause-fits : goal.again-requires-clause-fits
again-requires-clause-fits g c =
    fits_on _ _ c.loop-at.invariant.follows.game
    (fits_read _ c.args.drafts.now c.loop-at.renewed.items c.loop-at.at c.block_at-block.result c.requires.earlier
    c.loop-at-test.true c.block_at-block.ensures c.loop-at.invariant.count)

pub loop-at-preserved : goal.loop-at-preserved
loop-at-preserved g c =
    let inv = c.loop-at.invariant in
    let again = c.in_ok-again.ensures in record {
      follows = follows_then inv.follows c.again.ensures.follows;
      drafts = subst (λ (q : Game). AreDrafts q (g.M.Moves.setting c.again.new.moves).ids c.again.new.drafts.items)
          inv.follows.game again.drafts;
      count = count_blocks c.loop-at.renewed.items c.again.new.drafts.items c.block_at-block.result again.blocks
          ∙ ap (λ (n : ℕ). n + 1) inv.count;
      copied = copied_more c.args.drafts.now (blocks_of c.loop-at.renewed.items) (blocks_of c.again.new.drafts.items)
          c.loop-at.at c.block_at-block.result (blocks_count c.loop-at.renewed.items inv.count) c.loop-at-test.true
          c.block_at-block.ensures again.blocks inv.copied;
    }

pub returns-clause-stay : goal.returns-clause-stay
returns-clause-stay g c =
    all_copied c.args.drafts.now (blocks_of c.loop-at.renewed.items) c.loop-at.at
    (omega (arith, c.loop-at-test.false, c.loop-at.auto.at-end)) c.loop-at.invariant.copied
