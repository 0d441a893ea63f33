use Rattle.tm_cert.specs.Written.{rank_data}
use Rattle.tm_cert.proofs.Writing.{written_all, written_more}
use Rattle.tm_cert.proofs.write.ranks_value.Goals as goal

pub loop-rank-preserved : goal.loop-rank-preserved
loop-rank-preserved c =
    written_more rank_data c.args.ranks.now c.loop-rank.rank-index _ c.loop-rank.items.items _ _
    c.loop-rank.invariant c.loop-rank-test.true c.in_ok-rank_value.ensures c.in_ok-push.ensures.items

pub returns : goal.returns
returns c =
    written_all rank_data c.args.ranks.now c.loop-rank.rank-index c.loop-rank.items c.loop-rank.invariant
    c.loop-rank-test.false
