use Rattle.std.proofs.Common.{◌<◌, arith}
use Rattle.tm_dd.specs.declared.node.TheConstants.{FALSE, TRUE}
use Rattle.tm_dd.specs.Table.{depth_of, rank_of}
use Rattle.tm_ddops.proofs.Facts.{same_ids}
use Rattle.tm_reorder.proofs.Loading.{value_above}
use Rattle.tm_reorder.proofs.moving.level_above.Goals as goal

pub returns-then-rank-depth-2 : goal.returns-then-rank-depth-2
returns-then-rank-depth-2 c =
    let s = c.args.store.now in
    let n = c.node-node.result in
    let lo_above : rank_of s n.level < depth_of s c.args.lo =
    omega (arith, c.rank-rank.ensures.value, c.depth.ensures.value, c.if-rank-depth.true) in
    let hi_above : rank_of s n.level < depth_of s c.args.hi =
    omega (arith, c.rank-rank.ensures.value, c.depth-then-rank-depth.ensures.value, c.if-rank-depth-2.true) in
    value_above s c.args.bit c.args.lo c.args.hi n c.node-node.ensures.is_node
    (same_ids n.lo FALSE c.if-eq.ensures) (same_ids n.hi TRUE c.if-eq-2.ensures) lo_above hi_above
