use Rattle.std.proofs.Common.{◌≡◌, ◌≢◌, ℕ, ◌+◌, ◌<◌, ◌≤◌, get_or, take, None, ap, arith}
use Rattle.tm_dd.specs.declared.node.TheConstants.{FALSE}
use Rattle.tm_dd.specs.Table.{rank_of}
use Rattle.tm_dd.proofs.Ranks.{rank_of-below}
use Rattle.tm_ddops.specs.declared.change.Change.TheVariants.{Becomes}
use Rattle.tm_ddops.specs.Changed.{change_of}
use Rattle.tm_ddops.proofs.ChangeLists.{none_more}
use Rattle.tm_ddops.proofs.change.depth.Goals as goal
use Rattle.tm_ddops.proofs.change.depth.Goals.{then-depth-rank+then-rank-levels, else-depth-rank, else-depth-rank-via-then-depth-rank+else-rank-levels, else-depth-rank-via-else-depth-rank}

pub loop-level-preserved : goal.loop-level-preserved
loop-level-preserved c =
    let s = c.args.store.now in
    let i = c.loop-level.level-index in
    let l = (get_or c.args.changes.now i (0, Becomes FALSE)).0 in
    let was = c.loop-level.invariant in
    let more : (k : ℕ) → k < s.levels → c.loop-level.depth ≤ rank_of s k → (rank_of s l ≢ rank_of s k) →
    change_of (take (i + 1) c.args.changes.now) k ≡ None =
    λ k below deep apart. none_more c.args.changes.now i (0, Becomes FALSE) c.loop-level-test.true k
    (was.stay k below deep) (λ same. apart (ap (rank_of s) same)) in
    elim c.if-depth-rank.branch [
      | then-depth-rank+then-rank-levels w ↦ record {
        within = omega (arith, w.depth-is, w.if-rank-levels.true, c.levels-levels.ensures.value);
        stay = λ k below deep.
            more k below
            (omega (arith, deep, w.depth-is, w.if-depth-rank.true))
            (λ same. omega (arith, deep, w.depth-is, same, c.rank-rank.ensures.value));
      }
      | else-depth-rank w ↦ record {
        within = omega (arith, w.depth-is, was.within);
        stay = λ k below deep. elim w.else-depth-rank.branch [
          | else-depth-rank-via-then-depth-rank+else-rank-levels x ↦
              more k below (omega (arith, deep, w.depth-is))
              (λ same. omega (
                arith,
                same,
                c.rank-rank.ensures.value,
                x.if-rank-levels.false,
                c.levels-levels.ensures.value,
                rank_of-below s c.rank-rank.ensures.reduced.ranks k below,
              ))
          | else-depth-rank-via-else-depth-rank x ↦
              more k below (omega (arith, deep, w.depth-is))
              (λ same. omega (arith, deep, w.depth-is, x.if-depth-rank.false, same, c.rank-rank.ensures.value))
        ];
      }
    ]
