use Rattle.std.proofs.Common.{arith}
use Rattle.tm_dd.proofs.Ranks.{deeper_depth}
use Rattle.tm_ddops.proofs.walk.branch.Goals as goal

pub returns-then-eq-clause-deep : goal.returns-then-eq-clause-deep
returns-then-eq-clause-deep g c =
    omega (
      arith,
      deeper_depth c.args.store.now c.requires.reduced.ranks c.args.level c.requires.level c.args.lo
          c.requires.lo_deeper,
    )
