use Rattle.tm_flat_pool.specs.Predicates.{pool}
use Rattle.tm_refine.proofs.SearchSteps.{told_apart}
use Rattle.tm_refine.proofs.searching.add.Goals as goal

pub tells-requires : goal.tells-requires
tells-requires g c =
    let parted = c.requires.parted in
    record {
      apart = (
        parted.0,
        parted.1,
        parted.2.one,
        parted.2.other,
        told_apart parted.0 (pool parted.0) c.args.sided.now.tracked.items _ _ parted.2
            (g.met.A.Arena.separates c.args.sided.now.arena parted.0 parted.1),
      );
    }
