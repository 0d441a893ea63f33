use Rattle.tm_solve_exact.proofs.Whole.{reduced_of}
use Rattle.tm_refine.proofs.sets.tell.Goals as goal

pub returns : goal.returns
returns c =
    reduced_of c.args.game.now c.manager.result.now c.manager.ensures c.store-store.ensures.manager
