use Rattle.tm_refine.proofs.PoolKeeps.{keeps}
use Rattle.tm_refine.proofs.parts.leaves_out.Goals as goal

pub returns-clause-kept : goal.returns-clause-kept
returns-clause-kept c =
    keeps c.args.game.now c.has_initial_outside-out.new.game c.requires.can c.has_initial_outside-out.ensures.grows
    c.tell.ensures
