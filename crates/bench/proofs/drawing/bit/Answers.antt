use Rattle.tm_game.proofs.MadeSets.{true_set}
use Rattle.bench.proofs.drawing.bit.Goals as goal

pub returns-in-None-clause-set : goal.returns-in-None-clause-set
returns-in-None-clause-set c = true_set c.args.game.now
