use Rattle.tm_game.proofs.Growing.{grows_then, set_kept}
use Rattle.test_game.proofs.states.sets.longer.Goals as goal

pub joined-requires-clause-before : goal.joined-requires-clause-before
joined-requires-clause-before c = set_kept _ _ c.both.ensures.grows c.args.before c.requires

pub returns-clause-grows : goal.returns-clause-grows
returns-clause-grows c = grows_then _ _ _ c.both.ensures.grows c.joined.ensures.grows
