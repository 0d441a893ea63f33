use Rattle.std.proofs.Common.{arith}
use Rattle.tm_ddops.proofs.Choices.{choice_level-open}
use Rattle.tm_ddops.proofs.choice.Choice.cofactors.Goals as goal

pub cofactors-requires-clause-below : goal.cofactors-requires-clause-below
cofactors-requires-clause-below c = omega (
  arith,
  choice_level-open c.args.store.now c.requires.reduced c.args.self c.requires.known c.requires.open,
  c.requires.level,
)

pub cofactors-requires-2-clause-below : goal.cofactors-requires-2-clause-below
cofactors-requires-2-clause-below c = omega (
  arith,
  choice_level-open c.args.store.now c.requires.reduced c.args.self c.requires.known c.requires.open,
  c.requires.level,
)

pub cofactors-requires-3-clause-below : goal.cofactors-requires-3-clause-below
cofactors-requires-3-clause-below c = omega (
  arith,
  choice_level-open c.args.store.now c.requires.reduced c.args.self c.requires.known c.requires.open,
  c.requires.level,
)
