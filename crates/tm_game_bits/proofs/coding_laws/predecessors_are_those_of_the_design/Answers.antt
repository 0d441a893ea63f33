use Rattle.tm_game_bits.proofs.Predecessors.{calm_is, forced_is, legal_is, stays_is}
use Rattle.tm_game_bits.proofs.coding_laws.predecessors_are_those_of_the_design.Goals as goal

pub returns-clause-calm : goal.returns-clause-calm
returns-clause-calm c = calm_is

pub returns-clause-stays : goal.returns-clause-stays
returns-clause-stays c = stays_is

pub returns-clause-forced : goal.returns-clause-forced
returns-clause-forced c = forced_is

pub returns-clause-moves : goal.returns-clause-moves
returns-clause-moves c = legal_is
