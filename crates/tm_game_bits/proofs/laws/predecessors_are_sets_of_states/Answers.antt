use Rattle.tm_game_bits.proofs.StateSets.{calm_of_state, forced_of_state, moves_of_state, stays_of_state}
use Rattle.tm_game_bits.proofs.laws.predecessors_are_sets_of_states.Goals as goal

pub returns-clause-moves : goal.returns-clause-moves
returns-clause-moves c = λ count g over a reads step over_step v w state arguments move.
    moves_of_state count g over a reads v w state step over_step arguments move

pub returns-clause-calm : goal.returns-clause-calm
returns-clause-calm c = λ count g over a reads v w state calm. calm_of_state count g over a reads v w state calm

pub returns-clause-stays : goal.returns-clause-stays
returns-clause-stays c = λ count g over a reads v w state stays. stays_of_state count g over a reads v w state stays

pub returns-clause-forced : goal.returns-clause-forced
returns-clause-forced c = λ count g over a reads v w state forced. forced_of_state count g over a reads v w state forced
