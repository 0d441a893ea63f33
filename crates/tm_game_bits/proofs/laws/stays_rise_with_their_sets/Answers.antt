use Rattle.tm_game_bits.proofs.Rising.{calm_rises, stays_rise}
use Rattle.tm_game_bits.proofs.laws.stays_rise_with_their_sets.Goals as goal

pub returns-clause-stays : goal.returns-clause-stays
returns-clause-stays c = λ g a b wider v stays. stays_rise a b wider g v stays

pub returns-clause-calm : goal.returns-clause-calm
returns-clause-calm c = λ g a b wider v calm. calm_rises a b wider g v calm
