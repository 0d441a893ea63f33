use Rattle.std.proofs.Common.{refl}
use Rattle.tm_game_bits.specs.Functions.{outside}
use Rattle.tm_game_bits.proofs.Either.{forced_or_stays, not_forced}
use Rattle.tm_game_bits.proofs.laws.states_are_forced_in_or_stay_out.Goals as goal

pub returns-clause-either : goal.returns-clause-either
returns-clause-either c = λ g into v valid. forced_or_stays (outside into) into (λ w. refl) g v valid

pub returns-clause-not_both : goal.returns-clause-not_both
returns-clause-not_both c = λ g into v forced stays. not_forced (outside into) into (λ w. refl) g v stays forced
