use Rattle.std.proofs.Common.{◌≡◌, refl}
use Rattle.tm_sem.proofs.CertifiedRounds.{certified_is_good}
use Rattle.tm_sem.proofs.certified_drivers_are_good.Goals as goal

pub returns : goal.returns
returns c =
    λ d answers cert is meets.
    certified_is_good d (λ s g move. answers s g ≡ move) cert is (λ s g turn. (answers s g, refl)) meets
