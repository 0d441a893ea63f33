-- What is found where an option has something, and what tests tell.
use Rattle.std.proofs.Common.{◌≡◌, ℕ, ◌<◌, Bool, true, false, nat_lt, Some, refl, rules}
use Rattle.std.specs.Bool.{then_some}

-- what is there under a test passed it
pub then_some_is : {X : Type 0} (b : Bool) (x y : X) → then_some b x ≡ Some y → (b ≡ true) × (x ≡ y)
then_some_is true x y is = let same : x ≡ y = cc in (refl, same)
then_some_is false x y is = absurd (cc)

pub below_tested : (m n : ℕ) → nat_lt m n ≡ true → m < n
below_tested m n test = search rules
