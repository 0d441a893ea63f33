-- Tests, and what they tell.
use Rattle.std.proofs.Common.{◌≡◌, ℕ, ◌<◌, Bool, false, rules, subst, arith}
use Rattle.std.specs.Prelude.{◌↔◌, IsTrue, nat_eq, nat_lt}
use Rattle.std.proofs.lemmas.Bool.Decides.{nat_tests}

pub tested : (m n : ℕ) → IsTrue (nat_eq m n) → m ≡ n
tested m n test = search rules

pub test_of : (m n : ℕ) → m ≡ n → IsTrue (nat_eq m n)
test_of m n same = search rules

pub below_tested : (m n : ℕ) → IsTrue (nat_lt m n) → m < n
below_tested m n test = search rules

pub test_of_below : (m n : ℕ) → m < n → IsTrue (nat_lt m n)
test_of_below m n less = search rules

pub not_below : (m n : ℕ) → nat_lt m n ≡ false → m < n → ⊥
not_below m n test less = grind (arith, nat_tests)

not_true : IsTrue false → ⊥
not_true test = search rules

-- what is not, is where nothing is true
pub refused : {A : Type 0} → (A → ⊥) → IsTrue false ↔ A
refused none = (λ test. absurd (not_true test), λ a. absurd (none a))

-- what a test tells that failed is not
pub failed : {A : Type 0} (b : Bool) → IsTrue b ↔ A → b ≡ false → A → ⊥
failed b tells is a = not_true (subst IsTrue is (tells.1 a))
