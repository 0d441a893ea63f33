-- Lists of which a test tells whether they are empty.
use Rattle.std.proofs.Common.{◌≡◌, ◌==◌, ℕ, suc, Bool, true, false, List, [], ◌∷◌, length, refl, sym, ◌∙◌, arith}
use Rattle.std.proofs.lemmas.Bool.Decides.{nat_tests}
use Rattle.tm_sem.specs.Run.{Ending, at_end, blocked}

module _ {A : Type 0} (xs : List A) (b : Bool) (test : b ≡ (length xs == 0)) where
  pub empty_so : b ≡ true → xs ≡ []
  empty_so is = by xs (sym test ∙ is)
    where
      by : (xs : List A) → (length xs == 0) ≡ true → xs ≡ []
      by [] is = refl
      by (x ∷ xs) is = absurd (let no : (suc (length xs) == 0) ≡ false = grind (arith, nat_tests) in cc)

  pub filled_so : b ≡ false → xs ≡ [] → ⊥
  filled_so is none = by xs (sym test ∙ is) none
    where
      by : (xs : List A) → (length xs == 0) ≡ false → xs ≡ [] → ⊥
      by [] is none = cc
      by (x ∷ xs) is none = cc

-- where choices are left, an end has no outcome
pub left_over : (cs : List ℕ) → (cs ≡ [] → ⊥) → (e : Ending) → at_end cs e ≡ blocked
left_over [] filled e = absurd (filled refl)
left_over (c ∷ cs) filled e = refl
