-- Which choices a step lists: of all that it might have those on which the values of its terms depend.
use Rattle.std.specs.Prelude.{◌≡◌, ℕ, List, All, Contains}
use Rattle.tm_flat.specs.Flat.{StepTerms}
use Rattle.tm_game_bits.specs.Functions.{Assignment}
use Rattle.tm_term.specs.declared.term.TermId.{TermId}

-- two assignments differ at most at choices that are not listed
abbrev pub AgreeButUnlisted : List ℕ → List ℕ → Assignment → Assignment → Type 0
AgreeButUnlisted choices listed v w = (k : ℕ) → (Contains choices k → Contains listed k) → v k ≡ w k

-- a number depends on no choice that is not listed
abbrev pub ReadsListed : List ℕ → List ℕ → (Assignment → ℕ) → Type 0
ReadsListed choices listed number = (v w : Assignment) → AgreeButUnlisted choices listed v w → number v ≡ number w

-- some of the choices are listed, and the values of the terms of a step depend on no others
pub record ListsChoices (choices listed : List ℕ) (value : Assignment → TermId → ℕ) (terms : StepTerms) : Type 0 where
  pub among : (k : ℕ) → Contains listed k → Contains choices k
  pub legal : ReadsListed choices listed (λ v. value v terms.legal)
  pub error : ReadsListed choices listed (λ v. value v terms.error)
  pub next : All (λ (id : TermId). ReadsListed choices listed (λ v. value v id)) terms.next
