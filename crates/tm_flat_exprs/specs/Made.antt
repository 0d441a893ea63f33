-- What is made in a table of terms: a term of a width, by its value over each later table and all values of the inputs.
use Rattle.std.specs.Prelude.{◌≡◌, ℕ, Bool, Option, List, IfSome}
use Rattle.std.specs.Option.{option_map_or}
use Rattle.tm_base.specs.Arithmetic.{is_nonzero}
use Rattle.tm_term.specs.declared.term.TermId.{TermId}
use Rattle.tm_term.specs.Table.{Table, IsSound}
use Rattle.tm_term.specs.Value.{AreInputs, value_of, Extends}
use Rattle.tm_flat.specs.Steps.{IsTerm}

-- the value of a term that may be wanting, 0 where it is
abbrev pub value_at : Table → List ℕ → Option TermId → ℕ
value_at u v id = option_map_or (value_of u v) id 0

-- whether a truth holds that may be wanting, which then never does
abbrev pub truth_at : Table → List ℕ → Option TermId → Bool
truth_at u v id = is_nonzero (value_at u v id)

-- a truth that may be wanting
abbrev pub IsTruth : Table → Option TermId → Type 0
IsTruth t id = IfSome id (λ i. IsTerm t 1 i)

-- a term of a width was made, whose value is this function of the values of others
pub record Makes (t n : Table) (width : ℕ) (id : TermId) (f : Table → List ℕ → ℕ) : Type 0 where
  pub grown : Extends t n
  pub sound : IsSound n
  pub term : IsTerm n width id
  pub value : (u : Table) → Extends n u → (v : List ℕ) → AreInputs u v → value_of u v id ≡ f u v

-- a truth was made, which holds where this function of the values of others does
pub record MakesTruth (t n : Table) (id : Option TermId) (f : Table → List ℕ → Bool) : Type 0 where
  pub grown : Extends t n
  pub sound : IsSound n
  pub term : IsTruth n id
  pub truth : (u : Table) → Extends n u → (v : List ℕ) → AreInputs u v → truth_at u v id ≡ f u v
