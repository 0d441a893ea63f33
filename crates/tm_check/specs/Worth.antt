-- What terms are worth where their inputs have values.
use Rattle.std.specs.Prelude.{◌≡◌, ℕ, List, slice_index}
use Rattle.tm_cir.specs.declared.block.Comparison.{Comparison}
use Rattle.tm_cir.specs.Meaning.{comparison_value}
use Rattle.tm_flat.specs.Steps.{IsTerm}
use Rattle.tm_term.specs.declared.term.TermId.{TermId}
use Rattle.tm_term.specs.Table.{Table}
use Rattle.tm_term.specs.Value.{AreInputs, value_of}

-- a term of this width is worth a function of the values of the inputs
pub record IsWorth (t : Table) (width : ℕ) (value : List ℕ → ℕ) (id : TermId) : Type 0 where
  pub term : IsTerm t width id
  pub worth : (values : List ℕ) → AreInputs t values → value_of t values id ≡ value values

-- a term is 1 where two numbers compare so, and else 0
abbrev pub AreCompared : Table → Table → Comparison → TermId → TermId → TermId → Type 0
AreCompared t u comparison a b id =
    (f g : List ℕ → ℕ) → IsWorth t 64 f a → IsWorth t 64 g b →
    IsWorth u 1 (λ values. comparison_value comparison (f values) (g values)) id

-- a term of 64 bits has the value of an input
abbrev pub IsInputNumber : Table → ℕ → TermId → Type 0
IsInputNumber t input id = IsWorth t 64 (λ values. slice_index values input) id
