-- Truths by number.
use Rattle.std.specs.Prelude.{◌≡◌, ℕ, Option, None, Some, List, slice_get, unwrap_or}
use Rattle.tm_term.specs.declared.term.TermId.{TermId}
use Rattle.tm_term.specs.Table.{Table}
use Rattle.tm_flat_exprs.specs.Made.{IsTruth}

-- the truth of a number, none past the end
abbrev pub numbered_truth : List (Option TermId) → ℕ → Option TermId
numbered_truth truths n = unwrap_or (slice_get truths n) None

-- each is a truth, or wanting
pub record AreTruths (t : Table) (truths : List (Option TermId)) : Type 0 where
  pub each : (n : ℕ) (id : Option TermId) → slice_get truths n ≡ Some id → IsTruth t id
