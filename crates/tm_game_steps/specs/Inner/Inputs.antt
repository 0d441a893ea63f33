-- The first inputs as terms.
use Rattle.std.specs.Prelude.{◌≡◌, ℕ, ◌≤◌, List, length, map, take}
use Rattle.tm_game_steps.specs.Changes.{AreNext}
use Rattle.tm_term.specs.declared.term.TermId.{TermId}
use Rattle.tm_term.specs.Table.{Table}
use Rattle.tm_term.specs.Value.{value_of}

-- a term for each of so many first inputs, which is the input
pub record AreInputTerms (t : Table) (count : ℕ) (ids : List TermId) : Type 0 where
  pub long : length ids ≡ count
  pub next : AreNext t ids
  pub values : (values : List ℕ) → count ≤ length values → map (value_of t values) ids ≡ take count values
