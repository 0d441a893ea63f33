-- Marks that levels get once.
-- allowed, marks and after mark levels, listed and longer are lists of levels.
use Rattle.std.specs.Prelude.{◌≡◌, ◌↔◌, ◌⊎◌, ℕ, Bool, true, List, Contains, length}
use Rattle.tm_ddops.specs.Quantified.{is_marked_level}

-- marks are those that there were and those of allowed ones among some levels; and of these the ones that had no mark
-- are put to a list
pub record AreMarked (allowed : List Bool) (levels : List ℕ) (marks : List Bool) (listed : List ℕ) (after : List Bool)
    (longer : List ℕ) : Type 0 where
  pub count : length after ≡ length marks
  pub marks_are : (k : ℕ) → (is_marked_level after k ≡ true) ↔
      ((is_marked_level marks k ≡ true) ⊎ (Contains levels k × (is_marked_level allowed k ≡ true)))
  pub listed_are : (k : ℕ) → Contains longer k ↔ (Contains listed k ⊎
      (Contains levels k × (is_marked_level allowed k ≡ true) × ¬ (is_marked_level marks k ≡ true)))

-- a list has the marked levels
abbrev pub AreListed : List Bool → List ℕ → Type 0
AreListed marks levels = (k : ℕ) → Contains levels k ↔ (is_marked_level marks k ≡ true)
