-- How high the levels stand on which the values of terms depend.
use Rattle.std.specs.Prelude.{◌≡◌, ◌<◌, ℕ, List, Contains, length, slice_index}
use Rattle.tm_blast.specs.Bits.{input_values}
use Rattle.tm_game_bits.specs.Functions.{Assignment}
use Rattle.tm_game_steps.specs.Setting.{Setting, choices_of}
use Rattle.tm_term.specs.declared.term.TermId.{TermId}
use Rattle.tm_term.specs.Table.{Table, count_of}
use Rattle.tm_term.specs.Value.{value_of}

-- the value of a term depends on levels below a number alone
abbrev pub ReadsBelow : Table → List (List ℕ) → TermId → ℕ → Type 0
ReadsBelow t levels id above =
    (v w : Assignment) → ((k : ℕ) → k < above → v k ≡ w k) →
    value_of t (input_values levels v) id ≡ value_of t (input_values levels w) id

-- so many first terms have such a number each
pub record AreReadingsBelow (t : Table) (levels : List (List ℕ)) (count : ℕ) (reads : List ℕ) : Type 0 where
  pub long : length reads ≡ count
  pub each : (id : TermId) → id.0 < count → ReadsBelow t levels id (slice_index reads id.0)

-- all terms have one
abbrev pub AreReadings : Table → List (List ℕ) → List ℕ → Type 0
AreReadings t levels reads = AreReadingsBelow t levels (count_of t) reads

-- of the levels of choices these are the ones below a number, if not more
pub record AreChoicesBelow (x : Setting) (above : ℕ) (listed : List ℕ) : Type 0 where
  pub among : (k : ℕ) → Contains listed k → Contains (choices_of x) k
  pub all : (k : ℕ) → Contains (choices_of x) k → k < above → Contains listed k
