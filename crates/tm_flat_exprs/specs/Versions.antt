-- The versions of the terms of parameters and locals, and the values that these have in them.
use Rattle.std.specs.Prelude.{◌≡◌, ℕ, true, List, [], ◌∷◌, ◌++◌, All, slice_index, if◌then◌else◌}
use Rattle.tm_base.specs.Arithmetic.{choice}
use Rattle.tm_term.specs.declared.term.TermId.{TermId}
use Rattle.tm_term.specs.Table.{Table}
use Rattle.tm_term.specs.Value.{value_of}
use Rattle.tm_flat.specs.Steps.{IsTerm}
use Rattle.tm_design.specs.declared.step_cells.StepCell.{StepCell}
use Rattle.tm_design.specs.StepCells.{same_cell}
use Rattle.tm_flat_exprs.specs.declared.memory.versions.Version.{Version}
use Rattle.tm_flat_exprs.specs.declared.memory.versions.Version.TheVariants.{Put, Choice}

-- the last of some numbers, or this one if there are none
abbrev pub last_number : ℕ → List ℕ → ℕ
last_number n [] = n
last_number n (m ∷ ms) = last_number m ms

-- the value of a parameter or local in a version, by its values in those before it and in the last of them
abbrev pub next_value : Table → List ℕ → StepCell → List ℕ → ℕ → Version → ℕ
next_value u v cell before last (Put found id) = if same_cell found cell then value_of u v id else last
next_value u v cell before last (Choice guard a b) =
    choice (value_of u v guard) (slice_index before a) (slice_index before b)

-- its values in some versions, behind those in the versions before them
abbrev pub values_behind : Table → List ℕ → StepCell → List ℕ → List Version → List ℕ
values_behind u v cell before [] = before
values_behind u v cell before (w ∷ ws) =
    values_behind u v cell (before ++ next_value u v cell before (last_number 0 before) w ∷ []) ws

-- its values in all versions, from the one in which none has a term
abbrev pub version_values : Table → List ℕ → StepCell → List Version → List ℕ
version_values u v cell ws = values_behind u v cell (0 ∷ []) ws

-- its value in the last version; where it got no term it has the value 0
abbrev pub step_value : Table → List ℕ → List Version → StepCell → ℕ
step_value u v ws cell = last_number 0 (version_values u v cell ws)

-- the term of a version has so many bits, if it is one of this parameter or local, and a truth has one
abbrev pub HasWidth : Table → StepCell → ℕ → Version → Type 0
HasWidth t cell width (Put found id) = same_cell found cell ≡ true → IsTerm t width id
HasWidth t cell width (Choice guard _ _) = IsTerm t 1 guard

-- a term is that of the last version, where no choice was met on the way back to it
pub record IsLatest (ws : List Version) (cell : StepCell) (zero id : TermId) : Type 0 where
  pub value : (u : Table) (v : List ℕ) → value_of u v zero ≡ 0 → value_of u v id ≡ step_value u v ws cell
  pub width : (t : Table) (w : ℕ) → IsTerm t w zero → All (HasWidth t cell w) ws → IsTerm t w id
