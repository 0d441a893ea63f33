-- The values of parameters and locals, which are found by the derived test.
use Rattle.std.proofs.Common.{◌≡◌, ℕ, Bool, true, false, Option, Some, List, cond, refl, sym, ap, ◌∙◌}
use Rattle.std.specs.Prelude.{unwrap_or, if◌then◌else◌}
use Rattle.std.specs.Map.{lookup}
use Rattle.tm_design.specs.declared.step_cells.StepCell.{StepCell}
use Rattle.tm_design.specs.contracts.step_cells.StepCellPartialEq.TheImpl.{eq-value}
use Rattle.tm_design.specs.StepCells.{same_cell}
use Rattle.tm_plain_exprs.specs.Kept.{kept_value}
use Rattle.tm_design.proofs.StepCells.{derived_test}

pub kept_found : (entries : List (StepCell × ℕ)) (cell : StepCell) →
    unwrap_or (lookup (eq-value.it cell) entries) 0 ≡ kept_value entries cell
kept_found entries cell =
    let same : eq-value.it cell ≡ same_cell cell = (λ i other. derived_test cell other i) in
    ap (λ t. unwrap_or (lookup t entries) 0) same

put_or_kept : (t : Bool) (value : ℕ) (o : Option ℕ) →
    unwrap_or (cond t (Some value) o) 0 ≡ (if t then value else unwrap_or o 0)
put_or_kept true value o = refl
put_or_kept false value o = refl

-- after a value was put into one of them
pub kept_after : (old new : List (StepCell × ℕ)) (cell other : StepCell) (value : ℕ) →
    lookup (eq-value.it other) new ≡ cond (eq-value.it cell other) (Some value) (lookup (eq-value.it other) old) →
    kept_value new other ≡ (if same_cell cell other then value else kept_value old other)
kept_after old new cell other value updates =
    sym (kept_found new other)
    ∙ ap (λ o. unwrap_or o 0) updates
    ∙ put_or_kept (eq-value.it cell other) value (lookup (eq-value.it other) old)
    ∙ ap (λ t. if t then value else unwrap_or (lookup (eq-value.it other) old) 0)
    (derived_test cell other)
    ∙ ap (λ n. if same_cell cell other then value else n) (kept_found old other)
