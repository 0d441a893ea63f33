-- Paths that are state variables.
use Rattle.std.proofs.Common.{◌≡◌, ℕ, Option, None, Some, List, refl}
use Rattle.std.specs.Option.{option_map}
use Rattle.tm_syntax.specs.Scopes.Context.{Slot}
use Rattle.tm_syntax.specs.Design.Atoms.{resolved_cell}
use Rattle.tm_syntax.specs.Design.Cells.{Cell, in_step}
use Rattle.tm_syntax.specs.Design.Scope.{Scope}
use Rattle.tm_flat_pool.specs.Inner.Marks.{variable_in}

-- what lives for one step is none
pub no_variable : (scope : Scope) (found : Option Slot) (c : Cell) (name : List ℕ) →
    option_map (λ (s : Slot). in_step scope s.name s.ty) found ≡ Some c →
    None ≡ variable_in (resolved_cell (option_map (λ (s : Slot). in_step scope s.name s.ty) found) name)
no_variable scope None c name is = absurd (cc)
no_variable scope (Some s) c name is = refl
