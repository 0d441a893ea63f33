use Rattle.std.proofs.Common.{◌≡◌, Some, sym, ap, ◌∙◌, subst}
use Rattle.std.specs.Option.{option_and_then}
use Rattle.tm_syntax.specs.Scopes.Names.{last_name}
use Rattle.tm_syntax.specs.Design.Atoms.{resolved_cell}
use Rattle.tm_syntax.specs.Design.Cells.{Cell}
use Rattle.tm_scope.specs.Cells.{IsCellNumber, cell_at, scope_of, slot_in}
use Rattle.tm_scope.specs.declared.cells.site_body.CellNumber.TheVariants.{State, Step}
use Rattle.tm_flat_pool.specs.Inner.Marks.{variable_in}
use Rattle.tm_flat_pool.proofs.VariablePaths.{no_variable}
use Rattle.tm_flat_pool.proofs.variables.path_variable.Goals as goal

pub returns-in-None : goal.returns-in-None
returns-in-None c = λ d over.
    let x = c.args.scope.now.tables in
    let at = c.args.scope.now.at in
    ap (λ o. variable_in (resolved_cell o (last_name c.args.path.now)))
    (ap (option_and_then (cell_at x at)) (sym c.in-None.is) ∙ c.cell.ensures.cell d over)

pub returns-in-Some-State : goal.returns-in-Some-State
returns-in-Some-State c = λ d over.
    let x = c.args.scope.now.tables in
    let at = c.args.scope.now.at in
    let found : c.cell.result ≡ Some (State c.in-Some-State.number) = cc in
    ap (λ o. variable_in (resolved_cell o (last_name c.args.path.now)))
    (ap (option_and_then (cell_at x at)) (sym found) ∙ c.cell.ensures.cell d over)

pub returns-in-Some-Step : goal.returns-in-Some-Step
returns-in-Some-Step c = λ d over.
    let x = c.args.scope.now.tables in
    let at = c.args.scope.now.at in
    let slot = c.in-Some-Step.field-0-0 in
    let found : c.cell.result ≡ Some (Step slot) = cc in
    let there : (k : Cell) × (cell_at x at (Step slot) ≡ Some k) =
    subst (IsCellNumber x at) found c.cell.ensures.is_there in
    no_variable (scope_of at) (slot_in x at slot) there.0 (last_name c.args.path.now) there.1
    ∙ ap (λ o. variable_in (resolved_cell o (last_name c.args.path.now)))
    (ap (option_and_then (cell_at x at)) (sym found) ∙ c.cell.ensures.cell d over)
