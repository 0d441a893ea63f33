use Rattle.std.proofs.Common.{◌≡◌, Some, refl, sym, ap, ◌∙◌, subst}
use Rattle.std.proofs.lemmas.Result.{IfOk-weaker}
use Rattle.std.specs.Option.{option_and_then}
use Rattle.tm_syntax.specs.Scopes.Context.{Slot}
use Rattle.tm_syntax.specs.Scopes.Names.{last_name}
use Rattle.tm_syntax.specs.Design.Cells.{Cell, cell, in_step}
use Rattle.tm_scope.specs.Cells.{IsCellNumber, cell_at, scope_of, slot_in}
use Rattle.tm_scope.specs.declared.cells.site_body.CellNumber.TheVariants.{State, Step}
use Rattle.tm_atoms.proofs.Resolving.{of-constant, of-slot, of-state}
use Rattle.tm_atoms.proofs.table.NodeTable.cell.Goals as goal

pub returns-in-None : goal.returns-in-None
returns-in-None c =
    IfOk-weaker c.constant.result _ _ (λ n has d over.
    let x = c.args.scope.now.tables in
    let at = c.args.scope.now.at in
    of-constant c.args.self.now c.constant.new.self n (last_name c.args.path.now)
    (cell d (scope_of at) c.args.path.now c.args.index)
    (ap (option_and_then (cell_at x at)) (sym c.in-None.is) ∙ c.cell.ensures.cell d over)
    c.last_name.result.now c.last_name.ensures has) c.constant.ensures

pub returns-in-Some-State : goal.returns-in-Some-State
returns-in-Some-State c =
    IfOk-weaker c.noted.result _ _ (λ n noting d over.
    let x = c.args.scope.now.tables in
    let at = c.args.scope.now.at in
    let found : c.cell.result ≡ Some (State c.in-Some-State.number) = cc in
    of-state c.args.self.now c.noted.new.self n (last_name c.args.path.now)
    (cell d (scope_of at) c.args.path.now c.args.index) c.in-Some-State.number
    (ap (option_and_then (cell_at x at)) (sym found) ∙ c.cell.ensures.cell d over) noting) c.noted.ensures

pub returns-in-Some-Step : goal.returns-in-Some-Step
returns-in-Some-Step c =
    IfOk-weaker c.noted-in-Some-Step.result _ _ (λ n noting d over.
    let x = c.args.scope.now.tables in
    let at = c.args.scope.now.at in
    let slot = c.in-Some-Step.field-0-0 in
    let found : c.cell.result ≡ Some (Step slot) = cc in
    let there : (k : Cell) × (cell_at x at (Step slot) ≡ Some k) =
    subst (IsCellNumber x at) found c.cell.ensures.is_there in
    of-slot c.args.self.now c.noted-in-Some-Step.new.self n (last_name c.args.path.now)
    (cell d (scope_of at) c.args.path.now c.args.index) (λ (s : Slot). in_step (scope_of at) s.name s.ty)
    (λ s m. refl) (slot_in x at slot)
    (ap (option_and_then (cell_at x at)) (sym found) ∙ c.cell.ensures.cell d over) there.0 there.1 noting)
    c.noted-in-Some-Step.ensures
