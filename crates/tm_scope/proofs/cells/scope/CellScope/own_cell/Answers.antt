use Rattle.std.proofs.Common.{◌++◌, ◌∷◌, sym, ap, ◌∙◌}
use Rattle.std.specs.Option.{option_and_then, option_map}
use Rattle.tm_syntax.specs.Design.{member_path}
use Rattle.tm_syntax.specs.Design.Cells.{in_step, own_cell, variable_at}
use Rattle.tm_syntax.specs.Scopes.Context.{Slot}
use Rattle.tm_syntax.specs.Design.Scope.{Site, site}
use Rattle.tm_scope.specs.Cells.{scope_of}
use Rattle.tm_scope.specs.Inner.CellScopes.{frame_name}
use Rattle.tm_scope.proofs.OwnCells.{own-kept}
use Rattle.tm_scope.proofs.cells.scope.CellScope.own_cell.Goals as goal

pub returns-then-is_kept-clause-cell : goal.returns-then-is_kept-clause-cell
returns-then-is_kept-clause-cell c = λ d has.
    let at = c.args.self.now.at in
    c.kept_cell.ensures.cell d has
    ∙ ap (λ n. option_and_then (λ (s : Site). variable_at d
    (member_path s.node.path (frame_name d at) ++ 46 ∷ n)) (site d at.instance)) c.last_name.ensures
    ∙ sym (own-kept d at c.args.path.now (site d at.instance) (sym (c.is_kept.ensures d has) ∙ c.if-is_kept.true)
    c.in-Some.ensures.is_there.0 (sym (c.in-Some.ensures.slot d has) ∙ c.in-Some.ensures.is_there.1))

pub returns-else-is_kept-clause-is_there : goal.returns-else-is_kept-clause-is_there
returns-else-is_kept-clause-is_there c =
    let at = c.args.self.now.at in
    let there = c.in-Some.ensures.is_there in (
      in_step (scope_of at) there.0.name there.0.ty,
      ap (option_map (λ (s : Slot). in_step (scope_of at) s.name s.ty)) there.1,
    )
