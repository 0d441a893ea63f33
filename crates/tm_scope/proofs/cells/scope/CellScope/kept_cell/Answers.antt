use Rattle.std.proofs.Common.{◌≡◌, ◌++◌, ◌∷◌, sym, ap, ◌∙◌, subst}
use Rattle.std.specs.Option.{option_and_then}
use Rattle.tm_syntax.specs.Design.{DesignTree, member_path}
use Rattle.tm_syntax.specs.Design.Cells.{variable_at}
use Rattle.tm_syntax.specs.Design.Scope.{Site, site}
use Rattle.tm_scope.specs.Cells.{HasCells, ScopedCells, cell_at}
use Rattle.tm_scope.specs.Inner.CellScopes.{frame_name}
use Rattle.tm_scope.proofs.CellSites.{name-own, site-own}
use Rattle.tm_scope.proofs.VariablePaths.{member_path-append}
use Rattle.tm_scope.proofs.cells.scope.CellScope.kept_cell.Goals as goal

pub returns-clause-cell : goal.returns-clause-cell
returns-clause-cell c =
    let s = c.self.inside in
    subst (λ (v : ScopedCells). (d : DesignTree) → HasCells v.tables d →
    option_and_then (cell_at v.tables v.at) c.variable.result
    ≡ option_and_then (λ (s : Site). variable_at d
    (member_path s.node.path (frame_name d v.at) ++ 46 ∷ c.args.name.now)) (site d v.at.instance)) c.self.view_is
    (λ d has.
    subst (λ (v : ScopedCells). HasCells v.tables d → option_and_then (cell_at v.tables v.at) c.variable.result
    ≡ variable_at d (member_path c.as_bytes.result.now (s.name.now ++ 46 ∷ c.args.name.now))) (sym c.self.view_is)
    (c.variable.ensures.cell d) has
    ∙ ap (variable_at d) (sym (member_path-append c.as_bytes.result.now s.name.now (46 ∷ c.args.name.now)))
    ∙ ap (λ base. variable_at d (member_path base s.name.now ++ 46 ∷ c.args.name.now)) c.as_bytes.ensures
    ∙ ap (λ n. variable_at d (member_path s.node.now.path n ++ 46 ∷ c.args.name.now))
    (name-own s.cells.now s.at s.node.now s.names s.name.now s.kept c.self.invariant d has)
    ∙ sym (ap (option_and_then (λ (t : Site). variable_at d
    (member_path t.node.path (frame_name d s.at) ++ 46 ∷ c.args.name.now)))
    (site-own s.cells.now s.at s.node.now s.names s.name.now s.kept c.self.invariant d has)))
