use Rattle.std.proofs.Common.{sym, ap, ◌∙◌, subst}
use Rattle.std.specs.Option.{option_map}
use Rattle.tm_syntax.specs.Design.Scope.{Site, site}
use Rattle.tm_scope.specs.Cells.{CellTables, HasCells, ScopedCells}
use Rattle.tm_scope.specs.declared.cells.site_body.SiteBody.{SiteBody}
use Rattle.tm_atoms.proofs.bodies.Bodies.scope.Goals as goal

-- a body, with the tables of a design
abbrev scoped : CellTables → SiteBody → ScopedCells
scoped x at = record { tables = x; at = at }

pub returns : goal.returns
returns c = λ d over.
    let x : CellTables = c.self.inside.cells.now in
    let inside : HasCells x d = subst (λ (x : CellTables). HasCells x d) (sym c.self.view_is) over in
    c.scope.ensures d inside
    ∙ ap (λ (x : CellTables). option_map (λ (s : Site). scoped x c.args.at) (site d c.args.at.instance)) c.self.view_is
