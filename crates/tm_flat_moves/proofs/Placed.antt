-- Bodies of instances, by the tables of a design.
use Rattle.std.proofs.Common.{◌≡◌, Option, None, Some, refl, sym, ap, ◌∙◌, subst}
use Rattle.std.specs.Option.{option_map}
use Rattle.tm_syntax.specs.declared.design.Design.{Design}
use Rattle.tm_syntax.specs.Design.{DesignTree}
use Rattle.tm_syntax.specs.Design.Scope.{site}
use Rattle.tm_syntax.specs.Design.View.{design_tree}
use Rattle.tm_scope.specs.Cells.{CellTables, HasCells, ScopedCells}
use Rattle.tm_scope.specs.declared.cells.site_body.SiteBody.{SiteBody}
use Rattle.tm_design.proofs.Found.{body_found, no_source}
use Rattle.tm_flat_moves.specs.declared.mover.Mover.{Mover}
use Rattle.tm_flat_exprs.specs.Tables.{cells_of}

pub own_cells : (d : Design) → HasCells (cells_of d) (design_tree d)
own_cells d = record { text = refl; instances = refl; vars = refl }

module _ (m : Mover) (at : SiteBody) (r : Option ScopedCells)
    (told : (e : DesignTree) → HasCells m.cells.now e →
    r ≡ option_map (λ _. record { tables = m.cells.now; at = at }) (site e at.instance)) where
  abbrev tree : DesignTree
  tree = design_tree m.design.now

  here : r ≡ option_map (λ _. record { tables = m.cells.now; at = at }) (site tree at.instance)
  here = told tree (subst (λ (x : CellTables). HasCells x tree) (sym m.same_cells) (own_cells m.design.now))

  pub scope_found : (scope : ScopedCells) → r ≡ Some scope → scope ≡ record { tables = cells_of m.design.now; at = at }
  scope_found scope is =
      body_found (site tree at.instance) (record { tables = m.cells.now; at = at }) scope r here is
      ∙ ap (λ (x : CellTables). record { tables = x; at = at }) m.same_cells

  pub no_scope : r ≡ None → site tree at.instance ≡ None
  no_scope is = no_source (λ _. record { tables = m.cells.now; at = at }) (site tree at.instance) r here is
