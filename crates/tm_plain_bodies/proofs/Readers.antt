-- The bodies that a runner finds of its design.
use Rattle.std.proofs.Common.{◌≡◌, Option, None, Some, List, length, sym, ap, ◌∙◌, subst}
use Rattle.std.specs.Option.{option_map}
use Rattle.tm_syntax.specs.declared.design.Design.{Design}
use Rattle.tm_syntax.specs.declared.member.Member.{Member}
use Rattle.tm_syntax.specs.Design.{DesignTree}
use Rattle.tm_syntax.specs.Design.View.{design_tree}
use Rattle.tm_syntax.specs.Design.Scope.{Site, site}
use Rattle.tm_scope.specs.Cells.{CellTables, HasCells, ScopedCells, scope_of}
use Rattle.tm_scope.specs.declared.cells.site_body.SiteBody.{SiteBody}
use Rattle.tm_locations.proofs.TextLeads.{sound_leads}
use Rattle.tm_plain_bodies.specs.Frames.{IsFrame}
use Rattle.tm_plain_bodies.specs.Tables.{IsReady, body_of, tables_of}
use Rattle.tm_design.proofs.Found.{map_is}
use Rattle.tm_plain_bodies.proofs.Found.{own_cells}
use Rattle.tm_plain_bodies.proofs.Nesting.{nests_all}

module _ (d : Design) (x : CellTables) (own : x ≡ tables_of d) (at : SiteBody) (found : Option ScopedCells)
    (tells : (e : DesignTree) → HasCells x e →
    found ≡ option_map (λ _. record { tables = x; at = at }) (site e at.instance)) where
  -- what is found is the body where there is an instance
  pub found_bodies : found ≡ option_map (λ _. body_of d at) (site (design_tree d) at.instance)
  found_bodies =
      tells (design_tree d) (subst (λ y. HasCells y (design_tree d)) (sym own) (own_cells d))
      ∙ ap (λ (y : CellTables). option_map (λ (_ : Site). record { tables = y; at = at })
      (site (design_tree d) at.instance)) own

  pub found_body : (s : ScopedCells) → found ≡ Some s → s ≡ body_of d at
  found_body s is = by (site (design_tree d) at.instance) (sym is ∙ found_bodies)
    where
      by : (o : Option Site) → Some s ≡ option_map (λ _. body_of d at) o → s ≡ body_of d at
      by None h = absurd (cc)
      by (Some t) h = let same : s ≡ body_of d at = cc in same

-- a body that is found is a frame, below which calls nest no deeper than the order is long
pub is_frame : (d : Design) (order : List Member) → IsReady d order → (at : SiteBody) (s : ScopedCells) →
    Some s ≡ option_map (λ _. body_of d at) (site (design_tree d) at.instance) →
    IsFrame d at (record { reader = s; depth = length order })
is_frame d order ready at s is =
    let found = map_is (λ (t : Site). body_of d at) (site (design_tree d) at.instance) s (sym is) in
    record {
      reader = sym found.2;
      nested = nests_all (design_tree d) order (sound_leads (design_tree d) ready.sound) ready.ordered ready.covers
          (scope_of at) found.0 found.1;
    }
