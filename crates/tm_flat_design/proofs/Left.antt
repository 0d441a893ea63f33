-- What is left to be done at the locations of a sound design of a text has types.
use Rattle.std.proofs.Common.{◌≡◌, ℕ, List, [], ◌∷◌, Some, sym, ap, ◌∙◌, subst}
use Rattle.std.specs.List.{AllByRecursion}
use Rattle.tm_syntax.specs.declared.design.Design.{Design}
use Rattle.tm_syntax.specs.Tree.{StmtTree, nothing, then}
use Rattle.tm_syntax.specs.Scopes.Parts.{inner_stmts}
use Rattle.tm_syntax.specs.Design.{DesignTree}
use Rattle.tm_syntax.specs.Design.Locations.{rest}
use Rattle.tm_syntax.specs.Design.Scope.{Scope, context}
use Rattle.tm_syntax.specs.Design.View.{design_tree}
use Rattle.tm_syntax.specs.Design.Work.{WorkItem, deliver, perform}
use Rattle.tm_syntax.specs.Faults.{IsOfText, IsSound}
use Rattle.tm_scope.specs.Cells.{scope_of}
use Rattle.tm_scope.specs.declared.cells.site_body.SiteBody.{SiteBody}
use Rattle.tm_typing.proofs.Listed.{all_join}
use Rattle.tm_typing.proofs.Sound.{checked}
use Rattle.tm_flat.specs.BitStep.{HasRoom}
use Rattle.tm_flat.specs.Inputs.{room}
use Rattle.tm_locations.specs.Locations.{LocationTable}
use Rattle.tm_design.specs.Typed.{context_at}
use Rattle.tm_design.proofs.Contexts.{context_here}
use Rattle.tm_plain_bodies.specs.Tables.{body_of}
use Rattle.tm_plain_bodies.proofs.Found.{own_cells}
use Rattle.tm_flat_design.proofs.FitsAlike.{items_alike}
use Rattle.tm_flat_design.proofs.Promising.{IsAsked}
use Rattle.tm_flat_design.proofs.Typing.{row_typed}
use Rattle.tm_flat_design.specs.Tables.{walk_tables}
use Rattle.tm_flat_moves.specs.Items.{ItemsAreTyped, MayBeWalked, StmtStands}
use Rattle.tm_flat_exprs.specs.Tables.{cells_of}
use Rattle.tm_flat_design.proofs.Standing.{IsAskedIn, ItemsAreAsked, rest_stands}

module _ (d : Design) (sound : IsSound (design_tree d)) (of : IsOfText (design_tree d).spec) where
  abbrev tree : DesignTree
  tree = design_tree d

  -- a statement of a scope has types in each body of that scope
  stands_typed : (scope : Scope) (s : StmtTree) → IsAskedIn tree scope s → (at : SiteBody) → scope_of at ≡ scope →
      StmtStands (cells_of d) at s
  stands_typed scope s asked at same =
      let here : context tree (scope_of at) ≡ Some asked.place = ap (context tree) same ∙ asked.here in
      let stands : context_at (body_of d at) ≡ Some asked.place =
      sym (context_here (body_of d at) tree (own_cells d)) ∙ here in
      record {
        place = asked.place;
        stands = stands;
        typed = (row_typed d sound of at asked.place stands (then s nothing)
            (all_join (IsAsked asked.place) (s ∷ inner_stmts s) [] asked.asked tt)).0;
      }

  items_typed : (items : List WorkItem) → ItemsAreAsked tree items → ItemsAreTyped (cells_of d) items
  items_typed [] asked = tt
  items_typed (perform scope trail s ∷ others) asked =
      (λ at same. stands_typed scope s asked.0 at same, items_typed others asked.1)
  items_typed (deliver target scope e ∷ others) asked = absurd asked.0

  -- what is left at a location may be walked, where there is room for the choices
  pub left_walks : HasRoom tree → (l : LocationTable) (first p k : ℕ) →
      MayBeWalked (walk_tables d l first) (rest tree p k)
  left_walks enough l first p k = record {
    typed = items_typed (rest tree p k) (rest_stands tree (checked tree sound of) p k);
    fits = λ e q has are.
        items_alike tree e (sym has.text) (sym has.instances) (sym has.vars) room (rest tree p k) 0
        (enough.processes p k);
  }
