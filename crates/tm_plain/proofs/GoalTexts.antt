-- The expression of a goal of a design, step by step along its tables.
use Rattle.std.proofs.Common.{◌≡◌, ℕ, Option, None, Some, Bor, ap, ◌∙◌, slice_get}
use Rattle.std.proofs.lemmas.Option.{slice_get-map}
use Rattle.std.specs.Option.{option_map, option_and_then}
use Rattle.tm_syntax.specs.declared.design.Design.{Design}
use Rattle.tm_syntax.specs.declared.design.Instance.{Instance}
use Rattle.tm_syntax.specs.declared.design.Item.{Item}
use Rattle.tm_syntax.specs.declared.tree.Expr.{Expr}
use Rattle.tm_syntax.specs.declared.tree.Named.{Named}
use Rattle.tm_syntax.specs.declared.tree.Template.{Template}
use Rattle.tm_syntax.specs.Tree.{ExprTree, NamedTree}
use Rattle.tm_syntax.specs.Tree.View.{expr_tree, named_tree}
use Rattle.tm_syntax.specs.Design.View.{design_tree}
use Rattle.tm_syntax.specs.Design.Scope.{Site, site}
use Rattle.tm_scope.proofs.CellSites.{site-absent, site-without, site-here}
use Rattle.tm_sem.specs.Play.{goal_expr}
use Rattle.tm_plain_bodies.specs.Tables.{tables_of}
use Rattle.tm_plain_bodies.proofs.Found.{own_cells}

-- an expression that is found, or none, as contracts see it
abbrev pub seen : Option (Bor Expr) → Option ExprTree
seen found = option_map (λ (e : Bor Expr). expr_tree e.now) found

abbrev expr_of : NamedTree → ExprTree
expr_of g = g.expr

abbrev goal_at : ℕ → Site → Option ExprTree
goal_at k at = option_map expr_of (slice_get at.template.goals k)

module _ (d : Design) (item : Item) where
  abbrev by_index : ℕ → Option ExprTree
  by_index k = option_and_then (goal_at k) (site (design_tree d) item.instance)

  -- one that has no index has no expression
  pub without_index : item.index ≡ None → goal_expr (design_tree d) item ≡ None
  without_index none = ap (option_and_then by_index) none

  module _ (k : ℕ) (index : item.index ≡ Some k) where
    of_site : (o : Option Site) → site (design_tree d) item.instance ≡ o →
        goal_expr (design_tree d) item ≡ option_and_then (goal_at k) o
    of_site o is = ap (option_and_then by_index) index ∙ ap (option_and_then (goal_at k)) is

    pub without_instance : slice_get d.instances.items item.instance ≡ None → goal_expr (design_tree d) item ≡ None
    without_instance none =
        of_site None (site-absent (tables_of d) (design_tree d) (own_cells d) item.instance none)

    module _ (i : Instance) (there : slice_get d.instances.items item.instance ≡ Some i) where
      pub without_template : slice_get d.spec.templates.items i.template ≡ None → goal_expr (design_tree d) item ≡ None
      without_template none =
          of_site None (site-without (tables_of d) (design_tree d) (own_cells d) item.instance i there none)

      -- it is the one of its index in the template
      pub in_template : (t : Template) (o : Option Named) → slice_get d.spec.templates.items i.template ≡ Some t →
          slice_get t.goals.items k ≡ o →
          goal_expr (design_tree d) item ≡ option_map expr_of (option_map named_tree o)
      in_template t o here is =
          ap (option_and_then by_index) index
          ∙ ap (option_and_then (goal_at k))
          (site-here (tables_of d) (design_tree d) (own_cells d) item.instance i there t here)
          ∙ ap (option_map expr_of) (slice_get-map named_tree t.goals.items k ∙ ap (option_map named_tree) is)
