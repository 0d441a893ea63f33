-- The expressions of the goals and fairness conditions of a design, step by step along its tables.
use Rattle.std.proofs.Common.{◌≡◌, ℕ, List, Option, None, Some, Bor, map, ap, ◌∙◌, slice_get}
use Rattle.std.proofs.lemmas.Option.{slice_get-map}
use Rattle.std.specs.Option.{option_map, option_and_then}
use Rattle.tm_syntax.specs.declared.design.Design.{Design}
use Rattle.tm_syntax.specs.declared.design.Instance.{Instance}
use Rattle.tm_syntax.specs.declared.design.Item.{Item}
use Rattle.tm_syntax.specs.declared.tree.Expr.{Expr}
use Rattle.tm_syntax.specs.declared.tree.Named.{Named}
use Rattle.tm_syntax.specs.declared.tree.Template.{Template}
use Rattle.tm_syntax.specs.Tree.{ExprTree, NamedTree, TemplateTree}
use Rattle.tm_syntax.specs.Tree.View.{expr_tree, named_tree, template_tree}
use Rattle.tm_syntax.specs.Design.View.{design_tree}
use Rattle.tm_syntax.specs.Design.Scope.{Site, site}
use Rattle.tm_scope.proofs.CellSites.{site-absent, site-without, site-here}
use Rattle.tm_flat_exprs.specs.Tables.{cells_of}
use Rattle.tm_flat_states.proofs.StatedTerms.{own_cells}

-- an expression that is found, or none, as contracts see it
abbrev pub seen : Option (Bor Expr) → Option ExprTree
seen found = option_map (λ (e : Bor Expr). expr_tree e.now) found

abbrev expr_of : NamedTree → ExprTree
expr_of g = g.expr

-- what is stated by an item, where `pick` gives the named expressions of a template
module _ (pick : TemplateTree → List NamedTree) (d : Design) (item : Item) where
  abbrev at_site : ℕ → Site → Option ExprTree
  at_site k at = option_map expr_of (slice_get (pick at.template) k)

  abbrev by_index : ℕ → Option ExprTree
  by_index k = option_and_then (at_site k) (site (design_tree d) item.instance)

  abbrev pub picked : Option ExprTree
  picked = option_and_then by_index item.index

  -- one that has no index has no expression
  pub without_index : item.index ≡ None → picked ≡ None
  without_index none = ap (option_and_then by_index) none

  module _ (k : ℕ) (index : item.index ≡ Some k) where
    of_site : (o : Option Site) → site (design_tree d) item.instance ≡ o → picked ≡ option_and_then (at_site k) o
    of_site o is = ap (option_and_then by_index) index ∙ ap (option_and_then (at_site k)) is

    pub without_instance : slice_get d.instances.items item.instance ≡ None → picked ≡ None
    without_instance none =
        of_site None (site-absent (cells_of d) (design_tree d) (own_cells d) item.instance none)

    module _ (i : Instance) (there : slice_get d.instances.items item.instance ≡ Some i) where
      pub without_template : slice_get d.spec.templates.items i.template ≡ None → picked ≡ None
      without_template none =
          of_site None (site-without (cells_of d) (design_tree d) (own_cells d) item.instance i there none)

      -- it is the one of its index in the template
      pub in_template : (t : Template) (names : List Named) (o : Option Named) →
          slice_get d.spec.templates.items i.template ≡ Some t → pick (template_tree t) ≡ map named_tree names →
          slice_get names k ≡ o → picked ≡ option_map expr_of (option_map named_tree o)
      in_template t names o here named is =
          ap (option_and_then by_index) index
          ∙ ap (option_and_then (at_site k))
          (site-here (cells_of d) (design_tree d) (own_cells d) item.instance i there t here)
          ∙ ap (λ l. option_map expr_of (slice_get l k)) named
          ∙ ap (option_map expr_of) (slice_get-map named_tree names k ∙ ap (option_map named_tree) is)
