-- The first template that holds itself, or an order of all templates in which each stands behind all that it holds.
use Rattle.std.specs.Prelude.{◌≡◌, ℕ, ◌<◌, ◌≤◌, Some, List, length, slice_get}
use Rattle.tm_syntax.specs.declared.tree.Spec.{Spec}
use Rattle.tm_syntax.specs.Tree.{SpecTree}
use Rattle.tm_syntax.specs.Tree.View.{spec_tree}
use Rattle.tm_syntax.specs.Scopes.Calls.{ReachesTemplate}
use Rattle.tm_syntax.specs.Faults.{IsFirst}
use Rattle.tm_syntax.specs.Faults.Cycles.{TemplateMark, HoldsItself, all_templates}
use Rattle.tm_syntax.specs.Faults.Marks.{named}
use Rattle.tm_scope.specs.Graph.{graph_of}
use Rattle.tm_limits.specs.declared.templates.TemplateOrder.{TemplateOrder}
use Rattle.tm_limits.specs.declared.templates.TemplateOrder.TheVariants.{Cyclic, Ordered}
use Rattle.tm_limits.specs.Orders.{IsOrder}
use Rattle.tm_limits.specs.Templates.{holdings}

-- an order of the templates of a text, each behind all that it holds; none reaches itself
pub record AreOrdered (spec : SpecTree) (graph : List (List ℕ)) (order : List ℕ) : Type 0 where
  pub acyclic : (t : ℕ) → ¬ ReachesTemplate spec t t
  pub graph_is : graph ≡ holdings spec
  pub ordered : IsOrder graph order
  pub covers : (a : ℕ) → a < length graph → (k : ℕ) × (slice_get order k ≡ Some a)
  pub short : length order ≤ length graph

-- the first template that holds itself, or an order of all of them
abbrev pub IsTemplateOrder : Spec → TemplateOrder → Type 0
IsTemplateOrder spec (Cyclic name) =
    IsFirst (λ (t : TemplateMark). t.mark) (HoldsItself (spec_tree spec)) (all_templates (spec_tree spec))
    (named name.now)
IsTemplateOrder spec (Ordered graph order) = AreOrdered (spec_tree spec) (graph_of graph.items) order.items
