-- Goals and declared fairness conditions have the type of a condition, and stand outside of all bodies.
use Rattle.std.proofs.Common.{◌≡◌, List, Some, ◌++◌, map, refl, sym, ap, ◌∙◌, subst, slice_get}
use Rattle.std.specs.List.{AllByRecursion, flat_map}
use Rattle.std.specs.Option.{option_map, option_and_then}
use Rattle.tm_syntax.specs.declared.design.Design.{Design}
use Rattle.tm_syntax.specs.declared.design.Item.{Item}
use Rattle.tm_syntax.specs.declared.design.Ty.TheVariants as types
use Rattle.tm_syntax.specs.Tree.{ExprTree, NamedTree, TemplateTree, SpecTree}
use Rattle.tm_syntax.specs.Tree.View.{spec_tree}
use Rattle.tm_syntax.specs.Scopes.Context.{Context, outside}
use Rattle.tm_syntax.specs.Scopes.Parts.{ExprAt, condition, exprs, template_exprs, body_exprs, template_bodies, Asked, BodyAt}
use Rattle.tm_syntax.specs.Design.View.{design_tree}
use Rattle.tm_syntax.specs.Design.Scope.{Site, site}
use Rattle.tm_typing.specs.HasType.{HasType}
use Rattle.tm_typing.specs.Promises.{HasAskedType}
use Rattle.tm_typing.proofs.Listed.{In, in_behind, in_flat, in_front, in_get, in_map, holds_in}
use Rattle.tm_design.specs.Typed.{HasTypeAt}
use Rattle.tm_design.proofs.Contexts.{context_here, of_site}
use Rattle.tm_design.proofs.Found.{and_then_is, map_is}
use Rattle.tm_plain_bodies.proofs.Found.{own_cells}
use Rattle.tm_states.proofs.Standing.{site_template}
use Rattle.tm_flat_states.specs.Markable.{HasConditions, outside_of}

-- a condition of a template has the type of one
condition_typed : (spec : SpecTree) (t : TemplateTree) (n : NamedTree) → AllByRecursion HasAskedType (exprs spec) →
    In t spec.templates → In n (t.goals ++ t.fairs) →
    HasType (record { spec = spec; template = t; body = outside }) types.Bool n.expr
condition_typed spec t n typed there here =
    let f : NamedTree → ExprAt = (λ (m : NamedTree). record {
      context = record { spec = spec; template = t; body = outside };
      asked = condition m.expr;
    }) in
    holds_in HasAskedType {x = f n} (exprs spec) typed
    (in_flat (template_exprs spec) spec.templates there
    (in_behind (flat_map (λ (b : BodyAt). map (λ (e : Asked). record { context = b.context; asked = e }) (body_exprs b))
    (template_bodies spec t)) (map f (t.goals ++ t.fairs)) (in_map f (t.goals ++ t.fairs) here)))
    types.Bool refl

-- what an item states that is one of these of its template
module _ (d : Design) (typed : AllByRecursion HasAskedType (exprs (spec_tree d.spec)))
    (pick : TemplateTree → List NamedTree) (among : (t : TemplateTree) (n : NamedTree) → In n (pick t) →
    In n (t.goals ++ t.fairs)) where
  stated_typed : (item : Item) (e : ExprTree) →
      option_and_then (λ k. option_and_then (λ (at : Site). option_map (λ (n : NamedTree). n.expr)
      (slice_get (pick at.template) k)) (site (design_tree d) item.instance)) item.index ≡ Some e →
      HasTypeAt (outside_of d item.instance) types.Bool e
  stated_typed item e is =
      let tree = design_tree d in
      let s = outside_of d item.instance in
      let index = and_then_is (λ k. option_and_then (λ (at : Site). option_map (λ (n : NamedTree). n.expr)
      (slice_get (pick at.template) k)) (site tree item.instance)) item.index e is in
      let at = and_then_is (λ (at : Site). option_map (λ (n : NamedTree). n.expr)
      (slice_get (pick at.template) index.0)) (site tree item.instance) e index.2 in
      let named = map_is (λ (n : NamedTree). n.expr) (slice_get (pick at.0.template) index.0) e at.2 in
      let place : Context = record { spec = spec_tree d.spec; template = at.0.template; body = outside } in
      record {
        context = place;
        stands = sym (context_here s tree (own_cells d)) ∙ ap (option_map (of_site tree s)) at.1;
        typed = subst (HasType place types.Bool) named.2
            (condition_typed (spec_tree d.spec) at.0.template named.0 typed (site_template tree item.instance at.0 at.1)
            (among at.0.template named.0 (in_get (pick at.0.template) index.0 named.1)));
      }

pub conditions_typed : (d : Design) → AllByRecursion HasAskedType (exprs (spec_tree d.spec)) → HasConditions d
conditions_typed d typed = record {
  goals = stated_typed d typed (λ (t : TemplateTree). t.goals) (λ t n here. in_front t.goals t.fairs here);
  fairs = stated_typed d typed (λ (t : TemplateTree). t.fairs) (λ t n here. in_behind t.goals t.fairs here);
}
