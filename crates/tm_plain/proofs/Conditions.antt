-- The goals of a design have the type of a condition, and stand outside of all bodies.
use Rattle.std.proofs.Common.{◌≡◌, None, Some, ◌++◌, map, refl, sym, ap, ◌∙◌, subst, slice_get}
use Rattle.std.specs.List.{AllByRecursion, flat_map}
use Rattle.std.specs.Option.{option_map, option_and_then}
use Rattle.tm_syntax.specs.declared.design.Design.{Design}
use Rattle.tm_syntax.specs.declared.design.Item.{Item}
use Rattle.tm_syntax.specs.declared.design.Ty.{Ty}
use Rattle.tm_syntax.specs.declared.design.Ty.TheVariants as types
use Rattle.tm_syntax.specs.Tree.{ExprTree, NamedTree, TemplateTree, SpecTree}
use Rattle.tm_syntax.specs.Tree.View.{spec_tree}
use Rattle.tm_syntax.specs.Scopes.Context.{Context, outside}
use Rattle.tm_syntax.specs.Scopes.Parts.{ExprAt, condition, exprs, template_exprs, body_exprs, template_bodies, Asked, BodyAt}
use Rattle.tm_syntax.specs.Design.View.{design_tree}
use Rattle.tm_syntax.specs.Design.Scope.{Site, site}
use Rattle.tm_scope.specs.declared.cells.site_body.SiteBody.{SiteBody}
use Rattle.tm_scope.specs.declared.context.BodyName.TheVariants.{Outside}
use Rattle.tm_sem.specs.Play.{goal_expr}
use Rattle.tm_typing.specs.HasType.{HasType}
use Rattle.tm_typing.specs.Promises.{HasAskedType}
use Rattle.tm_typing.proofs.Promises.{exprs_typed}
use Rattle.tm_typing.proofs.Sound.{checked}
use Rattle.tm_plain.specs.Machine.{IsRunnable}
use Rattle.tm_typing.proofs.Listed.{In, in_front, in_behind, in_map, in_flat, in_get, holds_in}
use Rattle.tm_plain_bodies.specs.Tables.{body_of}
use Rattle.tm_design.proofs.Found.{and_then_is, map_is}
use Rattle.tm_plain_bodies.proofs.Found.{own_cells}
use Rattle.tm_states.proofs.Standing.{site_template}
use Rattle.tm_design.specs.Typed.{context_at, HasTypeAt}
use Rattle.tm_design.proofs.Contexts.{context_here, of_site}

-- a condition of a template has the type of one
condition_typed : (spec : SpecTree) (t : TemplateTree) (n : NamedTree) → AllByRecursion HasAskedType (exprs spec) →
    In t spec.templates → In n (t.goals ++ t.fairs) →
    HasType (record { spec = spec; template = t; body = outside }) types.Bool n.expr
condition_typed spec t n typed there here =
    let f : NamedTree → ExprAt = (λ (m : NamedTree). record {
      context = record { spec = spec; template = t; body = outside };
      asked = condition m.expr;
    }) in
    holds_in HasAskedType {x = f n} (exprs spec) typed
    (in_flat (template_exprs spec) spec.templates there
    (in_behind (flat_map (λ (b : BodyAt). map (λ (e : Asked). record { context = b.context; asked = e }) (body_exprs b))
    (template_bodies spec t)) (map f (t.goals ++ t.fairs)) (in_map f (t.goals ++ t.fairs) here)))
    types.Bool refl

pub goal_typed : (d : Design) → AllByRecursion HasAskedType (exprs (spec_tree d.spec)) → (item : Item) (e : ExprTree) →
    goal_expr (design_tree d) item ≡ Some e →
    HasTypeAt (body_of d (record { instance = item.instance; body = Outside })) types.Bool e
goal_typed d typed item e is =
    let tree = design_tree d in
    let s = body_of d (record { instance = item.instance; body = Outside }) in
    let index = and_then_is (λ k. option_and_then (λ (at : Site). option_map (λ (g : NamedTree). g.expr)
    (slice_get at.template.goals k)) (site tree item.instance)) item.index e is in
    let at = and_then_is (λ (at : Site). option_map (λ (g : NamedTree). g.expr)
    (slice_get at.template.goals index.0)) (site tree item.instance) e index.2 in
    let goal = map_is (λ (g : NamedTree). g.expr) (slice_get at.0.template.goals index.0) e at.2 in
    let place : Context = record { spec = spec_tree d.spec; template = at.0.template; body = outside } in
    record {
      context = place;
      stands = sym (context_here s tree (own_cells d)) ∙ ap (option_map (of_site tree s)) at.1;
      typed = subst (HasType place types.Bool) goal.2
          (condition_typed (spec_tree d.spec) at.0.template goal.0 typed (site_template tree item.instance at.0 at.1)
          (in_front at.0.template.goals at.0.template.fairs (in_get at.0.template.goals index.0 goal.1)));
    }

-- an expression that has a type stands in an instance of the design
pub has_site : (d : Design) (at : SiteBody) (ty : Ty) (e : ExprTree) → HasTypeAt (body_of d at) ty e →
    site (design_tree d) at.instance ≡ None → ⊥
has_site d at ty e h none =
    let s = body_of d at in
    let missing : context_at s ≡ None =
    sym (context_here s (design_tree d) (own_cells d)) ∙ ap (option_map (of_site (design_tree d) s)) none in
    let there = h.stands in cc

-- the expressions of a design that keeps its facts have the types that their places ask for
pub runnable_typed : (d : Design) → IsRunnable d → AllByRecursion HasAskedType (exprs (spec_tree d.spec))
runnable_typed d h = exprs_typed (spec_tree d.spec) (checked (design_tree d) h.sound h.read)
