-- The numbers of variables and tasks lead to what their paths mean.
use Rattle.std.proofs.Common.{◌≡◌, ℕ, Bool, Option, None, Some, List, slice_get, position, find, refl, sym, ap, ◌∙◌}
use Rattle.std.proofs.lemmas.Option.{slice_get-map}
use Rattle.std.specs.Option.{option_map, option_and_then}
use Rattle.tm_syntax.specs.declared.tree.Ident.{Ident}
use Rattle.tm_syntax.specs.declared.tree.Spec.{Spec}
use Rattle.tm_syntax.specs.declared.tree.Template.{Template}
use Rattle.tm_syntax.specs.Tree.{SpecTree, TemplateTree, VarTree, TaskTree}
use Rattle.tm_syntax.specs.Tree.View.{spec_tree, template_tree, var_tree}
use Rattle.tm_syntax.specs.Scopes.Names.{is_spelled, last_name, template_along}
use Rattle.tm_syntax.specs.Scopes.Context.{BodyName, variable_of}
use Rattle.tm_syntax.specs.Scopes.Pauses.{task_reached}
use Rattle.tm_syntax.specs.declared.member.Member.{Member}
use Rattle.tm_scope.specs.Context.{template_at}
use Rattle.tm_scope.specs.Members.{task_at, var_at, var_number}
use Rattle.tm_syntax.specs.Scopes.Calls.{number_along, task_number}
use Rattle.tm_scope.proofs.Numbers.{template_at_number_along}
use Rattle.tm_scope.proofs.PathSteps.{template_read}
use Rattle.tm_scope.proofs.Positions.{find-position}

and_then-and_then : {X Y Z : Type 0} (f : X → Option Y) (g : Y → Option Z) (o : Option X) →
    option_and_then g (option_and_then f o) ≡ option_and_then (λ x. option_and_then g (f x)) o
and_then-and_then f g None = refl
and_then-and_then f g (Some x) = refl

and_then-map : {X Y Z : Type 0} (f : X → Y) (g : Y → Option Z) (o : Option X) →
    option_and_then g (option_map f o) ≡ option_and_then (λ x. g (f x)) o
and_then-map f g None = refl
and_then-map f g (Some x) = refl

-- one sort of members of the templates, and what is told of one
module _ {X Y : Type 0} (spec : SpecTree) (sort : TemplateTree → List X) (tell : TemplateTree → Option X → Option Y)
    (none : (t : TemplateTree) → tell t None ≡ None) (p : X → Bool) where
  abbrev told_at : Member → Option Y
  told_at m = option_and_then (λ t. tell t (slice_get (sort t) m.index)) (slice_get spec.templates m.template)

  in_template : (n : ℕ) (o : Option TemplateTree) → slice_get spec.templates n ≡ o →
      option_and_then told_at
      (option_and_then (λ t. option_map (λ k. record { template = n; index = k }) (position p (sort t))) o)
      ≡ option_and_then (λ t. tell t (find p (sort t))) o
  in_template n None is = refl
  in_template n (Some t) is =
      and_then-map (λ k. record { template = n; index = k }) told_at (position p (sort t))
      ∙ by (position p (sort t))
      ∙ ap (tell t) (sym (find-position p (sort t)))
    where
      by : (o : Option ℕ) → option_and_then (λ k. told_at (record { template = n; index = k })) o
          ≡ tell t (option_and_then (slice_get (sort t)) o)
      by None = sym (none t)
      by (Some k) = ap (option_and_then (λ t. tell t (slice_get (sort t) k))) is

  told : (number : Option ℕ) →
      option_and_then told_at (option_and_then (λ n. option_and_then (λ t.
      option_map (λ k. record { template = n; index = k }) (position p (sort t))) (slice_get spec.templates n)) number)
      ≡ option_and_then (λ t. tell t (find p (sort t))) (template_at spec number)
  told None = refl
  told (Some n) = in_template n (slice_get spec.templates n) refl

-- the variable of the number is the variable that the path means
pub var_at_number : (spec : SpecTree) (path : List Ident) (from : ℕ) (body : BodyName) →
    option_and_then (var_at spec) (var_number spec from path)
    ≡ option_and_then (λ t. variable_of (record { spec = spec; template = t; body = body }) path)
    (slice_get spec.templates from)
var_at_number spec path from body =
    told spec (λ t. t.vars) (λ t o. o) (λ t. refl) (λ (v : VarTree). is_spelled (last_name path) v.name)
    (number_along spec from path)
    ∙ ap (option_and_then (λ t. find (λ (v : VarTree). is_spelled (last_name path) v.name) t.vars))
    (template_at_number_along spec path from)
    ∙ and_then-and_then (λ t. template_along spec t path)
    (λ t. find (λ (v : VarTree). is_spelled (last_name path) v.name) t.vars) (slice_get spec.templates from)

-- the task of the number is the task that the path leads to
pub task_at_number : (spec : SpecTree) (path : List Ident) (from : ℕ) →
    option_and_then (task_at spec) (task_number spec from path)
    ≡ option_and_then (λ t. task_reached spec t path) (slice_get spec.templates from)
task_at_number spec path from =
    told spec (λ t. t.tasks) (λ t o. option_map (λ k. (t, k)) o) (λ t. refl)
    (λ (k : TaskTree). is_spelled (last_name path) k.name) (number_along spec from path)
    ∙ ap (option_and_then (λ t. option_map (λ k. (t, k))
    (find (λ (k : TaskTree). is_spelled (last_name path) k.name) t.tasks)))
    (template_at_number_along spec path from)
    ∙ and_then-and_then (λ t. template_along spec t path)
    (λ t. option_map (λ k. (t, k)) (find (λ (k : TaskTree). is_spelled (last_name path) k.name) t.tasks))
    (slice_get spec.templates from)

-- the variable that a path means is that of its number
pub variable_of-numbered : (s : Spec) (from : ℕ) (t : Template) → slice_get s.templates.items from ≡ Some t →
    (path : List Ident) (body : BodyName) →
    variable_of (record { spec = spec_tree s; template = template_tree t; body = body }) path
    ≡ option_and_then (var_at (spec_tree s)) (var_number (spec_tree s) from path)
variable_of-numbered s from t at path body =
    sym (var_at_number (spec_tree s) path from body
    ∙ ap (option_and_then (λ u. variable_of (record { spec = spec_tree s; template = u; body = body }) path))
    (template_read s from t at))

-- the variable of a number in the text
pub var_at-read : (s : Spec) (m : Member) →
    option_map var_tree (option_and_then (λ (t : Template). slice_get t.vars.items m.index)
    (slice_get s.templates.items m.template))
    ≡ var_at (spec_tree s) m
var_at-read s m =
    by (slice_get s.templates.items m.template)
    ∙ sym (ap (option_and_then (λ t. slice_get t.vars m.index))
    (slice_get-map template_tree s.templates.items m.template))
  where
    by : (o : Option Template) →
        option_map var_tree (option_and_then (λ (t : Template). slice_get t.vars.items m.index) o)
        ≡ option_and_then (λ t. slice_get t.vars m.index) (option_map template_tree o)
    by None = refl
    by (Some t) = sym (slice_get-map var_tree t.vars.items m.index)
