-- What stands for an instance is what stands for its template.
use Rattle.std.proofs.Common.{◌≡◌, ◌<◌, ℕ, Option, None, Some, List, [], ◌++◌, length, get_or, slice_get, sym, ap, ◌∙◌}
use Rattle.std.specs.List.{flat_map}
use Rattle.std.specs.Option.{option_and_then, option_map, option_to_list}
use Rattle.std.proofs.lemmas.List.{append-nil}
use Rattle.std.proofs.lemmas.Option.{slice_get-get_or, slice_get-map}
use Rattle.tm_syntax.specs.declared.tree.Spec.{Spec}
use Rattle.tm_syntax.specs.declared.tree.TaskDef.{TaskDef}
use Rattle.tm_syntax.specs.declared.tree.Template.{Template}
use Rattle.tm_syntax.specs.Tree.{SpecTree, TaskTree, TemplateTree}
use Rattle.tm_syntax.specs.Tree.View.{spec_tree, task_tree, template_tree}
use Rattle.tm_syntax.specs.Design.{InstanceNode, instance_vars}
use Rattle.tm_scope.specs.Members.{task_at}
use Rattle.tm_inst.specs.Inner.Listed.{ItemLists, instance_lists, joined, template_lists, template_vars}

-- the template of a number, as plain data
pub template_stands : (spec : Spec) (k : ℕ) (o : Option Template) → slice_get spec.templates.items k ≡ o →
    slice_get (spec_tree spec).templates k ≡ option_map template_tree o
template_stands spec k o is = slice_get-map template_tree spec.templates.items k ∙ ap (option_map template_tree) is

-- what one template gives
one_template : {A : Type 0} (h : TemplateTree → List A) (o : Option TemplateTree) (t : TemplateTree) → o ≡ Some t →
    flat_map h (option_to_list o) ≡ h t
one_template h o t is = ap (λ x. flat_map h (option_to_list x)) is ∙ append-nil (h t)

-- where there is none, nothing is given
no_template : {A : Type 0} (h : TemplateTree → List A) (o : Option TemplateTree) → o ≡ None →
    flat_map h (option_to_list o) ≡ []
no_template h o is = ap (λ x. flat_map h (option_to_list x)) is

-- the variables of an instance are those of its template
pub instance_has_vars : (spec : SpecTree) (i : ℕ) (node : InstanceNode) (t : TemplateTree) →
    slice_get spec.templates node.template ≡ Some t → instance_vars spec (i, node) ≡ template_vars spec i node.path t
instance_has_vars spec i node t is =
    one_template (template_vars spec i node.path) (slice_get spec.templates node.template) t is

pub instance_has_no_vars : (spec : SpecTree) (i : ℕ) (node : InstanceNode) → slice_get spec.templates node.template
    ≡ None →
    instance_vars spec (i, node) ≡ []
instance_has_no_vars spec i node is =
    no_template (template_vars spec i node.path) (slice_get spec.templates node.template) is

-- the items of an instance are those of its template
pub instance_has_lists : (spec : SpecTree) (i : ℕ) (node : InstanceNode) (t : TemplateTree) →
    slice_get spec.templates node.template ≡ Some t → instance_lists spec (i, node) ≡ template_lists i node.path t
instance_has_lists spec i node t is =
    let o = slice_get spec.templates node.template in
    λ j. record {
      processes = one_template (λ u. (template_lists i node.path u).processes) o t is j;
      tasks = one_template (λ u. (template_lists i node.path u).tasks) o t is j;
      goals = one_template (λ u. (template_lists i node.path u).goals) o t is j;
      fairs = one_template (λ u. (template_lists i node.path u).fairs) o t is j;
    }

-- an instance without a template adds nothing
pub nothing_joined : (spec : SpecTree) (i : ℕ) (node : InstanceNode) (old : ItemLists) →
    slice_get spec.templates node.template ≡ None → old ≡ joined old (instance_lists spec (i, node))
nothing_joined spec i node old is =
    let o = slice_get spec.templates node.template in
    λ j. record {
      processes = none old.processes (λ u. (template_lists i node.path u).processes) o is j;
      tasks = none old.tasks (λ u. (template_lists i node.path u).tasks) o is j;
      goals = none old.goals (λ u. (template_lists i node.path u).goals) o is j;
      fairs = none old.fairs (λ u. (template_lists i node.path u).fairs) o is j;
    }
  where
    none : {A : Type 0} (xs : List A) (h : TemplateTree → List A) (o : Option TemplateTree) → o ≡ None →
        xs ≡ xs ++ flat_map h (option_to_list o)
    none xs h o is = sym (append-nil xs) ∙ ap (λ v. xs ++ v) (sym (no_template h o is))

-- a task of a template stands where its numbers say
pub task_stands : (spec : Spec) (at index : ℕ) (t : Template) (k : TaskDef) →
    slice_get spec.templates.items at ≡ Some t → index < length t.tasks.items → k ≡ get_or t.tasks.items index k →
    task_at (spec_tree spec) (record { template = at; index = index }) ≡ Some (template_tree t, task_tree k)
task_stands spec at index t k numbered within is =
    ap (option_and_then (λ (u : TemplateTree). option_map (λ (b : TaskTree). (u, b)) (slice_get u.tasks index)))
    (template_stands spec at (Some t) numbered)
    ∙ ap (option_map (λ (b : TaskTree). (template_tree t, b)))
    (slice_get-map task_tree t.tasks.items index
    ∙ ap (option_map task_tree) (slice_get-get_or t.tasks.items index k within ∙ ap Some (sym is)))
