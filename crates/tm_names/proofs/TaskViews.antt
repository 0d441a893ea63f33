-- The task of a number, seen from the code's tree.
use Rattle.std.proofs.Common.{◌≡◌, ℕ, Option, None, Some, List, slice_get, refl, sym, ap, ◌∙◌}
use Rattle.std.specs.Option.{option_and_then, option_map}
use Rattle.std.proofs.lemmas.Option.{slice_get-map}
use Rattle.tm_syntax.specs.declared.tree.Ident.{Ident}
use Rattle.tm_syntax.specs.declared.tree.Spec.{Spec}
use Rattle.tm_syntax.specs.declared.tree.TaskDef.{TaskDef}
use Rattle.tm_syntax.specs.declared.tree.Template.{Template}
use Rattle.tm_syntax.specs.Tree.{TaskTree, TemplateTree}
use Rattle.tm_syntax.specs.Tree.View.{spec_tree, task_tree, template_tree}
use Rattle.tm_syntax.specs.Scopes.Pauses.{task_reached}
use Rattle.tm_scope.specs.Members.{task_at}
use Rattle.tm_syntax.specs.Scopes.Calls.{task_number}
use Rattle.tm_syntax.specs.declared.member.Member.{Member}
use Rattle.tm_scope.proofs.Meanings.{task_at_number}

-- the task of a number in a specification of the code
abbrev pub task_def : Spec → Member → Option TaskDef
task_def s m =
    option_and_then (λ (t : Template). slice_get t.tasks.items m.index) (slice_get s.templates.items m.template)

-- as plain data it is the task of that number in the tree
pub task_def-tree : (s : Spec) (m : Member) →
    option_map task_tree (task_def s m)
    ≡ option_map (λ (k : TemplateTree × TaskTree). k.1) (task_at (spec_tree s) m)
task_def-tree s m =
    by (slice_get s.templates.items m.template)
    ∙ ap (λ o. option_map (λ (k : TemplateTree × TaskTree). k.1)
    (option_and_then (λ (t : TemplateTree). option_map (λ k. (t, k)) (slice_get t.tasks m.index)) o))
    (sym (slice_get-map template_tree s.templates.items m.template))
  where
    inner : (t : TemplateTree) (o : Option TaskDef) →
        option_map task_tree o
        ≡ option_map (λ (k : TemplateTree × TaskTree). k.1) (option_map (λ k. (t, k)) (option_map task_tree o))
    inner t None = refl
    inner t (Some k) = refl

    by : (o : Option Template) →
        option_map task_tree (option_and_then (λ (t : Template). slice_get t.tasks.items m.index) o)
        ≡ option_map (λ (k : TemplateTree × TaskTree). k.1)
        (option_and_then (λ (t : TemplateTree). option_map (λ k. (t, k)) (slice_get t.tasks m.index))
        (option_map template_tree o))
    by None = refl
    by (Some t) =
        inner (template_tree t) (slice_get t.tasks.items m.index)
        ∙ ap (λ o. option_map (λ (k : TemplateTree × TaskTree). k.1) (option_map (λ k. (template_tree t, k)) o))
        (sym (slice_get-map task_tree t.tasks.items m.index))

-- the task that a path reaches from the template of a number
pub task_def-reached : (s : Spec) (number : ℕ) (t : Template) (path : List Ident) →
    slice_get s.templates.items number ≡ Some t →
    option_map task_tree (option_and_then (task_def s) (task_number (spec_tree s) number path))
    ≡ option_map (λ (k : TemplateTree × TaskTree). k.1) (task_reached (spec_tree s) (template_tree t) path)
task_def-reached s number t path is =
    each (task_number (spec_tree s) number path)
    ∙ ap (option_map (λ (k : TemplateTree × TaskTree). k.1))
    (task_at_number (spec_tree s) path number
    ∙ ap (option_and_then (λ u. task_reached (spec_tree s) u path))
    (slice_get-map template_tree s.templates.items number ∙ ap (option_map template_tree) is))
  where
    each : (o : Option Member) →
        option_map task_tree (option_and_then (task_def s) o)
        ≡ option_map (λ (k : TemplateTree × TaskTree). k.1) (option_and_then (task_at (spec_tree s)) o)
    each None = refl
    each (Some m) = task_def-tree s m
