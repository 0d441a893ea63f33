use Rattle.std.proofs.Common.{◌≡◌, None, Some, sym, ap, ◌∙◌}
use Rattle.std.specs.Option.{option_and_then, option_copied, option_map}
use Rattle.tm_syntax.specs.declared.tree.Spec.{Spec}
use Rattle.tm_syntax.specs.Tree.{TaskTree, TemplateTree}
use Rattle.tm_syntax.specs.Tree.View.{spec_tree, task_tree, template_tree}
use Rattle.tm_syntax.specs.Scopes.Pauses.{task_reached}
use Rattle.tm_scope.specs.Context.{BodyPlace}
use Rattle.tm_syntax.specs.Scopes.Calls.{task_number}
use Rattle.tm_names.proofs.TaskViews.{task_def, task_def-reached}
use Rattle.tm_names.proofs.parts.site.Site.task_of.Goals as goal

pub returns-in_err-task_number : goal.returns-in_err-task_number
returns-in_err-task_number c =
    let s : Spec = c.self.inside.names.now in
    let t = c.self.inside.types.template in
    let path = c.args.path.now in
    let none : task_number (spec_tree s) c.self.inside.template path ≡ None =
    sym (c.task_number.ensures
    ∙ ap (λ (u : Spec). task_number (spec_tree u) c.self.inside.template path) c.tables-tables.ensures)
    ∙ c.in_err-task_number.was in
    ap (λ r. option_map task_tree (option_copied r)) c.from_residual.ensures
    ∙ ap (λ o. option_map task_tree (option_and_then (task_def s) o)) (sym none)
    ∙ task_def-reached s c.self.inside.template t path c.self.invariant.is_there
    ∙ ap (λ (u : Spec). option_map (λ (k : TemplateTree × TaskTree). k.1)
    (task_reached (spec_tree u) (template_tree t) path)) (sym c.self.invariant.same)
    ∙ ap (λ (at : BodyPlace). option_map (λ (k : TemplateTree × TaskTree). k.1)
    (task_reached (spec_tree at.spec) (template_tree at.template) path)) c.self.view_is

pub returns : goal.returns
returns c =
    let s : Spec = c.self.inside.names.now in
    let t = c.self.inside.types.template in
    let path = c.args.path.now in
    let some : task_number (spec_tree s) c.self.inside.template path ≡ Some c.in_ok-task_number.field-0 =
    sym (c.task_number.ensures
    ∙ ap (λ (u : Spec). task_number (spec_tree u) c.self.inside.template path) c.tables-tables.ensures)
    ∙ c.in_ok-task_number.was in
    ap (option_map task_tree) (c.task.ensures.def
    ∙ ap (λ (u : Spec). task_def u c.in_ok-task_number.field-0) c.tables-tables.ensures)
    ∙ ap (λ o. option_map task_tree (option_and_then (task_def s) o)) (sym some)
    ∙ task_def-reached s c.self.inside.template t path c.self.invariant.is_there
    ∙ ap (λ (u : Spec). option_map (λ (k : TemplateTree × TaskTree). k.1)
    (task_reached (spec_tree u) (template_tree t) path)) (sym c.self.invariant.same)
    ∙ ap (λ (at : BodyPlace). option_map (λ (k : TemplateTree × TaskTree). k.1)
    (task_reached (spec_tree at.spec) (template_tree at.template) path)) c.self.view_is
