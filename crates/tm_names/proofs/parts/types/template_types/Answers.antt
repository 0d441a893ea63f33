use Rattle.std.proofs.Common.{[], ◌++◌, map, ap, ◌∙◌}
use Rattle.std.specs.List.{flat_map}
use Rattle.tm_syntax.specs.declared.tree.VarDef.{VarDef}
use Rattle.tm_names.specs.Parts.{listed_types}
use Rattle.tm_names.specs.Inner.WrittenTypes.{process_types, task_types}
use Rattle.tm_names.proofs.ListSteps.{three_more}
use Rattle.tm_names.proofs.TypeLists.{template_written}
use Rattle.tm_names.proofs.parts.types.template_types.Goals as goal

pub returns : goal.returns
returns c =
    let t = c.args.template.now in
    three_more [] (map (λ (v : VarDef). v.ty) t.vars.items) (flat_map process_types t.processes.items)
    (flat_map task_types t.tasks.items) (listed_types c.push_types.new.types.items)
    (listed_types c.push_process_types.new.types.items) (listed_types c.push_task_types.new.types.items)
    (c.in_ok-push_types.ensures
    ∙ ap (λ xs. listed_types xs ++ map (λ (v : VarDef). v.ty) c.as_slice.result.now) c.new-types.ensures.items
    ∙ ap (map (λ (v : VarDef). v.ty)) c.as_slice.ensures.value)
    (c.in_ok-push_process_types.ensures
    ∙ ap (λ ps. listed_types c.push_types.new.types.items ++ flat_map process_types ps) c.as_slice-2.ensures.value)
    (c.in_ok-push_task_types.ensures
    ∙ ap (λ ks. listed_types c.push_process_types.new.types.items ++ flat_map task_types ks)
    c.as_slice-3.ensures.value)
    ∙ template_written t
