-- The types that a template writes, seen from the code's tree.
use Rattle.std.proofs.Common.{◌≡◌, List, ◌++◌, map, sym, ◌∙◌}
use mathlib.Core.List.{map-map}
use Rattle.std.specs.List.{flat_map}
use Rattle.std.specs.Option.{option_to_list}
use Rattle.std.proofs.lemmas.List.Folds.{flat_map-map}
use Rattle.tm_syntax.specs.declared.tree.LocalDef.{LocalDef}
use Rattle.tm_syntax.specs.declared.tree.Param.{Param}
use Rattle.tm_syntax.specs.declared.tree.ProcessDef.{ProcessDef}
use Rattle.tm_syntax.specs.declared.tree.TaskDef.{TaskDef}
use Rattle.tm_syntax.specs.declared.tree.Template.{Template}
use Rattle.tm_syntax.specs.declared.tree.VarDef.{VarDef}
use Rattle.tm_syntax.specs.Tree.{LocalTree, ProcessTree, TaskTree, VarTree}
use Rattle.tm_syntax.specs.Tree.View.{local_tree, process_tree, task_tree, template_tree, var_tree}
use Rattle.tm_syntax.specs.Scopes.Parts.{template_types, written_result}
use Rattle.tm_names.specs.Inner.WrittenTypes.{process_types, task_types}

-- the types of some locals
locals_written : (ls : List LocalDef) →
    map (λ (l : LocalTree). l.ty) (map local_tree ls) ≡ map (λ (l : LocalDef). l.ty) ls
locals_written ls = map-map (λ (l : LocalTree). l.ty) local_tree ls

-- the types of some processes
processes_written : (ps : List ProcessDef) →
    flat_map (λ (p : ProcessTree). map (λ (l : LocalTree). l.ty) p.body.locals) (map process_tree ps)
    ≡ flat_map process_types ps
processes_written ps =
    flat_map-map (λ (p : ProcessTree). map (λ (l : LocalTree). l.ty) p.body.locals) process_tree ps
    ∙ (λ i. flat_map (λ (p : ProcessDef). locals_written p.body.locals.items i) ps)

-- the types of some tasks
tasks_written : (ks : List TaskDef) →
    flat_map (λ (k : TaskTree). option_to_list (written_result k.kind) ++ map (λ (p : Param). p.ty) k.params
    ++ map (λ (l : LocalTree). l.ty) k.body.locals) (map task_tree ks)
    ≡ flat_map task_types ks
tasks_written ks =
    flat_map-map (λ (k : TaskTree). option_to_list (written_result k.kind) ++ map (λ (p : Param). p.ty) k.params
    ++ map (λ (l : LocalTree). l.ty) k.body.locals) task_tree ks
    ∙ (λ i. flat_map (λ (k : TaskDef). option_to_list (written_result k.kind)
    ++ map (λ (p : Param). p.ty) k.params.items ++ locals_written k.body.locals.items i) ks)

-- the types of a template
pub template_written : (t : Template) →
    map (λ (v : VarDef). v.ty) t.vars.items ++ flat_map process_types t.processes.items
    ++ flat_map task_types t.tasks.items
    ≡ template_types (template_tree t)
template_written t = λ i.
    sym (map-map (λ (v : VarTree). v.ty) var_tree t.vars.items) i
    ++ sym (processes_written t.processes.items) i
    ++ sym (tasks_written t.tasks.items) i
