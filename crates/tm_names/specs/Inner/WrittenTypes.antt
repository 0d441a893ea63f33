-- The types that the parts of a template write.
use Rattle.std.specs.Prelude.{List, ◌++◌, map}
use Rattle.std.specs.Option.{option_to_list}
use Rattle.tm_syntax.specs.declared.tree.LocalDef.{LocalDef}
use Rattle.tm_syntax.specs.declared.tree.Param.{Param}
use Rattle.tm_syntax.specs.declared.tree.ProcessDef.{ProcessDef}
use Rattle.tm_syntax.specs.declared.tree.TaskDef.{TaskDef}
use Rattle.tm_syntax.specs.declared.tree.TypeName.{TypeName}
use Rattle.tm_syntax.specs.Scopes.Parts.{written_result}

-- the types of the locals of a process
abbrev pub process_types : ProcessDef → List TypeName
process_types p = map (λ (l : LocalDef). l.ty) p.body.locals.items

-- the types of the result, parameters and locals of a task
abbrev pub task_types : TaskDef → List TypeName
task_types k =
    option_to_list (written_result k.kind)
    ++ map (λ (p : Param). p.ty) k.params.items
    ++ map (λ (l : LocalDef). l.ty) k.body.locals.items
