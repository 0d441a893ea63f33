-- The bodies of a template, from one of its processes or tasks on.
use Rattle.std.specs.Prelude.{ℕ, List, Option, map}
use Rattle.std.specs.List.{enumerate_from}
use Rattle.std.specs.Option.{option_to_list}
use Rattle.tm_syntax.specs.declared.tree.ProcessDef.{ProcessDef}
use Rattle.tm_syntax.specs.declared.tree.TaskDef.{TaskDef}
use Rattle.tm_syntax.specs.Tree.{BodyTree, ExprTree, TemplateTree, SpecTree}
use Rattle.tm_syntax.specs.Tree.View.{process_tree, task_tree}
use Rattle.tm_syntax.specs.Scopes.Context.{Context}
use Rattle.tm_syntax.specs.Scopes.Parts.{Asked, result_asked, BodyAt, process_body_at, task_body_at}
use Rattle.tm_scope.specs.Context.{body_name}
use Rattle.tm_scope.specs.declared.context.BodyName.{BodyName}

-- a body of this name in a template
abbrev pub placed : SpecTree → TemplateTree → BodyName → BodyTree → BodyAt
placed spec t name body =
    record { context = record { spec = spec; template = t; body = body_name name }; body = body }

-- the bodies of processes, the first of which has this number
abbrev pub process_bodies : SpecTree → TemplateTree → ℕ → List ProcessDef → List BodyAt
process_bodies spec t first ps = map (process_body_at spec t) (enumerate_from first (map process_tree ps))

-- the bodies of tasks, the first of which has this number
abbrev pub task_bodies : SpecTree → TemplateTree → ℕ → List TaskDef → List BodyAt
task_bodies spec t first ks = map (task_body_at spec t) (enumerate_from first (map task_tree ks))

-- the expression of a body's result, with the type that is asked for
abbrev pub asked_answer : Context → Option ExprTree → List Asked
asked_answer c answer = map (λ e. record { ty = result_asked c.template c.body; expr = e }) (option_to_list answer)
