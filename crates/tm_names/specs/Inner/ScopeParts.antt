-- The names of a scope, by the parts that declare them.
use Rattle.std.specs.Prelude.{List, ◌∷◌, ◌++◌, map}
use Rattle.tm_syntax.specs.declared.tree.Ident.{Ident}
use Rattle.tm_syntax.specs.declared.tree.Port.{Port}
use Rattle.tm_syntax.specs.Tree.{VarTree, NamedTree, ProcessTree, TaskTree, InstanceTree, EnumTree, TemplateTree}
use Rattle.tm_syntax.specs.Scopes.Declared.{Declared, declared, a_neighbor, a_part, a_task, a_constant, an_enum, var_sort}

-- the ports and instances of a template
abbrev pub neighbor_members : TemplateTree → List Declared
neighbor_members t =
    map (λ (p : Port). declared (a_neighbor p.template) p.name) t.ports
    ++ map (λ (i : InstanceTree). declared (a_neighbor i.template) i.name) t.instances

-- the variables, goals and fairness conditions of a template
abbrev pub value_members : TemplateTree → List Declared
value_members t =
    map (λ (v : VarTree). declared (var_sort v) v.name) t.vars
    ++ map (λ (g : NamedTree). declared a_part g.name) t.goals
    ++ map (λ (f : NamedTree). declared a_part f.name) t.fairs

-- the processes, tasks and procedures of a template
abbrev pub body_members : TemplateTree → List Declared
body_members t =
    map (λ (p : ProcessTree). declared a_part p.name) t.processes
    ++ map (λ (k : TaskTree). declared a_task k.name) t.tasks

-- an enum and its constants
abbrev pub enum_names : EnumTree → List Declared
enum_names e = declared an_enum e.name ∷ map (λ (c : Ident). declared a_constant c) e.constants
