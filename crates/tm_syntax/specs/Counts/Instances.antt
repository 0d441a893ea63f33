-- The instances of a text by their templates, and what is counted over them.
use Rattle.std.specs.Prelude.{ℕ, zero, suc, ◌+◌, max, not, List, [], ◌∷◌, length, codes, sum_by, count_by}
use Rattle.std.specs.Option.{option_map_or}
use Rattle.std.specs.List.{flat_map, filter}
use Rattle.tm_syntax.specs.Tree.{InstanceTree, ProcessTree, TaskTree, TemplateTree, SpecTree}
use Rattle.tm_syntax.specs.Scopes.Names.{template_named}
use Rattle.tm_syntax.specs.Scopes.Pauses.{is_controllable}

-- the greatest of some numbers, 0 where there are none
abbrev pub greatest : List ℕ → ℕ
greatest [] = 0
greatest (n ∷ ns) = max n (greatest ns)

-- the templates of an instance and of all instances below it, where instances nest at most so deep
abbrev pub templates_below : ℕ → SpecTree → TemplateTree → List TemplateTree
templates_below zero spec t = []
templates_below (suc depth) spec t =
    t ∷ flat_map (λ (i : InstanceTree).
    option_map_or (templates_below depth spec) (template_named spec i.template.text) []) t.instances

-- the template of each instance: no template reaches itself, so they nest at most as deep as there are templates
abbrev pub instance_templates : SpecTree → List TemplateTree
instance_templates spec =
    option_map_or (templates_below (length spec.templates) spec) (template_named spec (codes "main")) []

-- a count, over all instances
abbrev pub total : SpecTree → (TemplateTree → ℕ) → ℕ
total spec count = sum_by count (instance_templates spec)

-- the greatest of some counts, over all instances
abbrev pub greatest_of : SpecTree → (TemplateTree → List ℕ) → ℕ
greatest_of spec counts = greatest (flat_map counts (instance_templates spec))

-- the controllable tasks of a template
abbrev pub controllable_tasks : TemplateTree → List TaskTree
controllable_tasks t = filter (λ (k : TaskTree). is_controllable k.kind) t.tasks

-- the instances, `main` too
abbrev pub count_instances : SpecTree → ℕ
count_instances spec = length (instance_templates spec)

-- the processes
abbrev pub count_processes : SpecTree → ℕ
count_processes spec = total spec (λ t. length t.processes)

-- the goals
abbrev pub count_goals : SpecTree → ℕ
count_goals spec = total spec (λ t. length t.goals)

-- the fairness conditions: the driver's, one of each process that is not lazy, and the declared ones
abbrev pub count_fairness : SpecTree → ℕ
count_fairness spec =
    1 + total spec (λ t. count_by (λ (p : ProcessTree). not p.lazy) t.processes + length t.fairs)

-- the controllable tasks
abbrev pub count_tasks : SpecTree → ℕ
count_tasks spec = total spec (λ t. length (controllable_tasks t))
