-- One more instance's items are listed.
use Rattle.std.proofs.Common.{◌≡◌, ℕ, ◌+◌, ◌<◌, ◌≤◌, Option, None, Some, true, List, [], ◌++◌, map, length, drop, get_or, refl, ap, ◌∙◌}
use Rattle.std.specs.List.{cons_option}
use Rattle.tm_syntax.specs.declared.design.Instance.{Instance}
use Rattle.tm_syntax.specs.declared.tree.Named.{Named}
use Rattle.tm_syntax.specs.declared.tree.ProcessDef.{ProcessDef}
use Rattle.tm_syntax.specs.declared.tree.TaskDef.{TaskDef}
use Rattle.tm_syntax.specs.declared.tree.Template.{Template}
use Rattle.tm_syntax.specs.Tree.{NamedTree, ProcessTree, SpecTree, TaskTree}
use Rattle.tm_syntax.specs.Tree.View.{named_tree, process_tree, task_tree, template_tree}
use Rattle.tm_syntax.specs.Scopes.Pauses.{is_controllable}
use Rattle.tm_syntax.specs.Design.{instance_node}
use Rattle.tm_inst.specs.Inner.Listed.{ItemLists, instance_lists, items_from, joined, lists_from, template_lists}
use Rattle.tm_inst.proofs.Listing.{listed_all, listed_more}

-- an element that may be listed stands before the others
pub one_before : {A : Type 0} (o : Option A) (rest : List A) → cons_option o rest ≡ cons_option o [] ++ rest
one_before None rest = refl
one_before (Some x) rest = refl

-- one more instance is listed in all sorts
pub lists_more : (spec : SpecTree) (instances : List Instance) (i : ℕ) (x : Instance) (old new whole : ItemLists) →
    i < length instances → x ≡ get_or instances i x → new ≡ joined old (instance_lists spec (i, instance_node x)) →
    joined old (lists_from spec i (map instance_node (drop i instances))) ≡ whole →
    joined new (lists_from spec (i + 1) (map instance_node (drop (i + 1) instances))) ≡ whole
lists_more spec instances i x old new whole within is pushed before =
    let processes = listed_more (λ k ys. (lists_from spec k (map instance_node ys)).processes)
    (λ k y. (instance_lists spec (k, instance_node y)).processes) (λ k y ys. refl) instances i x old.processes
    new.processes whole.processes within is (ap (λ (l : ItemLists). l.processes) pushed)
    (ap (λ (l : ItemLists). l.processes) before) in
    let tasks = listed_more (λ k ys. (lists_from spec k (map instance_node ys)).tasks)
    (λ k y. (instance_lists spec (k, instance_node y)).tasks) (λ k y ys. refl) instances i x old.tasks
    new.tasks whole.tasks within is (ap (λ (l : ItemLists). l.tasks) pushed)
    (ap (λ (l : ItemLists). l.tasks) before) in
    let goals = listed_more (λ k ys. (lists_from spec k (map instance_node ys)).goals)
    (λ k y. (instance_lists spec (k, instance_node y)).goals) (λ k y ys. refl) instances i x old.goals
    new.goals whole.goals within is (ap (λ (l : ItemLists). l.goals) pushed)
    (ap (λ (l : ItemLists). l.goals) before) in
    let fairs = listed_more (λ k ys. (lists_from spec k (map instance_node ys)).fairs)
    (λ k y. (instance_lists spec (k, instance_node y)).fairs) (λ k y ys. refl) instances i x old.fairs
    new.fairs whole.fairs within is (ap (λ (l : ItemLists). l.fairs) pushed)
    (ap (λ (l : ItemLists). l.fairs) before) in
    λ j. record { processes = processes j; tasks = tasks j; goals = goals j; fairs = fairs j }

-- all instances are listed
pub lists_all : (spec : SpecTree) (instances : List Instance) (i : ℕ) (old whole : ItemLists) → length instances ≤ i →
    joined old (lists_from spec i (map instance_node (drop i instances))) ≡ whole → old ≡ whole
lists_all spec instances i old whole end before =
    let processes = listed_all (λ k ys. (lists_from spec k (map instance_node ys)).processes)
    (λ k y. (instance_lists spec (k, instance_node y)).processes) (λ k y ys. refl) instances i old.processes
    whole.processes refl end (ap (λ (l : ItemLists). l.processes) before) in
    let tasks = listed_all (λ k ys. (lists_from spec k (map instance_node ys)).tasks)
    (λ k y. (instance_lists spec (k, instance_node y)).tasks) (λ k y ys. refl) instances i old.tasks
    whole.tasks refl end (ap (λ (l : ItemLists). l.tasks) before) in
    let goals = listed_all (λ k ys. (lists_from spec k (map instance_node ys)).goals)
    (λ k y. (instance_lists spec (k, instance_node y)).goals) (λ k y ys. refl) instances i old.goals
    whole.goals refl end (ap (λ (l : ItemLists). l.goals) before) in
    let fairs = listed_all (λ k ys. (lists_from spec k (map instance_node ys)).fairs)
    (λ k y. (instance_lists spec (k, instance_node y)).fairs) (λ k y ys. refl) instances i old.fairs
    whole.fairs refl end (ap (λ (l : ItemLists). l.fairs) before) in
    λ j. record { processes = processes j; tasks = tasks j; goals = goals j; fairs = fairs j }

-- the items of each sort of a template are listed one sort behind the other
pub all_sorts_joined : (i : ℕ) (base : List ℕ) (t : Template) (old new : ItemLists) (processes : List ProcessDef)
    (tasks : List TaskDef) (goals fairs : List Named) → processes ≡ t.processes.items → tasks ≡ t.tasks.items →
    goals ≡ t.goals.items → fairs ≡ t.fairs.items →
    new.processes ≡ old.processes
    ++ items_from (λ _. true) (λ (p : ProcessTree). p.name) i base 0 (map process_tree processes) →
    new.tasks ≡ old.tasks ++ items_from (λ (k : TaskTree). is_controllable k.kind) (λ (k : TaskTree). k.name) i base 0
    (map task_tree tasks) →
    new.goals ≡ old.goals ++ items_from (λ _. true) (λ (g : NamedTree). g.name) i base 0 (map named_tree goals) →
    new.fairs ≡ old.fairs ++ items_from (λ _. true) (λ (f : NamedTree). f.name) i base 0 (map named_tree fairs) →
    new ≡ joined old (template_lists i base (template_tree t))
all_sorts_joined i base t old new processes tasks goals fairs own_processes own_tasks own_goals own_fairs
    with_processes with_tasks with_goals with_fairs =
    let of_processes = with_processes ∙ ap (λ ps. old.processes
    ++ items_from (λ _. true) (λ (p : ProcessTree). p.name) i base 0 (map process_tree ps)) own_processes in
    let of_tasks = with_tasks ∙ ap (λ ks. old.tasks ++ items_from (λ (k : TaskTree). is_controllable k.kind)
    (λ (k : TaskTree). k.name) i base 0 (map task_tree ks)) own_tasks in
    let of_goals = with_goals ∙ ap (λ gs. old.goals
    ++ items_from (λ _. true) (λ (g : NamedTree). g.name) i base 0 (map named_tree gs)) own_goals in
    let of_fairs = with_fairs ∙ ap (λ fs. old.fairs
    ++ items_from (λ _. true) (λ (f : NamedTree). f.name) i base 0 (map named_tree fs)) own_fairs in
    λ j. record { processes = of_processes j; tasks = of_tasks j; goals = of_goals j; fairs = of_fairs j }
