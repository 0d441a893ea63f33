-- The members of a template and the slots of its bodies, where no name is declared twice: each is told by its name.
use Rattle.std.proofs.Common.{◌≡◌, true, List, [], ◌++◌, append_assoc, append-nil, sym, ap, ◌∙◌, subst, map}
use Rattle.tm_syntax.specs.declared.tree.Ident.{Ident}
use Rattle.tm_syntax.specs.declared.tree.Port.{Port}
use Rattle.tm_syntax.specs.Tree.{InstanceTree, VarTree, NamedTree, ProcessTree, TaskTree, TemplateTree}
use Rattle.tm_syntax.specs.Scopes.Names.{is_spelled}
use Rattle.tm_syntax.specs.Scopes.Declared.{a_neighbor, a_task, a_part, Declared, declared, var_sort, members}
use Rattle.tm_syntax.specs.Faults.Names.{repeats}
use Rattle.tm_typing.proofs.Declaring.{same_spelling}
use Rattle.tm_typing.proofs.Listed.{In, in_behind, in_map}
use Rattle.tm_design.proofs.Once.{behind_once, apart, one_of_name}

-- names of the same bytes are spelled alike
pub spelled_alike : (a b : Ident) → a.text ≡ b.text → is_spelled a.text b ≡ true
spelled_alike a b same = subst (λ text. is_spelled text b ≡ true) (sym same) (same_spelling b.text)

module _ (t : TemplateTree) where
  abbrev pub ports_of : List Declared
  ports_of = map (λ (p : Port). declared (a_neighbor p.template) p.name) t.ports

  abbrev pub instances_of : List Declared
  instances_of = map (λ (i : InstanceTree). declared (a_neighbor i.template) i.name) t.instances

  abbrev pub vars_of : List Declared
  vars_of = map (λ (v : VarTree). declared (var_sort v) v.name) t.vars

  abbrev pub goals_of : List Declared
  goals_of = map (λ (g : NamedTree). declared a_part g.name) t.goals

  abbrev pub fairs_of : List Declared
  fairs_of = map (λ (f : NamedTree). declared a_part f.name) t.fairs

  abbrev pub processes_of : List Declared
  processes_of = map (λ (p : ProcessTree). declared a_part p.name) t.processes

  abbrev pub tasks_of : List Declared
  tasks_of = map (λ (k : TaskTree). declared a_task k.name) t.tasks

  -- the members sort by sort, those of each before all behind them
  members_are : members t
      ≡ ports_of ++ (instances_of ++ (vars_of ++ (goals_of ++ (fairs_of ++ (processes_of ++ tasks_of)))))
  members_are = simp append_assoc

  module _ (once : repeats (members t) ≡ []) where
    instances_once : repeats (instances_of ++ (vars_of ++ (goals_of ++ (fairs_of ++ (processes_of ++ tasks_of))))) ≡ []
    instances_once =
        behind_once ports_of (instances_of ++ (vars_of ++ (goals_of ++ (fairs_of ++ (processes_of ++ tasks_of)))))
        (ap repeats (sym members_are) ∙ once)

    vars_once : repeats (vars_of ++ (goals_of ++ (fairs_of ++ (processes_of ++ tasks_of)))) ≡ []
    vars_once =
        behind_once instances_of (vars_of ++ (goals_of ++ (fairs_of ++ (processes_of ++ tasks_of)))) instances_once

    processes_once : repeats (processes_of ++ tasks_of) ≡ []
    processes_once =
        behind_once fairs_of (processes_of ++ tasks_of)
        (behind_once goals_of (fairs_of ++ (processes_of ++ tasks_of))
        (behind_once vars_of (goals_of ++ (fairs_of ++ (processes_of ++ tasks_of))) vars_once))

    -- two members of one sort and one name are one
    pub same_instances : (i j : InstanceTree) → In i t.instances → In j t.instances → i.name.text ≡ j.name.text → i ≡ j
    same_instances i j at there same =
        one_of_name (λ (i : InstanceTree). i.name) (λ (i : InstanceTree). a_neighbor i.template) t.instances
        (vars_of ++ (goals_of ++ (fairs_of ++ (processes_of ++ tasks_of)))) i j instances_once at there
        (spelled_alike i.name j.name same)

    pub same_vars : (v w : VarTree) → In v t.vars → In w t.vars → v.name.text ≡ w.name.text → v ≡ w
    same_vars v w at there same =
        one_of_name (λ (v : VarTree). v.name) var_sort t.vars
        (goals_of ++ (fairs_of ++ (processes_of ++ tasks_of))) v w vars_once at there
        (spelled_alike v.name w.name same)

    pub same_processes : (p q : ProcessTree) → In p t.processes → In q t.processes → p.name.text ≡ q.name.text → p ≡ q
    same_processes p q at there same =
        one_of_name (λ (p : ProcessTree). p.name) (λ _. a_part) t.processes tasks_of p q processes_once at there
        (spelled_alike p.name q.name same)

    pub same_tasks : (k l : TaskTree) → In k t.tasks → In l t.tasks → k.name.text ≡ l.name.text → k ≡ l
    same_tasks k l at there same =
        one_of_name (λ (k : TaskTree). k.name) (λ _. a_task) t.tasks [] k l
        (ap repeats (append-nil tasks_of) ∙ behind_once processes_of tasks_of processes_once) at there
        (spelled_alike k.name l.name same)

    -- two members of different sorts have different names
    pub process_or_task : {X : Type 0} (p : ProcessTree) (k : TaskTree) → In p t.processes → In k t.tasks →
        p.name.text ≡ k.name.text → X
    process_or_task p k at there same =
        apart (declared a_part p.name) (declared a_task k.name) processes_of tasks_of processes_once
        (in_map (λ (p : ProcessTree). declared a_part p.name) t.processes at)
        (in_map (λ (k : TaskTree). declared a_task k.name) t.tasks there)
        (spelled_alike p.name k.name same)

    pub instance_or_body : {X : Type 0} (i : InstanceTree) (d : Declared) → In i t.instances →
        In d (processes_of ++ tasks_of) → i.name.text ≡ d.name.text → X
    instance_or_body i d at there same =
        apart (declared (a_neighbor i.template) i.name) d instances_of
        (vars_of ++ (goals_of ++ (fairs_of ++ (processes_of ++ tasks_of)))) instances_once
        (in_map (λ (i : InstanceTree). declared (a_neighbor i.template) i.name) t.instances at)
        (in_behind vars_of (goals_of ++ (fairs_of ++ (processes_of ++ tasks_of)))
        (in_behind goals_of (fairs_of ++ (processes_of ++ tasks_of))
        (in_behind fairs_of (processes_of ++ tasks_of) there)))
        (spelled_alike i.name d.name same)
