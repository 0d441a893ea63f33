-- What holds of all variables of a design, and of all its items of a sort: where it holds of what each instance holds.
use Rattle.std.proofs.Common.{ℕ, Bool, true, false, Option, List, [], ◌++◌, map, cond}
use Rattle.std.specs.Prelude.{Some, IfSome}
use Rattle.std.specs.Bool.{then_some}
use Rattle.std.specs.List.{AllByRecursion, flat_map, filter_map, enumerate_from}
use Rattle.std.specs.Prelude.{slice_get}
use Rattle.tm_syntax.specs.declared.design.Var.{Var}
use Rattle.tm_syntax.specs.declared.design.Item.{Item}
use Rattle.tm_syntax.specs.declared.tree.Ident.{Ident}
use Rattle.tm_syntax.specs.declared.tree.Param.{Param}
use Rattle.tm_syntax.specs.Tree.{LocalTree, VarTree, ProcessTree, TaskTree, TemplateTree, SpecTree}
use Rattle.tm_syntax.specs.Scopes.Pauses.{is_kept}
use Rattle.tm_syntax.specs.Design.{InstanceNode, member_path, declared_vars, kept_var, process_vars, task_vars, template_of, instance_vars, instance_items, all_items}
use Rattle.tm_typing.proofs.Listed.{In, in_get, in_option, holds_in, all_join, flat_holds, filter_map_holds}

-- the parameters and locals of a task, as the variables in which they are kept
abbrev pub slot_vars : ℕ → List ℕ → TaskTree → List Var
slot_vars i base k =
    map (λ (p : Param). kept_var i (member_path base k.name.text) p.ty p.name) k.params
    ++ map (λ (l : LocalTree). kept_var i (member_path base k.name.text) l.ty l.name) k.body.locals

-- it holds of the variables that an instance of a template has: of the parameters and locals of tasks, kept or not
pub record HoldsOf (P : Var → Type 0) (spec : SpecTree) (i : ℕ) (base : List ℕ) (t : TemplateTree) : Type 0 where
  pub vars : AllByRecursion (λ (v : VarTree). AllByRecursion P (declared_vars spec i base v)) t.vars
  pub processes : AllByRecursion (λ (p : ProcessTree). AllByRecursion P (process_vars i base p)) t.processes
  pub tasks : AllByRecursion (λ (k : TaskTree). AllByRecursion P (slot_vars i base k)) t.tasks

module _ (spec : SpecTree) (nodes : List InstanceNode) where
  -- the template of an instance stands in the text
  template_in : (n : InstanceNode) (t : TemplateTree) → In t (template_of spec n) → In t spec.templates
  template_in n t i =
      in_get spec.templates n.template (in_option (slice_get spec.templates n.template) i)

  task_holds : (P : Var → Type 0) (t : TemplateTree) (i : ℕ) (base : List ℕ) (k : TaskTree) →
      AllByRecursion P (slot_vars i base k) → AllByRecursion P (task_vars spec t i base k)
  task_holds P t i base k all = by (is_kept spec t k)
    where
      by : (b : Bool) → AllByRecursion P (cond b (slot_vars i base k) [])
      by true = all
      by false = tt

  template_holds : (P : Var → Type 0) (i : ℕ) (base : List ℕ) (t : TemplateTree) → HoldsOf P spec i base t →
      AllByRecursion P (flat_map (declared_vars spec i base) t.vars ++ flat_map (process_vars i base) t.processes
      ++ flat_map (task_vars spec t i base) t.tasks)
  template_holds P i base t has =
      let vars = flat_map (declared_vars spec i base) t.vars in
      let processes = flat_map (process_vars i base) t.processes in
      let tasks = flat_map (task_vars spec t i base) t.tasks in
      all_join P (vars ++ processes) tasks
      (all_join P vars processes
      (flat_holds P (declared_vars spec i base) t.vars
      (λ v j. holds_in (λ (v : VarTree). AllByRecursion P (declared_vars spec i base v)) t.vars has.vars j))
      (flat_holds P (process_vars i base) t.processes
      (λ p j. holds_in (λ (p : ProcessTree). AllByRecursion P (process_vars i base p)) t.processes has.processes j)))
      (flat_holds P (task_vars spec t i base) t.tasks
      (λ k j. task_holds P t i base k
      (holds_in (λ (k : TaskTree). AllByRecursion P (slot_vars i base k)) t.tasks has.tasks j)))

  pub all_vars : (P : Var → Type 0) →
      ((i : ℕ × InstanceNode) → In i (enumerate_from 0 nodes) → (t : TemplateTree) → In t spec.templates →
      HoldsOf P spec i.0 i.1.path t) → AllByRecursion P (flat_map (instance_vars spec) (enumerate_from 0 nodes))
  all_vars P each =
      flat_holds P (instance_vars spec) (enumerate_from 0 nodes)
      (λ i at. flat_holds P
      (λ t. flat_map (declared_vars spec i.0 i.1.path) t.vars ++ flat_map (process_vars i.0 i.1.path) t.processes
      ++ flat_map (task_vars spec t i.0 i.1.path) t.tasks)
      (template_of spec i.1)
      (λ t j. template_holds P i.0 i.1.path t (each i at t (template_in i.1 t j))))

  kept_or_not : (P : Item → Type 0) (b : Bool) (x : Item) → P x → IfSome (then_some b x) P
  kept_or_not P true x has = has
  kept_or_not P false x has = tt

  pub every_item : {X : Type 0} (P : Item → Type 0) (sort : TemplateTree → List X) (counts : X → Bool)
      (name : X → Ident) → ((i : ℕ × InstanceNode) → In i (enumerate_from 0 nodes) → (t : TemplateTree) →
      In t spec.templates → (x : ℕ × X) → In x (enumerate_from 0 (sort t)) →
      P (record { path = member_path i.1.path (name x.1).text; instance = i.0; index = Some x.0 })) →
      AllByRecursion P (all_items sort counts name spec nodes)
  every_item {X} P sort counts name each =
      flat_holds P (instance_items sort counts name spec) (enumerate_from 0 nodes)
      (λ i at. flat_holds P (λ t. filter_map (item i) (enumerate_from 0 (sort t))) (template_of spec i.1)
      (λ t j. filter_map_holds P (item i) (enumerate_from 0 (sort t))
      (λ x k. kept_or_not P (counts x.1)
      (record { path = member_path i.1.path (name x.1).text; instance = i.0; index = Some x.0 })
      (each i at t (template_in i.1 t j) x k))))
    where
      item : ℕ × InstanceNode → ℕ × X → Option Item
      item i x = then_some (counts x.1) (record {
        path = member_path i.1.path (name x.1).text;
        instance = i.0;
        index = Some x.0;
      })
