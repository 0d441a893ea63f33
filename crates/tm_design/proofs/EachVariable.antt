-- What holds of each variable that a text declares, and of each in which a parameter or local is kept, holds of all
-- variables of its designs.
use Rattle.std.proofs.Common.{ℕ, Bool, true, false, cond, List, [], ◌++◌, map}
use Rattle.std.specs.Prelude.{slice_get}
use Rattle.std.specs.Option.{option_map}
use Rattle.std.specs.List.{AllByRecursion, flat_map, enumerate_from}
use Rattle.tm_syntax.specs.declared.tree.Ident.{Ident}
use Rattle.tm_syntax.specs.declared.tree.Param.{Param}
use Rattle.tm_syntax.specs.declared.tree.TypeName.{TypeName}
use Rattle.tm_syntax.specs.declared.design.Var.{Var}
use Rattle.tm_syntax.specs.Tree.{LocalTree, VarTree, ProcessTree, TaskTree, TemplateTree, SpecTree}
use Rattle.tm_syntax.specs.Scopes.Names.{type_of}
use Rattle.tm_syntax.specs.Scopes.Parts.{template_types}
use Rattle.tm_syntax.specs.Scopes.Pauses.{is_kept}
use Rattle.tm_syntax.specs.Design.{InstanceNode, member_path, literal_value, element_paths, declared_vars, kept_var, process_vars, task_vars, template_of, instance_vars}
use Rattle.tm_typing.proofs.Listed.{In, in_option, in_get, all_join, map_holds, flat_holds}
use Rattle.tm_design.proofs.Holders.{vars_of_all}
use Rattle.tm_design.proofs.WrittenTypes.{process_local_written, param_written, task_local_written}

-- the variable of a declaration, at a path and of an instance
abbrev pub declared_var : SpecTree → VarTree → ℕ → List ℕ → Var
declared_var spec w i base =
    record { path = base; ty = type_of w.ty; init = option_map (literal_value spec) w.init; instance = i }

-- what holds of declared variables
abbrev pub HoldsOfDeclared : SpecTree → (Var → Type 0) → Type 0
HoldsOfDeclared spec P =
    (t : TemplateTree) → In t spec.templates → (w : VarTree) → In w t.vars → (i : ℕ) (base : List ℕ) →
    P (declared_var spec w i base)

-- what holds of kept parameters and locals
abbrev pub HoldsOfKept : SpecTree → (Var → Type 0) → Type 0
HoldsOfKept spec P =
    (t : TemplateTree) → In t spec.templates → (ty : TypeName) → In ty (template_types t) → (i : ℕ) (base : List ℕ)
    (name : Ident) → P (kept_var i base ty name)

module _ (spec : SpecTree) (P : Var → Type 0) (declares : HoldsOfDeclared spec P) (keeps : HoldsOfKept spec P) where
  module _ (t : TemplateTree) (here : In t spec.templates) (i : ℕ) (n : InstanceNode) where
    of_declared : (w : VarTree) → In w t.vars → AllByRecursion P (declared_vars spec i n.path w)
    of_declared w at =
        map_holds P (declared_var spec w i) (element_paths w.size (member_path n.path w.name.text))
        (λ p j. declares t here w at i p)

    of_process : (p : ProcessTree) → In p t.processes → AllByRecursion P (process_vars i n.path p)
    of_process p at =
        map_holds P (λ (l : LocalTree). kept_var i (member_path n.path p.name.text) l.ty l.name) p.body.locals
        (λ l j. keeps t here l.ty (process_local_written t p l at j) i (member_path n.path p.name.text) l.name)

    of_task : (k : TaskTree) → In k t.tasks → AllByRecursion P (task_vars spec t i n.path k)
    of_task k at = by (is_kept spec t k)
      where
        by : (b : Bool) → AllByRecursion P (cond b
            (map (λ (p : Param). kept_var i (member_path n.path k.name.text) p.ty p.name) k.params
            ++ map (λ (l : LocalTree). kept_var i (member_path n.path k.name.text) l.ty l.name) k.body.locals) [])
        by true =
            all_join P (map (λ (p : Param). kept_var i (member_path n.path k.name.text) p.ty p.name) k.params)
            (map (λ (l : LocalTree). kept_var i (member_path n.path k.name.text) l.ty l.name) k.body.locals)
            (map_holds P (λ (p : Param). kept_var i (member_path n.path k.name.text) p.ty p.name) k.params
            (λ p j. keeps t here p.ty (param_written t k p at j) i (member_path n.path k.name.text) p.name))
            (map_holds P (λ (l : LocalTree). kept_var i (member_path n.path k.name.text) l.ty l.name) k.body.locals
            (λ l j. keeps t here l.ty (task_local_written t k l at j) i (member_path n.path k.name.text) l.name))
        by false = tt

    of_template : AllByRecursion P
        (flat_map (declared_vars spec i n.path) t.vars
        ++ flat_map (process_vars i n.path) t.processes
        ++ flat_map (task_vars spec t i n.path) t.tasks)
    of_template =
        all_join P (flat_map (declared_vars spec i n.path) t.vars ++ flat_map (process_vars i n.path) t.processes)
        (flat_map (task_vars spec t i n.path) t.tasks)
        (all_join P (flat_map (declared_vars spec i n.path) t.vars) (flat_map (process_vars i n.path) t.processes)
        (flat_holds P (declared_vars spec i n.path) t.vars of_declared)
        (flat_holds P (process_vars i n.path) t.processes of_process))
        (flat_holds P (task_vars spec t i n.path) t.tasks of_task)

  -- the variables of all instances
  pub holds_of_all : (ns : List InstanceNode) → AllByRecursion P (vars_of_all spec ns)
  holds_of_all ns =
      flat_holds P (instance_vars spec) (enumerate_from 0 ns)
      (λ i j. flat_holds P (λ (t : TemplateTree). flat_map (declared_vars spec i.0 i.1.path) t.vars
      ++ flat_map (process_vars i.0 i.1.path) t.processes
      ++ flat_map (task_vars spec t i.0 i.1.path) t.tasks) (template_of spec i.1)
      (λ t k. of_template t
      (in_get spec.templates i.1.template (in_option (slice_get spec.templates i.1.template) k)) i.0 i.1))
