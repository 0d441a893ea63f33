-- The types that a checked text writes: each has values.
use Rattle.std.proofs.Common.{◌≡◌, ◌^◌, ◌<◌, ◌≤◌, true, Option, None, Some, [], ◌∷◌, ◌++◌, ◌⊎◌, inl, inr, map, length, refl, sym, ap, ◌∙◌, subst, arith}
use Rattle.std.specs.Prelude.{codes, nat_eq, not, ◌||◌}
use Rattle.std.specs.Option.{option_map_or, option_to_list}
use Rattle.std.specs.List.{flat_map}
use Rattle.std.proofs.Math.Nat.{one-le-pow}
use Rattle.tm_syntax.specs.declared.tree.Ident.{Ident}
use Rattle.tm_syntax.specs.declared.tree.Param.{Param}
use Rattle.tm_syntax.specs.declared.tree.Port.{Port}
use Rattle.tm_syntax.specs.declared.tree.TypeName.{TypeName}
use Rattle.tm_syntax.specs.declared.tree.TypeName.TheVariants as written
use Rattle.tm_syntax.specs.Tree.{LocalTree, VarTree, ProcessTree, TaskTree, EnumTree, TemplateTree, SpecTree}
use Rattle.tm_syntax.specs.Scopes.Names.{is_spelled, type_of, written_width}
use Rattle.tm_syntax.specs.Scopes.Context.{BodyName, Slot, param_slot, local_slot, Frame}
use Rattle.tm_syntax.specs.Scopes.Declared.{Sort, a_slot, a_neighbor, a_variable, an_array, a_task, a_part, a_constant, an_enum, a_template, Declared, declared, text_names, text_sort}
use Rattle.tm_syntax.specs.Scopes.Parts.{bodies, exprs, template_types, written_result}
use Rattle.tm_syntax.specs.Design.Sizes.{type_size}
use Rattle.tm_syntax.specs.Faults.Marks.{place_unless}
use Rattle.tm_syntax.specs.Faults.Names.{undeclared, unknown_type, unknown_literal, unknown_in_instance, unknown_in_template, unknown_main, unknown_in_expr, unknown_in_body}
use Rattle.tm_syntax.specs.Faults.Mismatches.{is_enum, is_template, misnamed, type_faults, var_faults, instance_faults, task_faults, template_faults, body_faults, asked_faults}
use Rattle.tm_syntax.specs.Faults.{IsOfText, IsTyped}
use Rattle.tm_typing.proofs.Declaring.{declared_as}
use Rattle.tm_typing.proofs.Fitting.{contrary, not_empty, both_empty, fits_there}
use Rattle.tm_typing.proofs.Listed.{In, is_first_or_later, in_front, in_behind, in_either, in_map, of_map, in_flat, of_flat, in_get, none_of, of_find, found_in, holds_in}
use Rattle.tm_design.proofs.FilledEnums.{IsFilled, enums_filled}
use Rattle.tm_design.proofs.Frames.{IsFrame, of_process, of_task}

-- ---- what a template writes
pub var_written : (t : TemplateTree) (v : VarTree) → In v t.vars → In v.ty (template_types t)
var_written t v i =
    in_front (map (λ (v : VarTree). v.ty) t.vars
    ++ flat_map (λ (p : ProcessTree). map (λ (l : LocalTree). l.ty) p.body.locals) t.processes)
    (flat_map (λ (k : TaskTree). option_to_list (written_result k.kind) ++ map (λ (p : Param). p.ty) k.params
    ++ map (λ (l : LocalTree). l.ty) k.body.locals) t.tasks)
    (in_front (map (λ (v : VarTree). v.ty) t.vars)
    (flat_map (λ (p : ProcessTree). map (λ (l : LocalTree). l.ty) p.body.locals) t.processes)
    (in_map (λ (v : VarTree). v.ty) t.vars i))

pub process_local_written : (t : TemplateTree) (p : ProcessTree) (l : LocalTree) → In p t.processes →
    In l p.body.locals → In l.ty (template_types t)
process_local_written t p l i j =
    in_front (map (λ (v : VarTree). v.ty) t.vars
    ++ flat_map (λ (p : ProcessTree). map (λ (l : LocalTree). l.ty) p.body.locals) t.processes)
    (flat_map (λ (k : TaskTree). option_to_list (written_result k.kind) ++ map (λ (p : Param). p.ty) k.params
    ++ map (λ (l : LocalTree). l.ty) k.body.locals) t.tasks)
    (in_behind (map (λ (v : VarTree). v.ty) t.vars)
    (flat_map (λ (p : ProcessTree). map (λ (l : LocalTree). l.ty) p.body.locals) t.processes)
    (in_flat (λ (p : ProcessTree). map (λ (l : LocalTree). l.ty) p.body.locals) t.processes i
    (in_map (λ (l : LocalTree). l.ty) p.body.locals j)))

task_written : (t : TemplateTree) (k : TaskTree) (ty : TypeName) → In k t.tasks →
    In ty (option_to_list (written_result k.kind) ++ map (λ (p : Param). p.ty) k.params
    ++ map (λ (l : LocalTree). l.ty) k.body.locals) → In ty (template_types t)
task_written t k ty i j =
    in_behind (map (λ (v : VarTree). v.ty) t.vars
    ++ flat_map (λ (p : ProcessTree). map (λ (l : LocalTree). l.ty) p.body.locals) t.processes)
    (flat_map (λ (k : TaskTree). option_to_list (written_result k.kind) ++ map (λ (p : Param). p.ty) k.params
    ++ map (λ (l : LocalTree). l.ty) k.body.locals) t.tasks)
    (in_flat (λ (k : TaskTree). option_to_list (written_result k.kind) ++ map (λ (p : Param). p.ty) k.params
    ++ map (λ (l : LocalTree). l.ty) k.body.locals) t.tasks i j)

pub param_written : (t : TemplateTree) (k : TaskTree) (p : Param) → In k t.tasks → In p k.params →
    In p.ty (template_types t)
param_written t k p i j =
    task_written t k p.ty i
    (in_front (option_to_list (written_result k.kind) ++ map (λ (p : Param). p.ty) k.params)
    (map (λ (l : LocalTree). l.ty) k.body.locals)
    (in_behind (option_to_list (written_result k.kind)) (map (λ (p : Param). p.ty) k.params)
    (in_map (λ (p : Param). p.ty) k.params j)))

pub task_local_written : (t : TemplateTree) (k : TaskTree) (l : LocalTree) → In k t.tasks → In l k.body.locals →
    In l.ty (template_types t)
task_local_written t k l i j =
    task_written t k l.ty i
    (in_behind (option_to_list (written_result k.kind) ++ map (λ (p : Param). p.ty) k.params)
    (map (λ (l : LocalTree). l.ty) k.body.locals) (in_map (λ (l : LocalTree). l.ty) k.body.locals j))

-- the type of a parameter or local is written
pub slot_written : (spec : SpecTree) (t : TemplateTree) (body : BodyName) (f : Frame) (s : Slot) →
    IsFrame spec t f body → In s f.slots → (ty : TypeName) × In ty (template_types t) × (type_of ty ≡ s.ty)
slot_written spec t _ f s (of_process {k = k} p at is) i =
    let l = of_map local_slot p.body.locals (subst (λ (f : Frame). In s f.slots) (sym is) i) in
    (l.0.ty, process_local_written t p l.0 (in_get t.processes k at) l.1, ap (λ (s : Slot). s.ty) l.2)
slot_written spec t _ f s (of_task {k = k} task at is) i =
    by (in_either (map param_slot task.params) (map local_slot task.body.locals)
    (subst (λ (f : Frame). In s f.slots) (sym is) i))
  where
    by : In s (map param_slot task.params) ⊎ In s (map local_slot task.body.locals) →
        (ty : TypeName) × In ty (template_types t) × (type_of ty ≡ s.ty)
    by (inl j) =
        let p = of_map param_slot task.params j in
        (p.0.ty, param_written t task p.0 (in_get t.tasks k at) p.1, ap (λ (s : Slot). s.ty) p.2)
    by (inr j) =
        let l = of_map local_slot task.body.locals j in
        (l.0.ty, task_local_written t task l.0 (in_get t.tasks k at) l.1, ap (λ (s : Slot). s.ty) l.2)

-- ---- what is declared as an enum is one
module _ (spec : SpecTree) where
  of_enum : (e : EnumTree) (d : Declared) → In d (declared an_enum e.name ∷ map (declared a_constant) e.constants) →
      d.sort ≡ an_enum → e.name ≡ d.name
  of_enum e d i is = by (is_first_or_later (map (declared a_constant) e.constants) i)
    where
      by : (declared an_enum e.name ≡ d) ⊎ In d (map (declared a_constant) e.constants) → e.name ≡ d.name
      by (inl same) = ap (λ (d : Declared). d.name) same
      by (inr j) =
          let c = of_map (declared a_constant) e.constants j in
          absurd (let sorts : a_constant ≡ an_enum = ap (λ (d : Declared). d.sort) c.2 ∙ is in cc)

  enum_declared : (d : Declared) → In d (text_names spec) → d.sort ≡ an_enum →
      (e : EnumTree) × In e spec.enums × (e.name ≡ d.name)
  enum_declared d i is =
      by (in_either (flat_map (λ (e : EnumTree). declared an_enum e.name ∷ map (declared a_constant) e.constants)
      spec.enums) (map (λ (t : TemplateTree). declared (a_template t) t.name) spec.templates) i)
    where
      by : In d (flat_map (λ (e : EnumTree). declared an_enum e.name ∷ map (declared a_constant) e.constants)
          spec.enums)
          ⊎ In d (map (λ (t : TemplateTree). declared (a_template t) t.name) spec.templates) →
          (e : EnumTree) × In e spec.enums × (e.name ≡ d.name)
      by (inl j) =
          let e = of_flat (λ (e : EnumTree). declared an_enum e.name ∷ map (declared a_constant) e.constants)
          spec.enums j in
          (e.0, e.1, of_enum e.0 d e.2 is)
      by (inr j) =
          let t = of_map (λ (t : TemplateTree). declared (a_template t) t.name) spec.templates j in
          absurd (let sorts : a_template t.0 ≡ an_enum = ap (λ (d : Declared). d.sort) t.2 ∙ is in cc)

  -- a name that is known, and is an enum's where it suits its place, is one's
  sort_is : (sort : Sort) → is_enum sort ≡ true → sort ≡ an_enum
  sort_is an_enum e = refl
  sort_is (a_template _) e = contrary e
  sort_is a_slot e = contrary e
  sort_is (a_neighbor _) e = contrary e
  sort_is a_variable e = contrary e
  sort_is an_array e = contrary e
  sort_is a_task e = contrary e
  sort_is a_part e = contrary e
  sort_is a_constant e = contrary e

  enum_there : (n : Ident) → undeclared (text_sort spec n.text) n ≡ [] →
      misnamed is_enum (text_sort spec n.text) n ≡ [] →
      (e : EnumTree) × In e spec.enums × (is_spelled n.text e.name ≡ true)
  enum_there n known suits = by (text_sort spec n.text) refl known suits
    where
      by : (o : Option Sort) → text_sort spec n.text ≡ o → undeclared o n ≡ [] → misnamed is_enum o n ≡ [] →
          (e : EnumTree) × In e spec.enums × (is_spelled n.text e.name ≡ true)
      by None is k s = not_empty k
      by (Some sort) is k s =
          let enum = sort_is sort (fits_there (is_enum sort) n.place s) in
          let d = declared_as (text_names spec) n.text sort is in
          let e = enum_declared d.at d.is (d.sort ∙ enum) in
          (e.0, e.1, subst (λ (m : Ident). is_spelled n.text m ≡ true) (sym e.2) d.spelled)

  -- a type whose name is known and suits has values
  has_values : IsOfText spec → (ty : TypeName) → unknown_type spec ty ≡ [] → type_faults spec ty ≡ [] →
      0 < type_size spec (type_of ty)
  has_values of (written.Bool _) known suits = omega arith
  has_values of (written.Uint _ n) known suits =
      let positive : 1 ≤ 2 ^ written_width n = one-le-pow (written_width n) 2 (omega arith) in positive
  has_values of (written.Enum n) known suits =
      let e = enum_there n known suits in
      let found = found_in (λ (e : EnumTree). is_spelled n.text e.name) spec.enums e.1 e.2 in
      let there = of_find (λ (e : EnumTree). is_spelled n.text e.name) spec.enums found.1 in
      subst (λ o. 0 < option_map_or (λ (e : EnumTree). length e.constants) o 0) (sym found.1)
      (holds_in IsFilled spec.enums (enums_filled spec of) there.0)

module _ (spec : SpecTree) (checked : IsTyped spec) (t : TemplateTree) (here : In t spec.templates) where
  -- nothing of a template is at fault
  template_known : unknown_in_template spec t ≡ []
  template_known =
      let first = both_empty
      (unknown_main spec ++ flat_map (unknown_in_template spec) spec.templates
      ++ flat_map unknown_in_expr (exprs spec))
      (flat_map unknown_in_body (bodies spec)) checked.known in
      let second = both_empty (unknown_main spec ++ flat_map (unknown_in_template spec) spec.templates)
      (flat_map unknown_in_expr (exprs spec)) first.0 in
      let third = both_empty (unknown_main spec) (flat_map (unknown_in_template spec) spec.templates) second.0 in
      none_of (unknown_in_template spec) spec.templates third.1 here

  template_matches : template_faults spec t ≡ []
  template_matches =
      let first = both_empty (flat_map (template_faults spec) spec.templates ++ flat_map body_faults (bodies spec))
      (flat_map asked_faults (exprs spec)) checked.matching in
      let second = both_empty (flat_map (template_faults spec) spec.templates) (flat_map body_faults (bodies spec))
      first.0 in
      none_of (template_faults spec) spec.templates second.0 here

  types_known : flat_map (unknown_type spec) (template_types t) ≡ []
  types_known =
      let ports = flat_map (λ (p : Port). undeclared (text_sort spec p.template.text) p.template) t.ports in
      let instances = flat_map (unknown_in_instance spec t) t.instances in
      let tys = flat_map (unknown_type spec) (template_types t) in
      let vars = flat_map (λ (v : VarTree). flat_map (unknown_literal spec) (option_to_list v.init)) t.vars in
      let first = both_empty (ports ++ instances ++ tys) vars template_known in
      (both_empty (ports ++ instances) tys first.0).1

  -- the types and the variables suit
  suiting : (flat_map (type_faults spec) (template_types t) ≡ []) × (flat_map (var_faults spec) t.vars ≡ [])
  suiting =
      let head = place_unless (not (is_spelled (codes "main") t.name) || nat_eq (length t.ports) 0) t.name.place in
      let ports = flat_map (λ (p : Port). misnamed is_template (text_sort spec p.template.text) p.template) t.ports in
      let tys = flat_map (type_faults spec) (template_types t) in
      let vars = flat_map (var_faults spec) t.vars in
      let instances = flat_map (instance_faults spec t) t.instances in
      let tasks = flat_map task_faults t.tasks in
      let first = both_empty (head ++ ports ++ tys ++ vars ++ instances) tasks template_matches in
      let second = both_empty (head ++ ports ++ tys ++ vars) instances first.0 in
      let third = both_empty (head ++ ports ++ tys) vars second.0 in
      ((both_empty (head ++ ports) tys third.0).1, third.1)

  pub var_suits : (w : VarTree) → In w t.vars → var_faults spec w ≡ []
  var_suits w i = none_of (var_faults spec) t.vars suiting.1 i

  -- a type that a template writes has values
  pub written_has_values : (ty : TypeName) → In ty (template_types t) → 0 < type_size spec (type_of ty)
  written_has_values ty i =
      has_values spec checked.of_text ty (none_of (unknown_type spec) (template_types t) types_known i)
      (none_of (type_faults spec) (template_types t) suiting.0 i)
