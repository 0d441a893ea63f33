-- The parameters, locals and variables of a text: which are found, and that their types have widths that numbers can
-- have.
use Rattle.std.proofs.Common.{◌≡◌, true, Option, None, Some, List, [], ◌∷◌, ◌++◌, ◌⊎◌, inl, inr, refl, sym, ap, subst, map}
use Rattle.std.specs.Prelude.{slice_get, nat_eq}
use Rattle.std.specs.Option.{option_map, option_and_then, option_map_or, option_to_list}
use Rattle.std.specs.List.{flat_map}
use Rattle.std.specs.Cmp.Lexicographic.{pointwise}
use Rattle.tm_syntax.specs.declared.tree.Ident.{Ident}
use Rattle.tm_syntax.specs.declared.tree.Param.{Param}
use Rattle.tm_syntax.specs.declared.tree.TypeName.{TypeName}
use Rattle.tm_syntax.specs.Tree.{LocalTree, VarTree, ProcessTree, TaskTree, TemplateTree, SpecTree}
use Rattle.tm_syntax.specs.Scopes.Names.{is_spelled, type_of}
use Rattle.tm_syntax.specs.Scopes.Context.{Context, BodyName, process_body, task_body, outside, Slot, param_slot, local_slot, Frame, process_frame, task_frame, frame_of, slot_named, slot_of}
use Rattle.tm_syntax.specs.Scopes.Declared.{a_slot, Declared, declared, locals, task_slots, slots}
use Rattle.tm_syntax.specs.Scopes.Parts.{template_types, written_result}
use Rattle.tm_typing.specs.HasType.{IsSized}
use Rattle.tm_typing.proofs.Listed.{In, first_of, in_front, in_behind, in_either, in_map, of_map, in_flat, in_get, found_in, of_find, one_thing, no_thing}

-- there is something
abbrev pub Has : {A : Type 0} → Option A → Type 0
Has {A} o = (x : A) × (o ≡ Some x)

-- types that a template writes have widths that numbers can have
abbrev pub AreSized : TemplateTree → Type 0
AreSized t = (ty : TypeName) → In ty (template_types t) → IsSized (type_of ty)

var_types : TemplateTree → List TypeName
var_types t = map (λ (v : VarTree). v.ty) t.vars

local_types : TemplateTree → List TypeName
local_types t = flat_map (λ (p : ProcessTree). map (λ (l : LocalTree). l.ty) p.body.locals) t.processes

task_types : TemplateTree → List TypeName
task_types t =
    flat_map (λ (k : TaskTree). option_to_list (written_result k.kind) ++ map (λ (p : Param). p.ty) k.params
    ++ map (λ (l : LocalTree). l.ty) k.body.locals) t.tasks

types_are : (t : TemplateTree) → template_types t ≡ var_types t ++ local_types t ++ task_types t
unfolding var_types local_types task_types
types_are t = refl

sized_in : (t : TemplateTree) (ty : TypeName) → AreSized t → In ty (var_types t ++ local_types t ++ task_types t) →
    IsSized (type_of ty)
sized_in t ty sized i = sized ty (subst (In ty) (sym (types_are t)) i)

pub var_sized : (t : TemplateTree) (v : VarTree) → AreSized t → In v t.vars → IsSized (type_of v.ty)
unfolding var_types
var_sized t v sized i =
    sized_in t v.ty sized
    (in_front (var_types t ++ local_types t) (task_types t)
    (in_front (var_types t) (local_types t) (in_map (λ (v : VarTree). v.ty) t.vars i)))

pub process_local_sized : (t : TemplateTree) (p : ProcessTree) (l : LocalTree) → AreSized t → In p t.processes →
    In l p.body.locals → IsSized (type_of l.ty)
unfolding local_types
process_local_sized t p l sized i j =
    sized_in t l.ty sized
    (in_front (var_types t ++ local_types t) (task_types t)
    (in_behind (var_types t) (local_types t)
    (in_flat (λ (p : ProcessTree). map (λ (l : LocalTree). l.ty) p.body.locals) t.processes i
    (in_map (λ (l : LocalTree). l.ty) p.body.locals j))))

task_sized : (t : TemplateTree) (k : TaskTree) (ty : TypeName) → AreSized t → In k t.tasks →
    In ty (option_to_list (written_result k.kind) ++ map (λ (p : Param). p.ty) k.params
    ++ map (λ (l : LocalTree). l.ty) k.body.locals) → IsSized (type_of ty)
unfolding task_types
task_sized t k ty sized i j =
    sized_in t ty sized
    (in_behind (var_types t ++ local_types t) (task_types t)
    (in_flat (λ (k : TaskTree). option_to_list (written_result k.kind) ++ map (λ (p : Param). p.ty) k.params
    ++ map (λ (l : LocalTree). l.ty) k.body.locals) t.tasks i j))

pub param_sized : (t : TemplateTree) (k : TaskTree) (p : Param) → AreSized t → In k t.tasks → In p k.params →
    IsSized (type_of p.ty)
param_sized t k p sized i j =
    task_sized t k p.ty sized i
    (in_front (option_to_list (written_result k.kind) ++ map (λ (p : Param). p.ty) k.params)
    (map (λ (l : LocalTree). l.ty) k.body.locals)
    (in_behind (option_to_list (written_result k.kind)) (map (λ (p : Param). p.ty) k.params)
    (in_map (λ (p : Param). p.ty) k.params j)))

pub task_local_sized : (t : TemplateTree) (k : TaskTree) (l : LocalTree) → AreSized t → In k t.tasks →
    In l k.body.locals → IsSized (type_of l.ty)
task_local_sized t k l sized i j =
    task_sized t k l.ty sized i
    (in_behind (option_to_list (written_result k.kind) ++ map (λ (p : Param). p.ty) k.params)
    (map (λ (l : LocalTree). l.ty) k.body.locals) (in_map (λ (l : LocalTree). l.ty) k.body.locals j))

pub result_sized : (t : TemplateTree) (k : TaskTree) (ty : TypeName) → AreSized t → In k t.tasks →
    written_result k.kind ≡ Some ty → IsSized (type_of ty)
result_sized t k ty sized i is =
    task_sized t k ty sized i
    (in_front (option_to_list (written_result k.kind) ++ map (λ (p : Param). p.ty) k.params)
    (map (λ (l : LocalTree). l.ty) k.body.locals)
    (in_front (option_to_list (written_result k.kind)) (map (λ (p : Param). p.ty) k.params)
    (subst (λ o. In ty (option_to_list o)) (sym is) first_of)))

module _ (spec : SpecTree) (t : TemplateTree) where
  -- where the text of a body of the template stands
  abbrev pub here : BodyName → Context
  here body = record { spec = spec; template = t; body = body }

  slots_sized : (body : BodyName) (frame : Frame) (s : Slot) → AreSized t → frame_of spec t body ≡ Some frame →
      In s frame.slots → IsSized s.ty
  slots_sized (process_body k) frame s sized is i = by (slice_get t.processes k) refl is
    where
      by : (o : Option ProcessTree) → slice_get t.processes k ≡ o → option_map process_frame o ≡ Some frame →
          IsSized s.ty
      by None at e = no_thing e
      by (Some p) at e =
          let same : process_frame p ≡ frame = one_thing refl e in
          let found = of_map local_slot p.body.locals (subst (λ (f : Frame). In s f.slots) (sym same) i) in
          subst (λ (s : Slot). IsSized s.ty) found.2
          (process_local_sized t p found.0 sized (in_get t.processes k at) found.1)
  slots_sized (task_body k) frame s sized is i = by (slice_get t.tasks k) refl is
    where
      either : (task : TaskTree) → In task t.tasks →
          In s (map param_slot task.params) ⊎ In s (map local_slot task.body.locals) → IsSized s.ty
      either task at (inl j) =
          let found = of_map param_slot task.params j in
          subst (λ (s : Slot). IsSized s.ty) found.2 (param_sized t task found.0 sized at found.1)
      either task at (inr j) =
          let found = of_map local_slot task.body.locals j in
          subst (λ (s : Slot). IsSized s.ty) found.2 (task_local_sized t task found.0 sized at found.1)

      by : (o : Option TaskTree) → slice_get t.tasks k ≡ o → option_map (task_frame spec t) o ≡ Some frame →
          IsSized s.ty
      by None at e = no_thing e
      by (Some task) at e =
          let same : task_frame spec t task ≡ frame = one_thing refl e in
          either task (in_get t.tasks k at)
          (in_either (map param_slot task.params) (map local_slot task.body.locals)
          (subst (λ (f : Frame). In s f.slots) (sym same) i))
  slots_sized outside frame s sized is i = no_thing is

  -- a parameter or local has a type whose width numbers can have
  pub slot_sized : (body : BodyName) (names : List Ident) (s : Slot) → AreSized t →
      slot_of (here body) names ≡ Some s → IsSized s.ty
  slot_sized body [] s sized is = no_thing is
  slot_sized body (name ∷ next ∷ names) s sized is = no_thing is
  slot_sized body (name ∷ []) s sized is = by (frame_of spec t body) refl is
    where
      by : (o : Option Frame) → frame_of spec t body ≡ o →
          option_and_then (λ (frame : Frame). slot_named frame name.text) o ≡ Some s → IsSized s.ty
      by None at e = no_thing e
      by (Some frame) at e =
          slots_sized body frame s sized at
          (of_find (λ (x : Slot). pointwise nat_eq name.text x.name) frame.slots e).0

  -- a name that is declared as a parameter or local is found
  pub slot_found : (body : BodyName) (name : Ident) (d : Declared) → In d (slots t body) →
      is_spelled name.text d.name ≡ true → Has (slot_of (here body) (name ∷ []))
  slot_found (process_body k) name d i e = by (slice_get t.processes k) refl i
    where
      by : (o : Option ProcessTree) → slice_get t.processes k ≡ o →
          In d (option_map_or (λ (p : ProcessTree). locals p.body) o []) →
          Has (option_and_then (λ (frame : Frame). slot_named frame name.text) (option_map process_frame o))
      by None at j = elim j [ ]
      by (Some p) at j =
          let l = of_map (λ (l : LocalTree). declared a_slot l.name) p.body.locals j in
          found_in (λ (x : Slot). pointwise nat_eq name.text x.name) (map local_slot p.body.locals)
          (in_map local_slot p.body.locals l.1)
          (subst (λ (x : Declared). is_spelled name.text x.name ≡ true) (sym l.2) e)
  slot_found (task_body k) name d i e = by (slice_get t.tasks k) refl i
    where
      either : (task : TaskTree) →
          In d (map (λ (p : Param). declared a_slot p.name) task.params) ⊎ In d (locals task.body) →
          Has (slot_named (task_frame spec t task) name.text)
      either task (inl j) =
          let p = of_map (λ (p : Param). declared a_slot p.name) task.params j in
          found_in (λ (x : Slot). pointwise nat_eq name.text x.name)
          (map param_slot task.params ++ map local_slot task.body.locals)
          (in_front (map param_slot task.params) (map local_slot task.body.locals) (in_map param_slot task.params p.1))
          (subst (λ (x : Declared). is_spelled name.text x.name ≡ true) (sym p.2) e)
      either task (inr j) =
          let l = of_map (λ (l : LocalTree). declared a_slot l.name) task.body.locals j in
          found_in (λ (x : Slot). pointwise nat_eq name.text x.name)
          (map param_slot task.params ++ map local_slot task.body.locals)
          (in_behind (map param_slot task.params) (map local_slot task.body.locals)
          (in_map local_slot task.body.locals l.1))
          (subst (λ (x : Declared). is_spelled name.text x.name ≡ true) (sym l.2) e)

      by : (o : Option TaskTree) → slice_get t.tasks k ≡ o → In d (option_map_or task_slots o []) →
          Has (option_and_then (λ (frame : Frame). slot_named frame name.text) (option_map (task_frame spec t) o))
      by None at j = elim j [ ]
      by (Some task) at j =
          either task (in_either (map (λ (p : Param). declared a_slot p.name) task.params) (locals task.body) j)
  slot_found outside name d i e = elim i [ ]

-- what a body declares is a parameter or a local
pub slot_sort : (t : TemplateTree) (body : BodyName) (d : Declared) → In d (slots t body) → d.sort ≡ a_slot
slot_sort t (process_body k) d i = by (slice_get t.processes k) i
  where
    by : (o : Option ProcessTree) → In d (option_map_or (λ (p : ProcessTree). locals p.body) o []) → d.sort ≡ a_slot
    by None j = elim j [ ]
    by (Some p) j =
        let l = of_map (λ (l : LocalTree). declared a_slot l.name) p.body.locals j in
        ap (λ (x : Declared). x.sort) (sym l.2)
slot_sort t (task_body k) d i = by (slice_get t.tasks k) i
  where
    either : (task : TaskTree) →
        In d (map (λ (p : Param). declared a_slot p.name) task.params) ⊎ In d (locals task.body) → d.sort ≡ a_slot
    either task (inl j) =
        let p = of_map (λ (p : Param). declared a_slot p.name) task.params j in
        ap (λ (x : Declared). x.sort) (sym p.2)
    either task (inr j) =
        let l = of_map (λ (l : LocalTree). declared a_slot l.name) task.body.locals j in
        ap (λ (x : Declared). x.sort) (sym l.2)

    by : (o : Option TaskTree) → In d (option_map_or task_slots o []) → d.sort ≡ a_slot
    by None j = elim j [ ]
    by (Some task) j =
        either task (in_either (map (λ (p : Param). declared a_slot p.name) task.params) (locals task.body) j)
slot_sort t outside d i = elim i [ ]
