-- The parameter or local of a name, in the tables of a body and in the list of its slots.
use Rattle.std.proofs.Common.{◌≡◌, ℕ, zero, suc, ◌<◌, Bool, true, false, cond, Option, None, Some, List, [], ◌∷◌, ◌++◌, length, map, slice_get, position, find, nat_eq, refl, sym, ap, ◌∙◌, arith}
use Rattle.std.proofs.lemmas.Option.{slice_get-map}
use Rattle.std.specs.Cmp.Lexicographic.{pointwise}
use Rattle.std.specs.Option.{option_map, option_and_then, option_or}
use Rattle.tm_syntax.specs.declared.tree.Ident.{Ident}
use Rattle.tm_syntax.specs.declared.tree.Spec.{Spec}
use Rattle.tm_syntax.specs.declared.tree.Template.{Template}
use Rattle.tm_syntax.specs.declared.tree.ProcessDef.{ProcessDef}
use Rattle.tm_syntax.specs.declared.tree.TaskDef.{TaskDef}
use Rattle.tm_syntax.specs.Tree.View.{spec_tree, template_tree, local_tree, process_tree, task_tree}
use Rattle.tm_syntax.specs.Scopes.Names.{is_spelled, type_of}
use Rattle.tm_syntax.specs.Scopes.Context.{Slot, param_slot, local_slot, process_frame, task_frame, slot_named, slot_of}
use Rattle.tm_scope.specs.declared.context.BodyName.{BodyName}
use Rattle.tm_scope.specs.declared.context.BodyName.TheVariants.{Process, Task, Outside}
use Rattle.tm_scope.specs.declared.members.SlotNumber.{SlotNumber}
use Rattle.tm_scope.specs.declared.members.SlotNumber.TheVariants.{Param, Local}
use Rattle.tm_scope.specs.Context.{body_name}
use Rattle.tm_scope.specs.Members.{body_slots, numbered_slot, slot_at}
use Rattle.tm_scope.specs.Inner.Slots.{slot_number, written_type}
use Rattle.tm_scope.specs.Inner.Tables.{BodySlots}
use Rattle.tm_scope.proofs.FirstNames.{find-map, option_map-option_map}
use Rattle.tm_scope.proofs.Positions.{find-position, position-below}

find-append : {X : Type 0} (p : X → Bool) (xs ys : List X) → find p (xs ++ ys) ≡ option_or (find p xs) (find p ys)
find-append p [] ys = refl
find-append {X} p (x ∷ xs) ys = by (p x) (find-append p xs ys)
  where
    by : (here : Bool) → find p (xs ++ ys) ≡ option_or (find p xs) (find p ys) →
        cond here (Some x) (find p (xs ++ ys)) ≡ option_or (cond here (Some x) (find p xs)) (find p ys)
    by true rest = refl
    by false rest = rest

-- an index within a list has an element
element_at : {X : Type 0} (xs : List X) (k : ℕ) → k < length xs → (x : X) × (slice_get xs k ≡ Some x)
element_at [] k within = absurd (omega arith)
element_at (x ∷ xs) zero within = (x, refl)
element_at (x ∷ xs) (suc k) within = element_at xs k (omega arith)

-- the slots of a body, in order
abbrev pub slots_of : BodySlots → List Slot
slots_of body = map param_slot body.params ++ map local_slot (map local_tree body.locals)

module _ (body : BodySlots) (name : List ℕ) where
  abbrev is_named : Slot → Bool
  is_named s = pointwise nat_eq name s.name

  abbrev param_index : Option ℕ
  param_index = position (λ p. is_spelled name p.name) body.params

  abbrev local_index : Option ℕ
  local_index = position (λ l. is_spelled name l.name) body.locals

  abbrev local_found : Option ℕ → Option Slot
  local_found o = option_map (λ l. local_slot (local_tree l)) (option_and_then (slice_get body.locals) o)

  params_named : find is_named (map param_slot body.params)
      ≡ option_map param_slot (option_and_then (slice_get body.params) param_index)
  params_named =
      find-map is_named param_slot body.params
      ∙ ap (option_map param_slot) (find-position (λ p. is_spelled name p.name) body.params)

  locals_named : find is_named (map local_slot (map local_tree body.locals)) ≡ local_found local_index
  locals_named =
      find-map is_named local_slot (map local_tree body.locals)
      ∙ ap (option_map local_slot) (find-map (λ l. is_named (local_slot l)) local_tree body.locals)
      ∙ option_map-option_map local_tree local_slot (find (λ l. is_spelled name l.name) body.locals)
      ∙ ap (option_map (λ l. local_slot (local_tree l))) (find-position (λ l. is_spelled name l.name) body.locals)

  by_index : (i j : Option ℕ) → param_index ≡ i → local_index ≡ j →
      option_and_then (numbered_slot body) (option_or (option_map (λ k. Param k) i) (option_map (λ k. Local k) j))
      ≡ option_or (option_map param_slot (option_and_then (slice_get body.params) i)) (local_found j)
  by_index (Some k) j is also =
      let at : slice_get body.params k
      ≡ Some (element_at body.params k (position-below (λ p. is_spelled name p.name) body.params k is)).0 =
      (element_at body.params k (position-below (λ p. is_spelled name p.name) body.params k is)).1 in
      ap (option_map param_slot) at
      ∙ sym (ap (λ o. option_or (option_map param_slot o) (local_found j)) at)
  by_index None (Some k) is also = refl
  by_index None None is also = refl

  -- the slot of the number that the tables find is the one of the name
  pub numbered-named : option_and_then (numbered_slot body) (slot_number body name)
      ≡ find (λ (s : Slot). pointwise nat_eq name s.name) (slots_of body)
  numbered-named =
      by_index param_index local_index refl refl
      ∙ sym (find-append is_named (map param_slot body.params) (map local_slot (map local_tree body.locals))
      ∙ (λ i. option_or (params_named i) (locals_named i)))

-- the type of a slot is the one that stands in the text
pub slot_type-written : (body : BodySlots) (slot : SlotNumber) →
    option_map type_of (written_type body slot) ≡ option_map (λ (s : Slot). s.ty) (numbered_slot body slot)
slot_type-written body (Param k) = by (slice_get body.params k)
  where
    by : (o : Option _) → option_map type_of (option_map (λ p. p.ty) o)
        ≡ option_map (λ (s : Slot). s.ty) (option_map param_slot o)
    by None = refl
    by (Some p) = refl
slot_type-written body (Local k) = by (slice_get body.locals k)
  where
    by : (o : Option _) → option_map type_of (option_map (λ l. l.ty) o)
        ≡ option_map (λ (s : Slot). s.ty) (option_map (λ l. local_slot (local_tree l)) o)
    by None = refl
    by (Some l) = refl

-- a path of one name means a slot of the body's tables
pub slot_of-body : (spec : Spec) (t : Template) (body : BodyName) (name : Ident) →
    slot_of (record { spec = spec_tree spec; template = template_tree t; body = body_name body }) (name ∷ [])
    ≡ option_and_then (λ b. option_and_then (numbered_slot b) (slot_number b name.text)) (body_slots t body)
slot_of-body spec t (Process k) name =
    ap (λ o. option_and_then (λ frame. slot_named frame name.text) (option_map process_frame o))
    (slice_get-map process_tree t.processes.items k)
    ∙ by (slice_get t.processes.items k)
  where
    by : (o : Option ProcessDef) →
        option_and_then (λ frame. slot_named frame name.text) (option_map process_frame (option_map process_tree o))
        ≡ option_and_then (λ b. option_and_then (numbered_slot b) (slot_number b name.text))
        (option_map (λ (p : ProcessDef). record { params = []; locals = p.body.locals.items }) o)
    by None = refl
    by (Some p) = sym (numbered-named (record { params = []; locals = p.body.locals.items }) name.text)
slot_of-body spec t (Task k) name =
    ap (λ o. option_and_then (λ frame. slot_named frame name.text)
    (option_map (task_frame (spec_tree spec) (template_tree t)) o))
    (slice_get-map task_tree t.tasks.items k)
    ∙ by (slice_get t.tasks.items k)
  where
    by : (o : Option TaskDef) →
        option_and_then (λ frame. slot_named frame name.text)
        (option_map (task_frame (spec_tree spec) (template_tree t)) (option_map task_tree o))
        ≡ option_and_then (λ b. option_and_then (numbered_slot b) (slot_number b name.text))
        (option_map (λ (k : TaskDef). record { params = k.params.items; locals = k.body.locals.items }) o)
    by None = refl
    by (Some k) = sym (numbered-named (record { params = k.params.items; locals = k.body.locals.items }) name.text)
slot_of-body spec t Outside name = refl

-- the number that the tables find of a name is that of the slot which a path of this one name means
pub slot_of-numbered : (spec : Spec) (t : Template) (body : BodyName) (path : List Ident) (name : Ident)
    (slot : Option SlotNumber) → path ≡ name ∷ [] →
    slot ≡ option_and_then (λ b. slot_number b name.text) (body_slots t body) →
    option_and_then (slot_at (record { spec = spec; template = t; body = body })) slot
    ≡ slot_of (record { spec = spec_tree spec; template = template_tree t; body = body_name body }) path
slot_of-numbered spec t body path name slot one found =
    ap (option_and_then (slot_at (record { spec = spec; template = t; body = body }))) found
    ∙ by (body_slots t body)
    ∙ sym (ap (slot_of (record { spec = spec_tree spec; template = template_tree t; body = body_name body })) one
    ∙ slot_of-body spec t body name)
  where
    by : (o : Option BodySlots) →
        option_and_then (λ s. option_and_then (λ b. numbered_slot b s) o)
        (option_and_then (λ b. slot_number b name.text) o)
        ≡ option_and_then (λ b. option_and_then (numbered_slot b) (slot_number b name.text)) o
    by None = refl
    by (Some b) = refl
