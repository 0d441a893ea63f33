-- In a text that declares no name twice in a scope, the parameters and locals of a body have names of their own.
use Rattle.std.proofs.Common.{◌≡◌, ℕ, zero, suc, ◌+◌, ◌<◌, Option, None, Some, List, [], ◌∷◌, ◌++◌, length, map, refl, sym, ap, ◌∙◌, arith}
use Rattle.std.specs.Prelude.{slice_get}
use Rattle.std.specs.List.{flat_map}
use Rattle.std.specs.Option.{option_map, option_map_or, option_and_then}
use Rattle.std.proofs.lemmas.Option.{none-some, same_Some, slice_get-map, slice_get_within}
use Rattle.tm_syntax.specs.declared.design.Instance.{Instance}
use Rattle.tm_syntax.specs.declared.tree.LocalDef.{LocalDef}
use Rattle.tm_syntax.specs.declared.tree.Param.{Param}
use Rattle.tm_syntax.specs.declared.tree.ProcessDef.{ProcessDef}
use Rattle.tm_syntax.specs.declared.tree.TaskDef.{TaskDef}
use Rattle.tm_syntax.specs.declared.tree.Template.{Template}
use Rattle.tm_syntax.specs.Tree.{LocalTree, ProcessTree, TemplateTree, SpecTree}
use Rattle.tm_syntax.specs.Tree.View.{local_tree, process_tree, task_tree, template_tree, spec_tree}
use Rattle.tm_syntax.specs.Scopes.Context.{Slot, param_slot, local_slot}
use Rattle.tm_syntax.specs.Scopes.Declared as names
use Rattle.tm_syntax.specs.Scopes.Declared.{Declared, a_slot, declared, members, slots}
use Rattle.tm_syntax.specs.Scopes.Parts.{BodyAt, bodies}
use Rattle.tm_syntax.specs.Faults.Names.{names_twice, repeats}
use Rattle.tm_typing.proofs.Fitting.{both_empty}
use Rattle.tm_typing.proofs.Listed.{In, first_of, in_get, none_of}
use Rattle.tm_scope.specs.Cells.{CellTables}
use Rattle.tm_scope.specs.Context.{body_name}
use Rattle.tm_scope.specs.Inner.Tables.{BodySlots, process_slots, task_slots}
use Rattle.tm_scope.specs.Members.{body_slots, numbered_slot}
use Rattle.tm_scope.specs.declared.cells.site_body.SiteBody.{SiteBody}
use Rattle.tm_scope.specs.declared.context.BodyName.{BodyName}
use Rattle.tm_scope.specs.declared.context.BodyName.TheVariants.{Process, Task, Outside}
use Rattle.tm_scope.specs.declared.members.SlotNumber.{SlotNumber}
use Rattle.tm_scope.specs.declared.members.SlotNumber.TheVariants.{Param as of_param, Local as of_local}
use Rattle.tm_design.proofs.Frames.{each_body_once}
use Rattle.tm_design.proofs.Once.{apart, behind_once}
use Rattle.tm_design.proofs.Parts.{spelled_alike}
use Rattle.tm_design.specs.StepCells.{AreApart}

-- where no name is declared twice, a name tells at which index it is declared
one_index : (ds : List Declared) (i j : ℕ) (d e : Declared) → repeats ds ≡ [] → slice_get ds i ≡ Some d →
    slice_get ds j ≡ Some e → d.name.text ≡ e.name.text → i ≡ j
one_index [] i j d e once here there same = absurd (none-some d here)
one_index (x ∷ ds) zero zero d e once here there same = refl
one_index (x ∷ ds) zero (suc j) d e once here there same =
    apart x e (x ∷ []) ds once first_of (in_get ds j there)
    (spelled_alike x.name e.name (ap (λ (y : Declared). y.name.text) (same_Some x d here) ∙ same))
one_index (x ∷ ds) (suc i) zero d e once here there same =
    apart x d (x ∷ []) ds once first_of (in_get ds i here)
    (spelled_alike x.name d.name (ap (λ (y : Declared). y.name.text) (same_Some x e there) ∙ sym same))
one_index (x ∷ ds) (suc i) (suc j) d e once here there same =
    ap suc (one_index ds i j d e (behind_once (x ∷ []) ds once) here there same)

-- what stands in the first of two lists, and in the second one
in_first : {X : Type 0} (xs ys : List X) (k : ℕ) (x : X) → slice_get xs k ≡ Some x → slice_get (xs ++ ys) k ≡ Some x
in_first [] ys k x at = absurd (none-some x at)
in_first (y ∷ xs) ys zero x at = at
in_first (y ∷ xs) ys (suc k) x at = in_first xs ys k x at

in_second : {X : Type 0} (xs ys : List X) (k : ℕ) → slice_get (xs ++ ys) (length xs + k) ≡ slice_get ys k
in_second [] ys k =
    let same : 0 + k ≡ k = omega arith in
    ap (slice_get ys) same
in_second (x ∷ xs) ys k =
    let same : length (x ∷ xs) + k ≡ suc (length xs + k) = omega arith in
    ap (slice_get (x ∷ xs ++ ys)) same ∙ in_second xs ys k

-- ---- the parameters and locals of a body
abbrev declare_param : Param → Declared
declare_param p = declared a_slot p.name

abbrev declare_local : LocalDef → Declared
declare_local l = declared a_slot l.name

abbrev declared_in : BodySlots → List Declared
declared_in body = map declare_param body.params ++ map declare_local body.locals

-- the index of a parameter or local among them
abbrev place_of : BodySlots → SlotNumber → ℕ
place_of body (of_param k) = k
place_of body (of_local k) = length (map declare_param body.params) + k

param_at : (body : BodySlots) (k : ℕ) (s : Slot) → numbered_slot body (of_param k) ≡ Some s →
    (p : Param) × (slice_get body.params k ≡ Some p) × (p.name.text ≡ s.name)
param_at body k s is = by (slice_get body.params k) refl is
  where
    by : (o : Option Param) → slice_get body.params k ≡ o → option_map param_slot o ≡ Some s →
        (p : Param) × (slice_get body.params k ≡ Some p) × (p.name.text ≡ s.name)
    by None at h = absurd (none-some s h)
    by (Some p) at h = (p, at, ap (λ (s : Slot). s.name) (same_Some (param_slot p) s h))

local_at : (body : BodySlots) (k : ℕ) (s : Slot) → numbered_slot body (of_local k) ≡ Some s →
    (l : LocalDef) × (slice_get body.locals k ≡ Some l) × (l.name.text ≡ s.name)
local_at body k s is = by (slice_get body.locals k) refl is
  where
    by : (o : Option LocalDef) → slice_get body.locals k ≡ o →
        option_map (λ (l : LocalDef). local_slot (local_tree l)) o ≡ Some s →
        (l : LocalDef) × (slice_get body.locals k ≡ Some l) × (l.name.text ≡ s.name)
    by None at h = absurd (none-some s h)
    by (Some l) at h = (l, at, ap (λ (s : Slot). s.name) (same_Some (local_slot (local_tree l)) s h))

param_declared : (body : BodySlots) (k : ℕ) (p : Param) → slice_get body.params k ≡ Some p →
    slice_get (map declare_param body.params) k ≡ Some (declare_param p)
param_declared body k p at = slice_get-map declare_param body.params k ∙ ap (option_map declare_param) at

-- each is declared at its index
at_place : (body : BodySlots) (n : SlotNumber) (s : Slot) → numbered_slot body n ≡ Some s →
    (d : Declared) × (slice_get (declared_in body) (place_of body n) ≡ Some d) × (d.name.text ≡ s.name)
at_place body (of_param k) s is =
    let found = param_at body k s is in (
      declare_param found.0,
      in_first (map declare_param body.params) (map declare_local body.locals) k (declare_param found.0)
          (param_declared body k found.0 found.1),
      found.2,
    )
at_place body (of_local k) s is =
    let found = local_at body k s is in (
      declare_local found.0,
      in_second (map declare_param body.params) (map declare_local body.locals) k
          ∙ slice_get-map declare_local body.locals k
          ∙ ap (option_map declare_local) found.1,
      found.2,
    )

-- parameters stand before locals
before_locals : (body : BodySlots) (k : ℕ) (s : Slot) → numbered_slot body (of_param k) ≡ Some s →
    k < length (map declare_param body.params)
before_locals body k s is =
    let found = param_at body k s is in
    slice_get_within (map declare_param body.params) k (declare_param found.0) (param_declared body k found.0 found.1)

one_place : (body : BodySlots) (m n : SlotNumber) (r s : Slot) → numbered_slot body m ≡ Some r →
    numbered_slot body n ≡ Some s → place_of body m ≡ place_of body n → m ≡ n
one_place body (of_param i) (of_param j) r s here there same = ap of_param same
one_place body (of_local i) (of_local j) r s here there same =
    let index : i ≡ j = omega (arith, same) in
    ap of_local index
one_place body (of_param i) (of_local j) r s here there same =
    let below = before_locals body i r here in
    absurd (omega (arith, below, same))
one_place body (of_local i) (of_param j) r s here there same =
    let below = before_locals body j s there in
    absurd (omega (arith, below, same))

one_slot : (body : BodySlots) (behind : List Declared) (m n : SlotNumber) (r s : Slot) →
    repeats (declared_in body ++ behind) ≡ [] → numbered_slot body m ≡ Some r → numbered_slot body n ≡ Some s →
    r.name ≡ s.name → m ≡ n
one_slot body behind m n r s once here there same =
    let first = at_place body m r here in
    let second = at_place body n s there in
    one_place body m n r s here there
    (one_index (declared_in body ++ behind) (place_of body m) (place_of body n) first.0 second.0 once
    (in_first (declared_in body) behind (place_of body m) first.0 first.1)
    (in_first (declared_in body) behind (place_of body n) second.0 second.1) (first.2 ∙ same ∙ sym second.2))

-- ---- the bodies of a template declare what their tables say
locals_are : (ls : List LocalDef) →
    map (λ (l : LocalTree). declared a_slot l.name) (map local_tree ls) ≡ map declare_local ls
locals_are [] = refl
locals_are (l ∷ ls) = ap (λ ds. declare_local l ∷ ds) (locals_are ls)

slots_are : (t : Template) (at : BodyName) (body : BodySlots) → body_slots t at ≡ Some body →
    slots (template_tree t) (body_name at) ≡ declared_in body
slots_are t (Process k) body is = by (slice_get t.processes.items k) refl is
  where
    by : (o : Option ProcessDef) → slice_get t.processes.items k ≡ o → option_map process_slots o ≡ Some body →
        slots (template_tree t) (body_name (Process k)) ≡ declared_in body
    by None at h = absurd (none-some body h)
    by (Some p) at h =
        ap (λ o. option_map_or (λ (p : ProcessTree). names.locals p.body) o [])
        (slice_get-map process_tree t.processes.items k ∙ ap (option_map process_tree) at)
        ∙ locals_are p.body.locals.items
        ∙ ap declared_in (same_Some (process_slots p) body h)
slots_are t (Task k) body is = by (slice_get t.tasks.items k) refl is
  where
    by : (o : Option TaskDef) → slice_get t.tasks.items k ≡ o → option_map task_slots o ≡ Some body →
        slots (template_tree t) (body_name (Task k)) ≡ declared_in body
    by None at h = absurd (none-some body h)
    by (Some task) at h =
        ap (λ o. option_map_or names.task_slots o [])
        (slice_get-map task_tree t.tasks.items k ∙ ap (option_map task_tree) at)
        ∙ ap (λ ds. map declare_param task.params.items ++ ds) (locals_are task.body.locals.items)
        ∙ ap declared_in (same_Some (task_slots task) body h)
slots_are t Outside body is = absurd (none-some body is)

-- ---- the bodies of a text
members_once : (spec : SpecTree) (t : TemplateTree) → names_twice spec ≡ [] → In t spec.templates →
    repeats (members t) ≡ []
members_once spec t once here =
    let templates = flat_map (λ (t : TemplateTree). repeats (members t)) spec.templates in
    let front = both_empty (repeats (names.text_names spec) ++ templates)
    (flat_map (λ (b : BodyAt). repeats (slots b.context.template b.context.body ++ members b.context.template))
    (bodies spec)) once in
    none_of (λ (t : TemplateTree). repeats (members t)) spec.templates
    (both_empty (repeats (names.text_names spec)) templates front.0).1 here

module _ (x : CellTables) (once : names_twice (spec_tree x.spec) ≡ []) where
  body_once : (number : ℕ) (t : Template) (at : BodyName) (body : BodySlots) →
      slice_get x.spec.templates.items number ≡ Some t → body_slots t at ≡ Some body →
      repeats (declared_in body ++ members (template_tree t)) ≡ []
  body_once number t at body there is =
      let spec = spec_tree x.spec in
      let stands : In (template_tree t) spec.templates =
      in_get spec.templates number
      (slice_get-map template_tree x.spec.templates.items number ∙ ap (option_map template_tree) there) in
      ap (λ ds. repeats (ds ++ members (template_tree t))) (sym (slots_are t at body is))
      ∙ each_body_once spec (template_tree t) (body_name at) once stands
      (members_once spec (template_tree t) once stands)

  slots_once : (number : ℕ) (at : BodyName) (m n : SlotNumber) (r s : Slot) (t : Option Template)
      (body : Option BodySlots) → slice_get x.spec.templates.items number ≡ t →
      option_and_then (λ t. body_slots t at) t ≡ body →
      option_and_then (λ body. numbered_slot body m) body ≡ Some r →
      option_and_then (λ body. numbered_slot body n) body ≡ Some s → r.name ≡ s.name → m ≡ n
  slots_once number at m n r s t None there is here other same = absurd (none-some r here)
  slots_once number at m n r s None (Some body) there is here other same = absurd (none-some body is)
  slots_once number at m n r s (Some t) (Some body) there is here other same =
      one_slot body (members (template_tree t)) m n r s (body_once number t at body there is) here other same

  pub slots_apart : AreApart x
  slots_apart = record {
    slots = λ at m n r s here there same. by at m n r s (slice_get x.instances at.instance) here there same;
  }
    where
      by : (at : SiteBody) (m n : SlotNumber) (r s : Slot) (o : Option Instance) →
          option_and_then (λ body. numbered_slot body m) (option_and_then (λ (i : Instance).
          option_and_then (λ t. body_slots t at.body) (slice_get x.spec.templates.items i.template)) o) ≡ Some r →
          option_and_then (λ body. numbered_slot body n) (option_and_then (λ (i : Instance).
          option_and_then (λ t. body_slots t at.body) (slice_get x.spec.templates.items i.template)) o) ≡ Some s →
          r.name ≡ s.name → m ≡ n
      by at m n r s None here there same = absurd (none-some r here)
      by at m n r s (Some i) here there same =
          slots_once i.template at.body m n r s (slice_get x.spec.templates.items i.template)
          (option_and_then (λ t. body_slots t at.body) (slice_get x.spec.templates.items i.template)) refl refl here
          there same
