-- Each cell that a path means in a design of a text holds a type that has a value.
use Rattle.std.proofs.Common.{◌≡◌, ◌⊎◌, inl, inr, ℕ, zero, suc, ◌^◌, ◌<◌, Bool, true, false, cond, Option, None, Some, List, [], ◌∷◌, ◌++◌, map, length, slice_get, refl, sym, ap, ◌∙◌, subst, arith, length-append, true≢false}
use Rattle.std.specs.Prelude.{IfSome, unwrap_or, not, nat_eq, codes, position, ◌||◌}
use Rattle.std.proofs.lemmas.Option.{none-some, same_Some}
use Rattle.std.specs.List.{AllByRecursion, flat_map}
use Rattle.std.specs.Option.{option_map, option_map_or, option_and_then, option_to_list}
use Rattle.std.specs.Cmp.Lexicographic.{pointwise}
use Rattle.tm_syntax.specs.declared.design.Ty.{Ty}
use Rattle.tm_syntax.specs.declared.design.Ty.TheVariants as types
use Rattle.tm_syntax.specs.declared.design.Var.{Var}
use Rattle.tm_syntax.specs.declared.tree.Ident.{Ident}
use Rattle.tm_syntax.specs.declared.tree.Param.{Param}
use Rattle.tm_syntax.specs.declared.tree.Port.{Port}
use Rattle.tm_syntax.specs.declared.tree.TypeName.{TypeName}
use Rattle.tm_syntax.specs.declared.tree.TypeName.TheVariants as written
use Rattle.tm_syntax.specs.declared.token.Token.{Token}
use Rattle.tm_syntax.specs.declared.token.Sign.{Sign}
use Rattle.tm_syntax.specs.Tree.{EnumTree, LocalTree, ProcessTree, TaskTree, VarTree, TemplateTree, SpecTree}
use Rattle.tm_syntax.specs.Scopes.Names.{is_spelled, last_name, type_of}
use Rattle.tm_syntax.specs.Scopes.Declared.{Sort, an_enum, a_constant, a_template, Declared, declared, text_names, text_sort}
use Rattle.tm_syntax.specs.Scopes.Context.{BodyName, process_body, task_body, outside, Slot, param_slot, local_slot, Frame, process_frame, task_frame, frame_of, slot_named}
use Rattle.tm_syntax.specs.Scopes.Parts.{bodies, exprs, template_types, written_result}
use Rattle.tm_syntax.specs.Faults.{IsTyped}
use Rattle.tm_syntax.specs.Faults.Names.{undeclared, unknown_type, unknown_main, unknown_in_instance, unknown_literal, unknown_in_template, unknown_in_expr, unknown_in_body}
use Rattle.tm_syntax.specs.Faults.Mismatches.{misnamed, is_enum, type_faults, var_faults, instance_faults, task_faults, template_faults, body_faults, asked_faults, is_template}
use Rattle.tm_syntax.specs.Faults.Marks.{place_unless}
use Rattle.tm_syntax.specs.Grammar.Parts.{AreEach, each_none, each_more, AreParted, parted_one, parted_more}
use Rattle.tm_syntax.specs.Grammar.Specification.{ItemTree, enum_of, IsItem, item_enum, item_template, enum, IsSpec, spec}
use Rattle.tm_syntax.specs.Grammar.Faults.{IsWithin}
use Rattle.tm_syntax.specs.Design.{DesignTree, member_path}
use Rattle.tm_syntax.specs.Design.Cells.{Cell, in_state, in_step, cell, slot_cell, own_cell, member_cell, variable_at, variable_path}
use Rattle.tm_syntax.specs.Design.Scope.{Scope, Site, site, site_along}
use Rattle.tm_syntax.specs.Design.Sizes.{type_size}
use Rattle.tm_sem.specs.Run.{asked_by}
use Rattle.tm_typing.proofs.Declaring.{IsDeclared, declared_as}
use Rattle.tm_typing.proofs.Fitting.{both_empty, fits_there, not_empty}
use Rattle.tm_typing.proofs.Listed.{In, first_of, later_of, is_first_or_later, in_front, in_behind, in_either, in_map, of_map, in_flat, of_flat, none_of, of_find, found_in, holds_in, in_get, all_join, filter_map_holds}

-- an enum has a constant
abbrev pub HasConstant : EnumTree → Type 0
HasConstant e = 0 < length e.constants

some_parted : {X : Type 0} (by : Sign) (Is : X → List Token → List Token → Type 0) (xs : List X) (a b : List Token) →
    AreParted by Is xs a b → 0 < length xs
some_parted by Is _ a b (parted_one _) = omega arith
some_parted by Is _ a b (parted_more {xs = xs} {x = x} more sign one) = omega (arith, length-append xs (x ∷ []))

each_holds : {X : Type 0} (P : X → Type 0) (Is : X → List Token → List Token → Type 0) →
    ((x : X) (a b : List Token) → Is x a b → P x) → (xs : List X) (a b : List Token) → AreEach Is xs a b →
    AllByRecursion P xs
each_holds P Is holds _ a b each_none = tt
each_holds P Is holds _ a b (each_more {xs = xs} {x = x} {a = p} {b = q} {c = r} more one) =
    all_join P xs (x ∷ []) (each_holds P Is holds xs p q more) (holds x q r one, tt)

item_constants : (text : List ℕ) (May : List Token → ℕ → Type 0) (i : ItemTree) (a b : List Token) →
    IsItem text May 0 i a b → IfSome (enum_of i) HasConstant
item_constants text May _ a b (item_enum (enum {constants = cs} {d = p} {e = q} _ _ _ _ xs _ _ _)) =
    some_parted _ _ cs p q xs
item_constants text May _ a b (item_template _) = tt

-- each enum of a text has a constant
enum_constants : (text : List ℕ) (May : List Token → ℕ → Type 0) (x : SpecTree) (a b : List Token) →
    IsSpec text May x a b → AllByRecursion HasConstant x.enums
enum_constants text May _ a b (spec {items = is} {last = i} {a = p} {b = q} {c = r} xs x) =
    let all = all_join (λ i. IfSome (enum_of i) HasConstant) is (i ∷ [])
    (each_holds (λ i. IfSome (enum_of i) HasConstant) (IsItem text May 0) (item_constants text May) is p q xs)
    (item_constants text May i q r x, tt) in
    filter_map_holds HasConstant enum_of (is ++ i ∷ [])
    (λ y j. holds_in (λ i. IfSome (enum_of i) HasConstant) (is ++ i ∷ []) all j)

-- the names that an enum declares, and those of templates
abbrev pub names_of : EnumTree → List Declared
names_of e = declared an_enum e.name ∷ map (declared a_constant) e.constants

abbrev pub template_names : SpecTree → List Declared
template_names x = map (λ (t : TemplateTree). declared (a_template t) t.name) x.templates

some_power : (n : ℕ) → 0 < 2 ^ n
some_power zero = omega arith
some_power (suc n) = let rest = some_power n in omega arith

-- a type has a value
abbrev pub HasValue : SpecTree → Ty → Type 0
HasValue x ty = 0 < type_size x ty

module _ (x : SpecTree) (checked : IsTyped x) where
  constants : AllByRecursion HasConstant x.enums
  constants = enum_constants checked.of_text.text (IsWithin 0) x checked.of_text.tokens [] checked.of_text.is_tree

  -- a name that is declared as an enum is that of one
  enum_there : (name : Ident) → text_sort x name.text ≡ Some an_enum →
      (e : EnumTree) × In e x.enums × (is_spelled name.text e.name ≡ true)
  enum_there name sort = by (declared_as (text_names x) name.text an_enum sort)
    where
      of_enum : (d : Declared) (e : EnumTree) → In e x.enums → d.sort ≡ an_enum → is_spelled name.text d.name ≡ true →
          (declared an_enum e.name ≡ d) ⊎ In d (map (declared a_constant) e.constants) →
          (e : EnumTree) × In e x.enums × (is_spelled name.text e.name ≡ true)
      of_enum d e at sort spelled (inl is) =
          (e, at, subst (λ (d : Declared). is_spelled name.text d.name ≡ true) (sym is) spelled)
      of_enum d e at sort spelled (inr i) =
          let found = of_map (declared a_constant) e.constants i in
          let same : a_constant ≡ an_enum = ap (λ (d : Declared). d.sort) found.2 ∙ sort in
          absurd (cc)

      of_either : (d : Declared) → d.sort ≡ an_enum → is_spelled name.text d.name ≡ true →
          In d (flat_map names_of x.enums) ⊎ In d (template_names x) →
          (e : EnumTree) × In e x.enums × (is_spelled name.text e.name ≡ true)
      of_either d sort spelled (inl i) =
          let found = of_flat names_of x.enums i in
          of_enum d found.0 found.1 sort spelled
          (is_first_or_later (map (declared a_constant) found.0.constants) found.2)
      of_either d sort spelled (inr i) =
          let found = of_map (λ (t : TemplateTree). declared (a_template t) t.name) x.templates i in
          let same : a_template found.0 ≡ an_enum = ap (λ (d : Declared). d.sort) found.2 ∙ sort in
          absurd (cc)

      by : IsDeclared (text_names x) name.text an_enum →
          (e : EnumTree) × In e x.enums × (is_spelled name.text e.name ≡ true)
      by d = of_either d.at d.sort d.spelled (in_either (flat_map names_of x.enums) (template_names x) d.is)

  -- a type whose name is declared as an enum has a value
  enum_value : (name : Ident) → text_sort x name.text ≡ Some an_enum → HasValue x (types.Enum name.text)
  enum_value name sort =
      let e = enum_there name sort in
      let there = found_in (λ (e : EnumTree). is_spelled name.text e.name) x.enums e.1 e.2 in
      let one = of_find (λ (e : EnumTree). is_spelled name.text e.name) x.enums there.1 in
      let some : 0 < length there.0.constants = holds_in HasConstant x.enums constants one.0 in
      subst (λ (o : Option EnumTree). 0 < option_map_or (λ (e : EnumTree). length e.constants) o 0) (sym there.1) some

  sort_is : (name : Ident) (o : Option Sort) → undeclared o name ≡ [] → misnamed is_enum o name ≡ [] →
      o ≡ Some an_enum
  sort_is name None known fits = not_empty known
  sort_is name (Some sort) known fits = by sort (fits_there (is_enum sort) name.place fits)
    where
      by : (sort : Sort) → is_enum sort ≡ true → Some sort ≡ Some an_enum
      by an_enum e = refl
      by _ e = absurd (true≢false (sym e))

  module _ (t : TemplateTree) (at : In t x.templates) where
    types_known : flat_map (unknown_type x) (template_types t) ≡ []
    types_known =
        let first = both_empty
        (unknown_main x ++ flat_map (unknown_in_template x) x.templates ++ flat_map unknown_in_expr (exprs x))
        (flat_map unknown_in_body (bodies x)) checked.known in
        let second = both_empty (unknown_main x ++ flat_map (unknown_in_template x) x.templates)
        (flat_map unknown_in_expr (exprs x)) first.0 in
        let third = both_empty (unknown_main x) (flat_map (unknown_in_template x) x.templates) second.0 in
        let here = none_of (unknown_in_template x) x.templates third.1 at in
        let ports = flat_map (λ (p : Port). undeclared (text_sort x p.template.text) p.template) t.ports in
        let instances = flat_map (unknown_in_instance x t) t.instances in
        let tys = flat_map (unknown_type x) (template_types t) in
        let vars = flat_map (λ (v : VarTree). flat_map (unknown_literal x) (option_to_list v.init)) t.vars in
        (both_empty (ports ++ instances) tys (both_empty (ports ++ instances ++ tys) vars here).0).1

    types_fit : flat_map (type_faults x) (template_types t) ≡ []
    types_fit =
        let first = both_empty (flat_map (template_faults x) x.templates ++ flat_map body_faults (bodies x))
        (flat_map asked_faults (exprs x)) checked.matching in
        let second = both_empty (flat_map (template_faults x) x.templates) (flat_map body_faults (bodies x)) first.0 in
        let here = none_of (template_faults x) x.templates second.0 at in
        let head = place_unless (not (is_spelled (codes "main") t.name) || nat_eq (length t.ports) 0) t.name.place in
        let ports = flat_map (λ (p : Port). misnamed is_template (text_sort x p.template.text) p.template) t.ports in
        let tys = flat_map (type_faults x) (template_types t) in
        let vars = flat_map (var_faults x) t.vars in
        let instances = flat_map (instance_faults x t) t.instances in
        let tasks = flat_map task_faults t.tasks in
        let without_tasks = both_empty (head ++ ports ++ tys ++ vars ++ instances) tasks here in
        let without_instances = both_empty (head ++ ports ++ tys ++ vars) instances without_tasks.0 in
        let without_vars = both_empty (head ++ ports ++ tys) vars without_instances.0 in
        (both_empty (head ++ ports) tys without_vars.0).1

    -- each type that a template writes has a value
    type_value : (ty : TypeName) → In ty (template_types t) → HasValue x (type_of ty)
    type_value (written.Bool _) i = omega arith
    type_value (written.Uint _ n) i = some_power _
    type_value (written.Enum name) i =
        enum_value name
        (sort_is name (text_sort x name.text) (none_of (unknown_type x) (template_types t) types_known i)
        (none_of (type_faults x) (template_types t) types_fit i))

    -- so has that of each parameter and local
    abbrev pub SlotHasValue : Slot → Type 0
    SlotHasValue s = HasValue x s.ty

    local_slots : (ls : List LocalTree) → ((l : LocalTree) → In l ls → HasValue x (type_of l.ty)) →
        AllByRecursion SlotHasValue (map local_slot ls)
    local_slots [] each = tt
    local_slots (l ∷ ls) each = (each l first_of, local_slots ls (λ m i. each m (later_of i)))

    param_slots : (ps : List Param) → ((p : Param) → In p ps → HasValue x (type_of p.ty)) →
        AllByRecursion SlotHasValue (map param_slot ps)
    param_slots [] each = tt
    param_slots (p ∷ ps) each = (each p first_of, param_slots ps (λ q i. each q (later_of i)))

    process_types : List TypeName
    process_types = flat_map (λ (p : ProcessTree). map (λ (l : LocalTree). l.ty) p.body.locals) t.processes

    types_in : TaskTree → List TypeName
    types_in k = option_to_list (written_result k.kind) ++ map (λ (p : Param). p.ty) k.params
        ++ map (λ (l : LocalTree). l.ty) k.body.locals

    var_types : List TypeName
    var_types = map (λ (v : VarTree). v.ty) t.vars

    process_slots : (p : ProcessTree) → In p t.processes → AllByRecursion SlotHasValue (map local_slot p.body.locals)
    unfolding process_types types_in var_types
    process_slots p i =
        local_slots p.body.locals
        (λ l j. type_value l.ty
        (in_front (var_types ++ process_types) (flat_map types_in t.tasks)
        (in_behind var_types process_types
        (in_flat (λ (p : ProcessTree). map (λ (l : LocalTree). l.ty) p.body.locals) t.processes i
        (in_map (λ (l : LocalTree). l.ty) p.body.locals j)))))

    task_type : (k : TaskTree) (ty : TypeName) → In k t.tasks → In ty (types_in k) → HasValue x (type_of ty)
    unfolding process_types types_in var_types
    task_type k ty i j =
        type_value ty (in_behind (var_types ++ process_types) (flat_map types_in t.tasks)
        (in_flat types_in t.tasks i j))

    task_slots : (k : TaskTree) → In k t.tasks →
        AllByRecursion SlotHasValue (map param_slot k.params ++ map local_slot k.body.locals)
    unfolding types_in
    task_slots k i =
        let result = option_to_list (written_result k.kind) in
        let params = map (λ (p : Param). p.ty) k.params in
        let locals = map (λ (l : LocalTree). l.ty) k.body.locals in
        all_join SlotHasValue (map param_slot k.params) (map local_slot k.body.locals)
        (param_slots k.params
        (λ p j. task_type k p.ty i
        (in_front (result ++ params) locals (in_behind result params (in_map (λ (p : Param). p.ty) k.params j)))))
        (local_slots k.body.locals
        (λ l j. task_type k l.ty i
        (in_behind (result ++ params) locals (in_map (λ (l : LocalTree). l.ty) k.body.locals j))))

    frame_slots : (body : BodyName) (f : Frame) → frame_of x t body ≡ Some f → AllByRecursion SlotHasValue f.slots
    frame_slots (process_body k) f e = by (slice_get t.processes k) refl e
      where
        by : (o : Option ProcessTree) → slice_get t.processes k ≡ o → option_map process_frame o ≡ Some f →
            AllByRecursion SlotHasValue f.slots
        by None there e = absurd (none-some f e)
        by (Some p) there e =
            subst (λ (f : Frame). AllByRecursion SlotHasValue f.slots) (same_Some (process_frame p) f e)
            (process_slots p (in_get t.processes k there))
    frame_slots (task_body k) f e = by (slice_get t.tasks k) refl e
      where
        by : (o : Option TaskTree) → slice_get t.tasks k ≡ o → option_map (task_frame x t) o ≡ Some f →
            AllByRecursion SlotHasValue f.slots
        by None there e = absurd (none-some f e)
        by (Some k) there e =
            subst (λ (f : Frame). AllByRecursion SlotHasValue f.slots) (same_Some (task_frame x t k) f e)
            (task_slots k (in_get t.tasks _ there))
    frame_slots outside f e = absurd (none-some f e)

module _ (d : DesignTree) (checked : IsTyped d.spec) (vars : AllByRecursion (λ (v : Var). HasValue d.spec v.ty) d.vars)
  where
    -- what a cell holds has a value
    abbrev pub CellHasValue : Cell → Type 0
    CellHasValue c = HasValue d.spec (asked_by d (Some c))

    state_value : (k : ℕ) → CellHasValue (in_state k)
    state_value k = by (slice_get d.vars k) refl
      where
        by : (o : Option Var) → slice_get d.vars k ≡ o →
            HasValue d.spec (unwrap_or (option_map (λ (v : Var). v.ty) o) types.Bool)
        by None there = omega arith
        by (Some v) there = holds_in (λ (v : Var). HasValue d.spec v.ty) d.vars vars (in_get d.vars k there)

    variable_value : (path : List ℕ) (c : Cell) → variable_at d path ≡ Some c → CellHasValue c
    variable_value path c = by (position (λ (v : Var). pointwise nat_eq path v.path) d.vars)
      where
        by : (o : Option ℕ) → option_map in_state o ≡ Some c → CellHasValue c
        by None e = absurd (none-some c e)
        by (Some k) e = subst CellHasValue (same_Some (in_state k) c e) (state_value k)

    slot_value : (scope : Scope) (at : Site) (f : Frame) (s : Slot) (c : Cell) → HasValue d.spec s.ty →
        slot_cell d scope at f s ≡ Some c → CellHasValue c
    slot_value scope at f s c has = by f.kept
      where
        by : (b : Bool) →
            cond b (variable_at d (member_path at.node.path f.name ++ 46 ∷ s.name)) (Some (in_step scope s.name s.ty))
            ≡ Some c → CellHasValue c
        by true e = variable_value (member_path at.node.path f.name ++ 46 ∷ s.name) c e
        by false e = subst CellHasValue (same_Some (in_step scope s.name s.ty) c e) has

    named_value : (scope : Scope) (at : Site) (name : Ident) (f : Frame) (c : Cell) →
        AllByRecursion (λ (s : Slot). HasValue d.spec s.ty) f.slots →
        option_and_then (slot_cell d scope at f) (slot_named f name.text) ≡ Some c → CellHasValue c
    named_value scope at name f c all = by (slot_named f name.text) refl
      where
        by : (o : Option Slot) → slot_named f name.text ≡ o → option_and_then (slot_cell d scope at f) o ≡ Some c →
            CellHasValue c
        by None there e = absurd (none-some c e)
        by (Some s) there e =
            slot_value scope at f s c
            (holds_in (λ (s : Slot). HasValue d.spec s.ty) f.slots all
            (of_find (λ (s : Slot). pointwise nat_eq name.text s.name) f.slots there).0) e

    own_value : (scope : Scope) (at : Site) (path : List Ident) (c : Cell) → In at.template d.spec.templates →
        own_cell d scope at path ≡ Some c → CellHasValue c
    own_value scope at [] c i e = absurd (none-some c e)
    own_value scope at (name ∷ next ∷ names) c i e = absurd (none-some c e)
    own_value scope at (name ∷ []) c i e = by (frame_of d.spec at.template scope.body) refl e
      where
        by : (o : Option Frame) → frame_of d.spec at.template scope.body ≡ o →
            option_and_then (λ frame. option_and_then (slot_cell d scope at frame) (slot_named frame name.text)) o
            ≡ Some c → CellHasValue c
        by None there e = absurd (none-some c e)
        by (Some f) there e =
            named_value scope at name f c (frame_slots d.spec checked at.template i scope.body f there) e

    member_value : (at : Site) (path : List Ident) (index : Option ℕ) (c : Cell) →
        member_cell d at path index ≡ Some c →
        CellHasValue c
    member_value at path index c = by (site_along d at path)
      where
        by : (o : Option Site) →
            option_and_then (λ (s : Site). variable_at d (variable_path s.node (last_name path) index)) o ≡ Some c →
            CellHasValue c
        by None e = absurd (none-some c e)
        by (Some s) e = variable_value (variable_path s.node (last_name path) index) c e

    -- the cell that a path means in a body of a template
    cell_value : (scope : Scope) (at : Site) (path : List Ident) (index : Option ℕ) (c : Cell) →
        In at.template d.spec.templates →
        slice_get (option_to_list (own_cell d scope at path) ++ option_to_list (member_cell d at path index)) 0
        ≡ Some c →
        CellHasValue c
    cell_value scope at path index c i =
        by (own_cell d scope at path) refl (member_cell d at path index) refl
      where
        by : (o : Option Cell) → own_cell d scope at path ≡ o → (m : Option Cell) → member_cell d at path index ≡ m →
            slice_get (option_to_list o ++ option_to_list m) 0 ≡ Some c → CellHasValue c
        by (Some own) there m there2 e = own_value scope at path c i (there ∙ e)
        by None there (Some member) there2 e = member_value at path index c (there2 ∙ e)
        by None there None there2 e = absurd (none-some c e)

    -- a target, whatever it is, takes some value
    pub target_value : (scope : Scope) (at : Site) (path : List Ident) (index : Option ℕ) →
        site d scope.instance ≡ Some at → In at.template d.spec.templates →
        0 < type_size d.spec (asked_by d (cell d scope path index))
    target_value scope at path index there i =
        subst (λ (o : Option Site). 0 < type_size d.spec (asked_by d (option_and_then (λ (at : Site).
        slice_get (option_to_list (own_cell d scope at path) ++ option_to_list (member_cell d at path index)) 0) o)))
        (sym there)
        (by (slice_get (option_to_list (own_cell d scope at path) ++ option_to_list (member_cell d at path index)) 0)
        refl)
      where
        by : (o : Option Cell) →
            slice_get (option_to_list (own_cell d scope at path) ++ option_to_list (member_cell d at path index)) 0
            ≡ o →
            0 < type_size d.spec (asked_by d o)
        by None e = omega arith
        by (Some c) e = cell_value scope at path index c i e
