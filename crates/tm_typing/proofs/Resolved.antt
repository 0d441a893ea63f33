-- The paths of a text resolve, where its names are declared once and known.
use Rattle.std.proofs.Common.{◌≡◌, ℕ, Bool, true, false, Option, None, Some, List, [], ◌∷◌, ◌++◌, ◌⊎◌, inl, inr, refl, sym, ap, ◌∙◌, subst}
use Rattle.std.specs.Prelude.{is_some, if◌then◌else◌}
use Rattle.std.specs.Option.{option_map, option_and_then, option_or}
use Rattle.std.specs.List.{find, list_any}
use Rattle.tm_syntax.specs.declared.tree.Ident.{Ident}
use Rattle.tm_syntax.specs.declared.tree.Num.{Num}
use Rattle.tm_syntax.specs.declared.design.Ty.{Ty}
use Rattle.tm_syntax.specs.declared.design.Ty.TheVariants as types
use Rattle.tm_syntax.specs.Tree.{path, VarTree, TaskTree, EnumTree, TemplateTree, SpecTree}
use Rattle.tm_syntax.specs.Scopes.Names.{is_spelled, type_of, last_name, template_along}
use Rattle.tm_syntax.specs.Scopes.Context.{BodyName, Slot, slot_of, variable_of}
use Rattle.tm_syntax.specs.Scopes.Pauses.{task_reached}
use Rattle.tm_syntax.specs.Scopes.Types.{either_type, named_type, constant_type, own_type}
use Rattle.tm_syntax.specs.Scopes.Declared.{Sort, a_neighbor, a_variable, an_array, a_task, a_part, a_constant, an_enum, a_template, Declared, declared, var_sort, members, slots, text_names, sort_in, text_sort, last_meaning, meaning}
use Rattle.tm_syntax.specs.Faults.Names.{unknown_of}
use Rattle.tm_syntax.specs.Faults.Operands.{is_valued, is_indexed, is_assigned, is_called}
use Rattle.tm_typing.specs.HasType.{IsSized}
use Rattle.tm_typing.specs.Statements.{HasTarget}
use Rattle.tm_typing.specs.Resolving.{IsTypedPath, IsArrayPath, Resolves}
use Rattle.tm_typing.proofs.Fitting.{contrary, not_empty, fits_there}
use Rattle.tm_typing.proofs.Listed.{In, in_either, found_in, of_find, some_pass, one_thing, no_thing}
use Rattle.tm_typing.proofs.Declaring.{alike, declared_once, IsDeclared, declared_as}
use Rattle.tm_typing.proofs.Neighbors.{MemberOf, is_port, is_instance, is_var, is_part, is_task, member_of, no_var_sort, var_in, NameOf, is_enum, is_constant, is_template, name_of}
use Rattle.tm_typing.proofs.Slots.{Has, here, slot_found, slot_sized, slot_sort, var_sized}
use Rattle.tm_typing.proofs.Leading.{IsNamed, IsWell, ends_from_body, along_is}

-- where the first of two types is there, or the second, one is there
first_there : (a b : Option Ty) → Has a → Has (either_type a b)
first_there None b has = no_thing has.1
first_there (Some ty) b has = (ty, refl)

second_there : (a b : Option Ty) → Has b → Has (either_type a b)
second_there None b has = has
second_there (Some ty) b has = (ty, refl)

mapped_there : {A B : Type 0} (f : A → B) (o : Option A) → Has o → Has (option_map f o)
mapped_there f o has = (f has.0, ap (option_map f) has.1)

-- a constant has the type of its enum
constant_there : (spec : SpecTree) (e : EnumTree) (name : Ident) (c : Ident) → In e spec.enums → In c e.constants →
    is_spelled name.text c ≡ true → Has (constant_type spec (name ∷ []))
constant_there spec e name c i j same =
    mapped_there (λ (e : EnumTree). types.Enum e.name.text)
    (find (λ (e : EnumTree). list_any (is_spelled name.text) e.constants) spec.enums)
    (found_in (λ (e : EnumTree). list_any (is_spelled name.text) e.constants) spec.enums i
    (some_pass (is_spelled name.text) e.constants j same))

-- no name of the text suits a place that wants none
no_text_name : {X : Type 0} (spec : SpecTree) (name : List ℕ) (suits : Sort → Bool) → suits an_enum ≡ false →
    suits a_constant ≡ false → ((u : TemplateTree) → suits (a_template u) ≡ false) → (sort : Sort) →
    suits sort ≡ true → IsDeclared (text_names spec) name sort → X
no_text_name {X} spec name suits no_enum no_constant no_template sort fits d = by (name_of spec d.at d.is)
  where
    suited : suits d.at.sort ≡ true
    suited = subst (λ s. suits s ≡ true) (sym d.sort) fits

    by : NameOf spec d.at → X
    by (is_enum e) = contrary (sym no_enum ∙ subst (λ s. suits s ≡ true) e suited)
    by (is_template u e) = contrary (sym (no_template u) ∙ subst (λ s. suits s ≡ true) e suited)
    by (is_constant _ _ _ _ e) =
        contrary (sym no_constant ∙ subst (λ s. suits s ≡ true) (ap (λ (x : Declared). x.sort) (sym e)) suited)

module _ (spec : SpecTree) (f : IsNamed spec) (t : TemplateTree) (at : In t spec.templates) (body : BodyName) where
  -- a variable that is found stands in a template of the text
  variable_is : (names : List Ident) (v : VarTree) → variable_of (here spec t body) names ≡ Some v →
      (u : TemplateTree) × In u spec.templates × In v u.vars
  variable_is names v e = by (template_along spec t names) refl e
    where
      by : (o : Option TemplateTree) → template_along spec t names ≡ o →
          option_and_then (λ (u : TemplateTree). find (λ v. is_spelled (last_name names) v.name) u.vars) o ≡ Some v →
          (u : TemplateTree) × In u spec.templates × In v u.vars
      by None is found = no_thing found
      by (Some u) is found = (
        u,
        along_is spec f t u names at is,
        (of_find (λ (v : VarTree). is_spelled (last_name names) v.name) u.vars found).0,
      )

  -- the type of a name has a width that numbers can have
  pub named_sized : (names : List Ident) (ty : Ty) → named_type (here spec t body) names ≡ Some ty → IsSized ty
  named_sized names ty e =
      by (slot_of (here spec t body) names) refl (variable_of (here spec t body) names) refl e
    where
      by : (s : Option Slot) → slot_of (here spec t body) names ≡ s → (v : Option VarTree) →
          variable_of (here spec t body) names ≡ v →
          either_type (option_map (λ s. s.ty) s) (option_map (λ v. type_of v.ty) v) ≡ Some ty → IsSized ty
      by (Some s) slot v variable found =
          subst IsSized (one_thing refl found) (slot_sized spec t body names s (f.sized t at) slot)
      by None slot (Some v) variable found =
          let u = variable_is names v variable in
          subst IsSized (one_thing refl found) (var_sized u.0 v (f.sized u.0 u.1) u.2)
      by None slot None variable found = no_thing found

  -- so has the type of a constant
  own_sized : (names : List Ident) (ty : Ty) → own_type (here spec t body) (path names) ≡ Some ty → IsSized ty
  own_sized names ty e = by (named_type (here spec t body) names) refl e
    where
      constant_sized : (ns : List Ident) → constant_type spec ns ≡ Some ty → IsSized ty
      constant_sized [] is = no_thing is
      constant_sized (n ∷ m ∷ ns) is = no_thing is
      constant_sized (n ∷ []) is =
          of_enum (find (λ (e : EnumTree). list_any (is_spelled n.text) e.constants) spec.enums) is
        where
          of_enum : (o : Option EnumTree) → option_map (λ (e : EnumTree). types.Enum e.name.text) o ≡ Some ty →
              IsSized ty
          of_enum None is = no_thing is
          of_enum (Some e) is = subst IsSized (one_thing refl is) tt

      by : (o : Option Ty) → named_type (here spec t body) names ≡ o →
          either_type o (constant_type spec names) ≡ Some ty → IsSized ty
      by (Some s) is found = subst IsSized (one_thing refl found) (named_sized names s is)
      by None is found = constant_sized names found

  typed_path : (names : List Ident) → Has (own_type (here spec t body) (path names)) →
      IsTypedPath (here spec t body) names
  typed_path names has = record { ty = has.0; sized = own_sized names has.0 has.1; is = has.1 }

  -- a name that a template declares as a variable or array is found
  variable_there : (names : List Ident) (u : TemplateTree) (v : VarTree) → template_along spec t names ≡ Some u →
      In v u.vars → is_spelled (last_name names) v.name ≡ true →
      (w : VarTree) × (variable_of (here spec t body) names ≡ Some w) × In w u.vars
      × (is_spelled (last_name names) w.name ≡ true)
  variable_there names u v along i e =
      let found = found_in (λ (v : VarTree). is_spelled (last_name names) v.name) u.vars i e in
      let passes = of_find (λ (v : VarTree). is_spelled (last_name names) v.name) u.vars found.1 in (
        found.0,
        ap (option_and_then (λ (u : TemplateTree). find (λ v. is_spelled (last_name names) v.name) u.vars)) along
            ∙ found.1,
        passes.0,
        passes.1,
      )

  variable_typed : (names : List Ident) → Has (variable_of (here spec t body) names) →
      Has (named_type (here spec t body) names)
  variable_typed names has =
      second_there (option_map (λ (s : Slot). s.ty) (slot_of (here spec t body) names))
      (option_map (λ (v : VarTree). type_of v.ty) (variable_of (here spec t body) names))
      (mapped_there (λ (v : VarTree). type_of v.ty) (variable_of (here spec t body) names) has)

  -- a member that stands for a value has a type
  member_typed : (names : List Ident) (u : TemplateTree) (d : Declared) → template_along spec t names ≡ Some u →
      In d (members u) → is_spelled (last_name names) d.name ≡ true → is_valued d.sort ≡ true →
      Has (own_type (here spec t body) (path names))
  member_typed names u d along i e fits = by (member_of u d i)
    where
      no_value : {X : Type 0} (sort : Sort) → d.sort ≡ sort → is_valued sort ≡ false → X
      no_value sort is none = contrary (sym none ∙ ap is_valued (sym is) ∙ fits)

      by : MemberOf u d → Has (own_type (here spec t body) (path names))
      by (is_port p _ is) = no_value (a_neighbor p.template) (ap (λ (x : Declared). x.sort) (sym is)) refl
      by (is_instance j _ is) = no_value (a_neighbor j.template) (ap (λ (x : Declared). x.sort) (sym is)) refl
      by (is_part is) = no_value a_part is refl
      by (is_task _ _ is) = no_value a_task (ap (λ (x : Declared). x.sort) (sym is)) refl
      by (is_var v j is) =
          let w = variable_there names u v along j
          (subst (λ (x : Declared). is_spelled (last_name names) x.name ≡ true) (sym is) e) in
          first_there (named_type (here spec t body) names) (constant_type spec names)
          (variable_typed names (w.0, w.1))

  -- a member that stands for an array is one
  member_array : (names : List Ident) (u : TemplateTree) (d : Declared) → template_along spec t names ≡ Some u →
      In u spec.templates → In d (members u) → is_spelled (last_name names) d.name ≡ true →
      is_indexed d.sort ≡ true → IsArrayPath (here spec t body) names
  member_array names u d along inside i e fits = by (member_of u d i)
    where
      no_array : {X : Type 0} (sort : Sort) → d.sort ≡ sort → is_indexed sort ≡ false → X
      no_array sort is none = contrary (sym none ∙ ap is_indexed (sym is) ∙ fits)

      has_length : (w : VarTree) → In w u.vars → is_indexed (var_sort w) ≡ true → (n : Num) × (w.size ≡ Some n)
      has_length w j is = of (w.size) refl is
        where
          of : (o : Option Num) → w.size ≡ o → is_indexed (if is_some o then an_array else a_variable) ≡ true →
              (n : Num) × (w.size ≡ Some n)
          of None size none = contrary none
          of (Some n) size some = (n, size)

      by : MemberOf u d → IsArrayPath (here spec t body) names
      by (is_port p _ is) = no_array (a_neighbor p.template) (ap (λ (x : Declared). x.sort) (sym is)) refl
      by (is_instance j _ is) = no_array (a_neighbor j.template) (ap (λ (x : Declared). x.sort) (sym is)) refl
      by (is_part is) = no_array a_part is refl
      by (is_task _ _ is) = no_array a_task (ap (λ (x : Declared). x.sort) (sym is)) refl
      by (is_var v j is) =
          let w = variable_there names u v along j
          (subst (λ (x : Declared). is_spelled (last_name names) x.name ≡ true) (sym is) e) in
          let one : declared (var_sort w.0) w.0.name ≡ d
          = declared_once (members u) (declared (var_sort w.0) w.0.name) d (f.once u inside) (var_in u w.0 w.2) i
          (alike (last_name names) w.0.name d.name w.3 e) in
          let n = has_length w.0 w.2 (subst (λ (x : Declared). is_indexed x.sort ≡ true) (sym one) fits) in
          let size = f.sizes u inside w.0 w.2 n.0 n.1 in
          let ty = variable_typed names (w.0, w.1) in
          record {
            ty = ty.0;
            length = n.0;
            size = size.0;
            sized = named_sized names ty.0 ty.1;
            is = ty.1;
            written = ap (option_and_then (λ (v : VarTree). v.size)) w.1 ∙ n.1;
            value = size.1;
          }

  -- a name that stands alone for a value has a type
  name_typed : (name : Ident) → IsWell is_valued (meaning (here spec t body) (name ∷ [])) →
      Has (own_type (here spec t body) (path (name ∷ [])))
  name_typed name well =
      by (sort_in (slots t body ++ members t) name.text) refl (text_sort spec name.text) refl well
    where
      Goal : Type 0
      Goal = Has (own_type (here spec t body) (path (name ∷ [])))

      of_text : (sort : Sort) → is_valued sort ≡ true → IsDeclared (text_names spec) name.text sort → Goal
      of_text sort fits d = name_is (name_of spec d.at d.is)
        where
          name_is : NameOf spec d.at → Goal
          name_is (is_enum e) = contrary (subst (λ s. is_valued s ≡ true) (sym d.sort ∙ e) fits)
          name_is (is_template u e) = contrary (subst (λ s. is_valued s ≡ true) (sym d.sort ∙ e) fits)
          name_is (is_constant e c i j is) =
              second_there (named_type (here spec t body) (name ∷ [])) (constant_type spec (name ∷ []))
              (constant_there spec e name c i j
              (subst (λ (x : Declared). is_spelled name.text x.name ≡ true) (sym is) d.spelled))

      of_scope : (sort : Sort) → is_valued sort ≡ true → IsDeclared (slots t body ++ members t) name.text sort → Goal
      of_scope sort fits d = either (in_either (slots t body) (members t) d.is)
        where
          either : In d.at (slots t body) ⊎ In d.at (members t) → Goal
          either (inl i) =
              first_there (named_type (here spec t body) (name ∷ [])) (constant_type spec (name ∷ []))
              (first_there (option_map (λ (s : Slot). s.ty) (slot_of (here spec t body) (name ∷ [])))
              (option_map (λ (v : VarTree). type_of v.ty) (variable_of (here spec t body) (name ∷ [])))
              (mapped_there (λ (s : Slot). s.ty) (slot_of (here spec t body) (name ∷ []))
              (slot_found spec t body name d.at i d.spelled)))
          either (inr i) =
              member_typed (name ∷ []) t d.at refl i d.spelled (subst (λ s. is_valued s ≡ true) (sym d.sort) fits)

      by : (o : Option Sort) → sort_in (slots t body ++ members t) name.text ≡ o → (s : Option Sort) →
          text_sort spec name.text ≡ s → IsWell is_valued (last_meaning name (option_or o s)) → Goal
      by (Some sort) here s there w =
          of_scope sort (fits_there (is_valued sort) name.place w.fits)
          (declared_as (slots t body ++ members t) name.text sort here)
      by None here (Some sort) there w =
          of_text sort (fits_there (is_valued sort) name.place w.fits)
          (declared_as (text_names spec) name.text sort there)
      by None here None there w = not_empty w.known

  -- a name that stands alone for an array is one
  name_array : (name : Ident) → IsWell is_indexed (meaning (here spec t body) (name ∷ [])) →
      IsArrayPath (here spec t body) (name ∷ [])
  name_array name well =
      by (sort_in (slots t body ++ members t) name.text) refl (text_sort spec name.text) refl well
    where
      Goal : Type 0
      Goal = IsArrayPath (here spec t body) (name ∷ [])

      of_text : (sort : Sort) → is_indexed sort ≡ true → IsDeclared (text_names spec) name.text sort → Goal
      of_text sort fits d = name_is (name_of spec d.at d.is)
        where
          name_is : NameOf spec d.at → Goal
          name_is (is_enum e) = contrary (subst (λ s. is_indexed s ≡ true) (sym d.sort ∙ e) fits)
          name_is (is_template u e) = contrary (subst (λ s. is_indexed s ≡ true) (sym d.sort ∙ e) fits)
          name_is (is_constant _ _ _ _ is) =
              contrary (subst (λ s. is_indexed s ≡ true) (sym d.sort ∙ ap (λ (x : Declared). x.sort) (sym is)) fits)

      of_scope : (sort : Sort) → is_indexed sort ≡ true → IsDeclared (slots t body ++ members t) name.text sort → Goal
      of_scope sort fits d = either (in_either (slots t body) (members t) d.is)
        where
          either : In d.at (slots t body) ⊎ In d.at (members t) → Goal
          either (inl i) =
              contrary (subst (λ s. is_indexed s ≡ true) (sym d.sort ∙ slot_sort t body d.at i) fits)
          either (inr i) =
              member_array (name ∷ []) t d.at refl at i d.spelled
              (subst (λ s. is_indexed s ≡ true) (sym d.sort) fits)

      by : (o : Option Sort) → sort_in (slots t body ++ members t) name.text ≡ o → (s : Option Sort) →
          text_sort spec name.text ≡ s → IsWell is_indexed (last_meaning name (option_or o s)) → Goal
      by (Some sort) here s there w =
          of_scope sort (fits_there (is_indexed sort) name.place w.fits)
          (declared_as (slots t body ++ members t) name.text sort here)
      by None here (Some sort) there w =
          of_text sort (fits_there (is_indexed sort) name.place w.fits)
          (declared_as (text_names spec) name.text sort there)
      by None here None there w = not_empty w.known

  -- a path that is known resolves
  pub resolves : (name : Ident) (names : List Ident) → unknown_of (meaning (here spec t body) (name ∷ names)) ≡ [] →
      Resolves (here spec t body) (name ∷ names)
  resolves name [] known = record {
    value = λ fits. typed_path (name ∷ []) (name_typed name (record { known = known; fits = fits }));
    array = λ fits. name_array name (record { known = known; fits = fits });
  }
  resolves name (next ∷ names) known = record {
    value = λ fits.
        let e = ends_from_body spec f t at body name next names is_valued (record { known = known; fits = fits }) in
        let d = declared_as (members e.2.at) (last_name (name ∷ next ∷ names)) e.0 e.2.last in
        typed_path (name ∷ next ∷ names)
        (member_typed (name ∷ next ∷ names) e.2.at d.at e.2.along d.is d.spelled
        (subst (λ s. is_valued s ≡ true) (sym d.sort) e.1));
    array = λ fits.
        let e = ends_from_body spec f t at body name next names is_indexed (record { known = known; fits = fits }) in
        let d = declared_as (members e.2.at) (last_name (name ∷ next ∷ names)) e.0 e.2.last in
        member_array (name ∷ next ∷ names) e.2.at d.at e.2.along e.2.is d.is d.spelled
        (subst (λ s. is_indexed s ≡ true) (sym d.sort) e.1);
  }

  -- a member that is assigned has a type
  member_assigned : (names : List Ident) (u : TemplateTree) (d : Declared) → template_along spec t names ≡ Some u →
      In d (members u) → is_spelled (last_name names) d.name ≡ true → is_assigned d.sort ≡ true →
      Has (named_type (here spec t body) names)
  member_assigned names u d along i e fits = by (member_of u d i)
    where
      no_target : {X : Type 0} (sort : Sort) → d.sort ≡ sort → is_assigned sort ≡ false → X
      no_target sort is none = contrary (sym none ∙ ap is_assigned (sym is) ∙ fits)

      by : MemberOf u d → Has (named_type (here spec t body) names)
      by (is_port p _ is) = no_target (a_neighbor p.template) (ap (λ (x : Declared). x.sort) (sym is)) refl
      by (is_instance j _ is) = no_target (a_neighbor j.template) (ap (λ (x : Declared). x.sort) (sym is)) refl
      by (is_part is) = no_target a_part is refl
      by (is_task _ _ is) = no_target a_task (ap (λ (x : Declared). x.sort) (sym is)) refl
      by (is_var v j is) =
          let w = variable_there names u v along j
          (subst (λ (x : Declared). is_spelled (last_name names) x.name ≡ true) (sym is) e) in
          variable_typed names (w.0, w.1)

  -- a member that is called is a task or procedure
  member_called : (names : List Ident) (u : TemplateTree) (d : Declared) → template_along spec t names ≡ Some u →
      In d (members u) → is_spelled (last_name names) d.name ≡ true → is_called d.sort ≡ true →
      Has (task_reached spec t names)
  member_called names u d along i e fits = by (member_of u d i)
    where
      no_call : {X : Type 0} (sort : Sort) → d.sort ≡ sort → is_called sort ≡ false → X
      no_call sort is none = contrary (sym none ∙ ap is_called (sym is) ∙ fits)

      by : MemberOf u d → Has (task_reached spec t names)
      by (is_port p _ is) = no_call (a_neighbor p.template) (ap (λ (x : Declared). x.sort) (sym is)) refl
      by (is_instance j _ is) = no_call (a_neighbor j.template) (ap (λ (x : Declared). x.sort) (sym is)) refl
      by (is_part is) = no_call a_part is refl
      by (is_var v _ is) =
          no_var_sort v d.sort (ap (λ (x : Declared). x.sort) is)
          (λ array. no_call an_array (sym array) refl) (λ variable. no_call a_variable (sym variable) refl)
      by (is_task k j is) =
          let found = found_in (λ (k : TaskTree). is_spelled (last_name names) k.name) u.tasks j
          (subst (λ (x : Declared). is_spelled (last_name names) x.name ≡ true) (sym is) e) in (
            (u, found.0),
            ap (option_and_then (λ (u : TemplateTree). option_map (λ (k : TaskTree). (u, k))
                (find (λ k. is_spelled (last_name names) k.name) u.tasks))) along
                ∙ ap (option_map (λ (k : TaskTree). (u, k))) found.1,
          )

  -- a name that stands alone and is assigned has a type
  name_assigned : (name : Ident) → IsWell is_assigned (meaning (here spec t body) (name ∷ [])) →
      Has (named_type (here spec t body) (name ∷ []))
  name_assigned name well =
      by (sort_in (slots t body ++ members t) name.text) refl (text_sort spec name.text) refl well
    where
      Goal : Type 0
      Goal = Has (named_type (here spec t body) (name ∷ []))

      of_scope : (sort : Sort) → is_assigned sort ≡ true → IsDeclared (slots t body ++ members t) name.text sort →
          Goal
      of_scope sort fits d = either (in_either (slots t body) (members t) d.is)
        where
          either : In d.at (slots t body) ⊎ In d.at (members t) → Goal
          either (inl i) =
              first_there (option_map (λ (s : Slot). s.ty) (slot_of (here spec t body) (name ∷ [])))
              (option_map (λ (v : VarTree). type_of v.ty) (variable_of (here spec t body) (name ∷ [])))
              (mapped_there (λ (s : Slot). s.ty) (slot_of (here spec t body) (name ∷ []))
              (slot_found spec t body name d.at i d.spelled))
          either (inr i) =
              member_assigned (name ∷ []) t d.at refl i d.spelled
              (subst (λ s. is_assigned s ≡ true) (sym d.sort) fits)

      by : (o : Option Sort) → sort_in (slots t body ++ members t) name.text ≡ o → (s : Option Sort) →
          text_sort spec name.text ≡ s → IsWell is_assigned (last_meaning name (option_or o s)) → Goal
      by (Some sort) here s there w =
          of_scope sort (fits_there (is_assigned sort) name.place w.fits)
          (declared_as (slots t body ++ members t) name.text sort here)
      by None here (Some sort) there w =
          no_text_name spec name.text is_assigned refl refl (λ u. refl) sort
          (fits_there (is_assigned sort) name.place w.fits)
          (declared_as (text_names spec) name.text sort there)
      by None here None there w = not_empty w.known

  -- a name that stands alone and is called is a task or procedure
  name_called : (name : Ident) → IsWell is_called (meaning (here spec t body) (name ∷ [])) →
      Has (task_reached spec t (name ∷ []))
  name_called name well =
      by (sort_in (slots t body ++ members t) name.text) refl (text_sort spec name.text) refl well
    where
      Goal : Type 0
      Goal = Has (task_reached spec t (name ∷ []))

      of_scope : (sort : Sort) → is_called sort ≡ true → IsDeclared (slots t body ++ members t) name.text sort → Goal
      of_scope sort fits d = either (in_either (slots t body) (members t) d.is)
        where
          either : In d.at (slots t body) ⊎ In d.at (members t) → Goal
          either (inl i) =
              contrary (subst (λ s. is_called s ≡ true) (sym d.sort ∙ slot_sort t body d.at i) fits)
          either (inr i) =
              member_called (name ∷ []) t d.at refl i d.spelled
              (subst (λ s. is_called s ≡ true) (sym d.sort) fits)

      by : (o : Option Sort) → sort_in (slots t body ++ members t) name.text ≡ o → (s : Option Sort) →
          text_sort spec name.text ≡ s → IsWell is_called (last_meaning name (option_or o s)) → Goal
      by (Some sort) here s there w =
          of_scope sort (fits_there (is_called sort) name.place w.fits)
          (declared_as (slots t body ++ members t) name.text sort here)
      by None here (Some sort) there w =
          no_text_name spec name.text is_called refl refl (λ u. refl) sort
          (fits_there (is_called sort) name.place w.fits)
          (declared_as (text_names spec) name.text sort there)
      by None here None there w = not_empty w.known

  -- a path that is assigned, and at no fault, has a type
  pub assigned : (name : Ident) (names : List Ident) →
      IsWell is_assigned (meaning (here spec t body) (name ∷ names)) → HasTarget (here spec t body) (name ∷ names)
  assigned name names well = by names well
    where
      target : (ns : List Ident) → Has (named_type (here spec t body) ns) → HasTarget (here spec t body) ns
      target ns has = record { ty = has.0; sized = named_sized ns has.0 has.1; is = has.1 }

      by : (ns : List Ident) → IsWell is_assigned (meaning (here spec t body) (name ∷ ns)) →
          HasTarget (here spec t body) (name ∷ ns)
      by [] w = target (name ∷ []) (name_assigned name w)
      by (next ∷ ns) w =
          let e = ends_from_body spec f t at body name next ns is_assigned w in
          let d = declared_as (members e.2.at) (last_name (name ∷ next ∷ ns)) e.0 e.2.last in
          target (name ∷ next ∷ ns)
          (member_assigned (name ∷ next ∷ ns) e.2.at d.at e.2.along d.is d.spelled
          (subst (λ s. is_assigned s ≡ true) (sym d.sort) e.1))

  -- a path that is called, and at no fault, leads to a task or procedure
  pub called : (name : Ident) (names : List Ident) → IsWell is_called (meaning (here spec t body) (name ∷ names)) →
      Has (task_reached spec t (name ∷ names))
  called name [] w = name_called name w
  called name (next ∷ ns) w =
      let e = ends_from_body spec f t at body name next ns is_called w in
      let d = declared_as (members e.2.at) (last_name (name ∷ next ∷ ns)) e.0 e.2.last in
      member_called (name ∷ next ∷ ns) e.2.at d.at e.2.along d.is d.spelled
      (subst (λ s. is_called s ≡ true) (sym d.sort) e.1)
