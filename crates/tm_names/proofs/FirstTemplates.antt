-- The template that a name is declared as stands first among those at the place where the name is first declared.
use Rattle.std.proofs.Common.{◌≡◌, ◌<◌, ℕ, Bool, true, false, ◌&&◌, cond, Option, None, Some, List, [], ◌∷◌, ◌++◌, map, find, is_some, length, position, slice_get, refl, sym, ap, ◌∙◌, subst}
use Rattle.std.specs.Prelude.{IfSome}
use Rattle.std.proofs.lemmas.Option.{none-some, same_Some}
use Rattle.std.specs.List.{filter, flat_map}
use Rattle.std.specs.Option.{option_and_then, option_map, option_map_or, option_or}
use Rattle.std.specs.Cmp.Lexicographic.{bytes_decides}
use Rattle.tm_base.specs.declared.place.Place.{Place}
use Rattle.tm_syntax.specs.declared.tree.Ident.{Ident}
use Rattle.tm_syntax.specs.declared.tree.Spec.{Spec}
use Rattle.tm_syntax.specs.declared.tree.Template.{Template}
use Rattle.tm_syntax.specs.Places.{is_before, earlier, earliest}
use Rattle.tm_syntax.specs.Tree.{EnumTree, TemplateTree, SpecTree}
use Rattle.tm_syntax.specs.Tree.View.{spec_tree, template_tree}
use Rattle.tm_syntax.specs.Scopes.Names.{is_spelled}
use Rattle.tm_syntax.specs.Scopes.Declared.{Declared, declared, a_constant, a_template, an_enum, template_in, text_names, text_sort}
use Rattle.tm_scope.proofs.FirstNames.{find-map}
use Rattle.tm_scope.proofs.Positions.{find-position, position-map, position-within}
use Rattle.tm_names.specs.Sorts.{first_declared}
use Rattle.tm_names.specs.Inner.TemplateNumbers.{is_same_place, stands_first}
use Rattle.tm_names.proofs.Repeats.{not_before_itself}

same_as_itself : (a : Place) → is_same_place a a ≡ true
same_as_itself a = rw (not_before_itself a) refl

not_same_if_before : (a b : Place) → is_before a b ≡ true → is_same_place a b ≡ false
not_same_if_before a b before = rw before refl

-- the earliest one is the first of those at its place
module _ {X : Type 0} (place : X → Place) where
  abbrev at : X → X → Bool
  at y x = is_same_place (place y) (place x)

  at_head : (x y : X) (xs : List X) → x ≡ y → find (at y) (x ∷ xs) ≡ Some y
  at_head x y xs is =
      subst (λ z. find (at y) (z ∷ xs) ≡ Some y) (sym is)
      (ap (λ b. cond b (Some y) (find (at y) xs)) (same_as_itself (place y)))

  find_step : (x y z : X) (xs : List X) (b : Bool) → is_before (place z) (place x) ≡ b →
      (earliest place xs ≡ Some y → find (at y) xs ≡ Some y) → earliest place xs ≡ Some z →
      Some (cond b z x) ≡ Some y → find (at y) (x ∷ xs) ≡ Some y
  find_step x y z xs true before rest some e =
      let same : z ≡ y = same_Some z y e in
      ap (λ b. cond b (Some x) (find (at y) xs))
      (ap (λ w. is_same_place (place w) (place x)) (sym same) ∙ not_same_if_before (place z) (place x) before)
      ∙ rest (some ∙ ap (λ w. Some w) same)
  find_step x y z xs false after rest some e = at_head x y xs (same_Some x y e)

  earliest-find : (xs : List X) (y : X) → earliest place xs ≡ Some y → find (at y) xs ≡ Some y
  earliest-find [] y is = absurd (none-some y is)
  earliest-find (x ∷ xs) y is = of_rest (earliest place xs) (earliest-find xs y) refl
    where
      of_rest : (o : Option X) → (earliest place xs ≡ Some y → find (at y) xs ≡ Some y) → earliest place xs ≡ o →
          find (at y) (x ∷ xs) ≡ Some y
      of_rest None rest none =
          at_head x y xs (same_Some x y (ap (λ o. Some (earlier place x o)) (sym none) ∙ is))
      of_rest (Some z) rest some =
          find_step x y z xs (is_before (place z) (place x)) refl rest some
          (ap (λ o. Some (earlier place x o)) (sym some) ∙ is)

-- the first that passes among those that pass another test
find-filter : {X : Type 0} (p q : X → Bool) (xs : List X) → find p (filter q xs) ≡ find (λ x. q x && p x) xs
find-filter p q [] = refl
find-filter {X} p q (x ∷ xs) = by (q x) (find-filter p q xs)
  where
    by : (b : Bool) → find p (filter q xs) ≡ find (λ y. q y && p y) xs →
        find p (cond b (x ∷ filter q xs) (filter q xs)) ≡ cond (b && p x) (Some x) (find (λ y. q y && p y) xs)
    by true rest = ap (cond (p x) (Some x)) rest
    by false rest = rest

find-append : {X : Type 0} (p : X → Bool) (xs ys : List X) → find p (xs ++ ys) ≡ option_or (find p xs) (find p ys)
find-append p [] ys = refl
find-append {X} p (x ∷ xs) ys = by (p x) (find-append p xs ys)
  where
    by : (b : Bool) → find p (xs ++ ys) ≡ option_or (find p xs) (find p ys) →
        cond b (Some x) (find p (xs ++ ys)) ≡ option_or (cond b (Some x) (find p xs)) (find p ys)
    by true rest = refl
    by false rest = rest

-- the template that something declared is
abbrev leads : Declared → Option TemplateTree
leads d = template_in (Some d.sort)

-- the constants of an enum, an enum with its constants, and a template, as they are declared
abbrev constants_of : EnumTree → List Declared
constants_of e = map (declared a_constant) e.constants

abbrev enum_part : EnumTree → List Declared
enum_part e = declared an_enum e.name ∷ constants_of e

abbrev told : TemplateTree → Declared
told u = declared (a_template u) u.name

in_constants : (p : Declared → Bool) (cs : List Ident) (d : Declared) →
    find p (map (declared a_constant) cs) ≡ Some d → leads d ≡ None
in_constants p [] d is = absurd (none-some d is)
in_constants p (c ∷ cs) d is = by (p (declared a_constant c)) (in_constants p cs d) is
  where
    by : (b : Bool) → (find p (map (declared a_constant) cs) ≡ Some d → leads d ≡ None) →
        cond b (Some (declared a_constant c)) (find p (map (declared a_constant) cs)) ≡ Some d → leads d ≡ None
    by true rest e = sym (ap leads (same_Some (declared a_constant c) d e))
    by false rest e = rest e

behind_constants : (p : Declared → Bool) (e : EnumTree) (d : Declared) (o other : Option Declared) →
    find p (constants_of e) ≡ o → (other ≡ Some d → leads d ≡ None) → option_or o other ≡ Some d → leads d ≡ None
behind_constants p e d None other was rest f = rest f
behind_constants p e d (Some c) other was rest f = in_constants p e.constants d (was ∙ f)

in_enums : (p : Declared → Bool) (es : List EnumTree) (d : Declared) →
    find p (flat_map enum_part es) ≡ Some d → leads d ≡ None
in_enums p [] d is = absurd (none-some d is)
in_enums p (e ∷ es) d is = by (p (declared an_enum e.name)) (in_enums p es d) is
  where
    by : (b : Bool) → (find p (flat_map enum_part es) ≡ Some d → leads d ≡ None) →
        cond b (Some (declared an_enum e.name)) (find p (constants_of e ++ flat_map enum_part es)) ≡ Some d →
        leads d ≡ None
    by true rest f = sym (ap leads (same_Some (declared an_enum e.name) d f))
    by false rest f =
        behind_constants p e d (find p (constants_of e)) (find p (flat_map enum_part es)) refl rest
        (sym (find-append p (constants_of e) (flat_map enum_part es)) ∙ f)

-- whether something declared has this name and stands where another one does
abbrev stands_with : List ℕ → Declared → Declared → Bool
stands_with name d x = is_spelled name x.name && is_same_place d.name.place x.name.place

of_template : (d : Declared) (t : TemplateTree) (o : Option TemplateTree) → leads d ≡ Some t →
    option_map told o ≡ Some d → o ≡ Some t
of_template d t None is e = absurd (none-some d e)
of_template d t (Some u) is e = ap leads (same_Some (told u) d e) ∙ is

by_parts : (spec : SpecTree) (name : List ℕ) (d : Declared) (t : TemplateTree) (o : Option Declared) →
    leads d ≡ Some t → find (stands_with name d) (flat_map enum_part spec.enums) ≡ o →
    option_or o (find (stands_with name d) (map told spec.templates)) ≡ Some d →
    find (λ u. stands_with name d (told u)) spec.templates ≡ Some t
by_parts spec name d t None is none found =
    of_template d t (find (λ u. stands_with name d (told u)) spec.templates) is
    (sym (find-map (stands_with name d) told spec.templates) ∙ found)
by_parts spec name d t (Some e) is some found =
    absurd (none-some t (sym (ap leads (sym (same_Some e d found))
    ∙ in_enums (stands_with name d) spec.enums e some) ∙ is))

-- the template that a name is first declared as is the first one of that name at that place
declared_template : (spec : SpecTree) (name : List ℕ) (d : Declared) (t : TemplateTree) →
    first_declared (text_names spec) name ≡ Some d → leads d ≡ Some t →
    find (λ u. stands_with name d (told u)) spec.templates ≡ Some t
declared_template spec name d t is template =
    by_parts spec name d t (find (stands_with name d) (flat_map enum_part spec.enums)) template refl
    (sym (find-append (stands_with name d) (flat_map enum_part spec.enums) (map told spec.templates))
    ∙ sym (find-filter (λ (x : Declared). is_same_place d.name.place x.name.place)
    (λ (x : Declared). is_spelled name x.name) (text_names spec))
    ∙ earliest-find (λ (x : Declared). x.name.place)
    (filter (λ (x : Declared). is_spelled name x.name) (text_names spec)) d is)

-- whether a template has this name and stands where the name is first declared
abbrev is_first : SpecTree → List ℕ → TemplateTree → Bool
is_first spec name u = is_spelled name u.name && stands_first spec u.name

same_test : (spec : SpecTree) (name : List ℕ) (d : Declared) (u : TemplateTree) →
    first_declared (text_names spec) name ≡ Some d → is_first spec name u ≡ stands_with name d (told u)
same_test spec name d u is = by (is_spelled name u.name) refl
  where
    by : (b : Bool) → is_spelled name u.name ≡ b →
        (b && stands_first spec u.name) ≡ (b && is_same_place d.name.place u.name.place)
    by true spelled =
        ap (λ o. option_map_or (λ (x : Declared). is_same_place x.name.place u.name.place) o false)
        (ap (first_declared (text_names spec)) (sym ((bytes_decides name u.name.text).0 spelled)) ∙ is)
    by false spelled = refl

-- its number is that of the first one of the name that stands where the name is first declared
numbered_template : (s : Spec) (name : List ℕ) (d : Declared) (t : TemplateTree) →
    first_declared (text_names (spec_tree s)) name ≡ Some d → leads d ≡ Some t →
    option_and_then (slice_get (spec_tree s).templates)
    (position (λ (u : Template). is_spelled name u.name && stands_first (spec_tree s) u.name) s.templates.items)
    ≡ Some t
numbered_template s name d t is template =
    ap (option_and_then (slice_get (spec_tree s).templates))
    (sym (position-map (is_first (spec_tree s) name) template_tree s.templates.items))
    ∙ sym (find-position (is_first (spec_tree s) name) (spec_tree s).templates)
    ∙ (λ i. find (λ u. same_test (spec_tree s) name d u is i) (spec_tree s).templates)
    ∙ declared_template (spec_tree s) name d t is template

of_declared : (s : Spec) (name : List ℕ) (passes : Bool) (number : Option ℕ) (d : Declared)
    (o : Option TemplateTree) → leads d ≡ o → first_declared (text_names (spec_tree s)) name ≡ Some d →
    passes ≡ is_some o →
    number ≡ position (λ (u : Template). is_spelled name u.name && stands_first (spec_tree s) u.name)
    s.templates.items →
    option_and_then (slice_get (spec_tree s).templates) (cond passes number None) ≡ o
of_declared s name passes number d None template is tested found =
    ap (λ b. option_and_then (slice_get (spec_tree s).templates) (cond b number None)) tested
of_declared s name passes number d (Some t) template is tested found =
    ap (λ b. option_and_then (slice_get (spec_tree s).templates) (cond b number None)) tested
    ∙ ap (option_and_then (slice_get (spec_tree s).templates)) found
    ∙ numbered_template s name d t is template

-- the template that what is found is
abbrev found_leads : Option Declared → Option TemplateTree
found_leads o = template_in (option_map (λ (d : Declared). d.sort) o)

-- the number of the template that a name of the text is declared as
pub number_found : (s : Spec) (name : List ℕ) (passes : Bool) (number : Option ℕ) →
    passes ≡ is_some (template_in (text_sort (spec_tree s) name)) →
    number ≡ position (λ (u : Template). is_spelled name u.name && stands_first (spec_tree s) u.name)
    s.templates.items →
    option_and_then (slice_get (spec_tree s).templates) (cond passes number None)
    ≡ template_in (text_sort (spec_tree s) name)
number_found s name passes number tested found = by (first_declared (text_names (spec_tree s)) name) refl
  where
    by : (o : Option Declared) → first_declared (text_names (spec_tree s)) name ≡ o →
        option_and_then (slice_get (spec_tree s).templates) (cond passes number None)
        ≡ template_in (text_sort (spec_tree s) name)
    by None none =
        ap (λ b. option_and_then (slice_get (spec_tree s).templates) (cond b number None))
        (tested ∙ ap (λ o. is_some (found_leads o)) none)
        ∙ sym (ap found_leads none)
    by (Some d) some =
        of_declared s name passes number d (leads d) refl some (tested ∙ ap (λ o. is_some (found_leads o)) some) found
        ∙ sym (ap found_leads some)

-- a number that is found is within the list
pub number_within : {X : Type 0} (p : X → Bool) (xs : List X) (passes : Bool) (number : Option ℕ) →
    number ≡ position p xs → IfSome (cond passes number None) (λ k. k < length xs)
number_within p xs true number is = subst (λ o. IfSome o (λ k. k < length xs)) (sym is) (position-within p xs)
number_within p xs false number is = tt
