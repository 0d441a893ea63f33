-- Where a path leads in a text whose names are declared once and known.
use Rattle.std.proofs.Common.{◌≡◌, ℕ, Bool, true, Option, None, Some, List, [], ◌∷◌, ◌++◌, ◌⊎◌, inl, inr, refl, sym, ap, ◌∙◌, subst}
use Rattle.std.specs.Prelude.{slice_get}
use Rattle.std.specs.Option.{option_and_then, option_map_or, option_or}
use Rattle.tm_syntax.specs.declared.tree.Ident.{Ident}
use Rattle.tm_syntax.specs.declared.tree.Num.{Num}
use Rattle.tm_syntax.specs.Tree.{VarTree, TemplateTree, SpecTree}
use Rattle.tm_syntax.specs.Scopes.Names.{is_spelled, last_name, template_named, neighbor_template, template_along}
use Rattle.tm_syntax.specs.Scopes.Context.{BodyName}
use Rattle.tm_syntax.specs.Scopes.Declared.{Sort, a_slot, a_neighbor, a_variable, an_array, a_task, a_part, a_constant, an_enum, a_template, Declared, members, slots, text_names, sort_in, text_sort, sort_here, template_in, Meaning, unclear, last_meaning, leading_on, path_meaning, meaning}
use Rattle.tm_syntax.specs.Faults.Names.{repeats, unknown_of}
use Rattle.tm_syntax.specs.Faults.Operands.{wrong_sort}
use Rattle.tm_typing.specs.HasType.{IsValueOf}
use Rattle.tm_typing.proofs.Fitting.{not_empty, fits_there}
use Rattle.tm_typing.proofs.Listed.{In, in_either, of_find, one_thing, no_thing}
use Rattle.tm_typing.proofs.Declaring.{IsDeclared, declared_as}
use Rattle.tm_typing.proofs.Neighbors.{member_of, Neighbor, neighbor_of, known_here, known_is, template_is, NameOf, is_enum, is_constant, is_template, name_of}
use Rattle.tm_typing.proofs.Slots.{AreSized, here, slot_sort}

-- a text whose names are declared once, whose neighbors have templates, and whose types and lengths can be
pub record IsNamed (spec : SpecTree) : Type 0 where
  pub text_once : repeats (text_names spec) ≡ []
  pub once : (t : TemplateTree) → In t spec.templates → repeats (members t) ≡ []
  pub neighbors : (t : TemplateTree) → In t spec.templates → (d : Declared) (n : Ident) → Neighbor t d n →
      (u : TemplateTree) × (text_sort spec n.text ≡ Some (a_template u))
  pub sized : (t : TemplateTree) → In t spec.templates → AreSized t
  pub sizes : (t : TemplateTree) → In t spec.templates → (v : VarTree) → In v t.vars → (n : Num) →
      v.size ≡ Some n → (s : ℕ) × IsValueOf n s

-- a path from a template ends in a template whose member of its last name is of a sort
pub record Ends (spec : SpecTree) (t : TemplateTree) (names : List Ident) (sort : Sort) : Type 0 where
  pub at : TemplateTree
  pub is : In at spec.templates
  pub along : template_along spec t names ≡ Some at
  pub last : sort_in (members at) (last_name names) ≡ Some sort

-- a path that leads to what suits its place
abbrev pub Leads : SpecTree → TemplateTree → List Ident → (Sort → Bool) → Type 0
Leads spec t names suits = (sort : Sort) × (suits sort ≡ true) × Ends spec t names sort

-- a path is at no fault where its place asks for a sort
pub record IsWell (suits : Sort → Bool) (m : Meaning) : Type 0 where
  pub known : unknown_of m ≡ []
  pub fits : wrong_sort suits m ≡ []

module _ (spec : SpecTree) (f : IsNamed spec) where
  -- a name that is declared as a neighbor leads on
  pub onward : (t : TemplateTree) → In t spec.templates → (name : List ℕ) (n : Ident) (d : Declared) →
      In d (members t) → is_spelled name d.name ≡ true → d.sort ≡ a_neighbor n →
      (u : TemplateTree) × In u spec.templates × (text_sort spec n.text ≡ Some (a_template u))
      × (neighbor_template spec t name ≡ Some u)
  onward t at name n d i e sort =
      let of = neighbor_of t d n (member_of t d i) sort in
      let u = f.neighbors t at d n of in
      let leads = template_is spec n.text u.0 f.text_once u.1 in
      let known = known_is t name d n (f.once t at) i e of sort in
      (u.0, leads.1, u.1, ap (option_and_then (λ (k : Ident). template_named spec k.text)) known ∙ leads.0)

  -- where a neighbor's template goes on with the path, the path leads on from it
  lead_on : (t : TemplateTree) (name next : Ident) (names : List Ident) (suits : Sort → Bool) (o : Option Sort) →
      ((n : Ident) → o ≡ Some (a_neighbor n) → (u : TemplateTree) × In u spec.templates
      × (text_sort spec n.text ≡ Some (a_template u)) × (neighbor_template spec t name.text ≡ Some u)) →
      IsWell suits (leading_on spec (λ u. path_meaning spec (sort_in (members u)) (next ∷ names)) name o) →
      ((u : TemplateTree) → In u spec.templates →
      IsWell suits (path_meaning spec (sort_in (members u)) (next ∷ names)) → Leads spec u (next ∷ names) suits) →
      Leads spec t (name ∷ next ∷ names) suits
  lead_on t name next names suits None neighbor well deeper = not_empty well.known
  lead_on t name next names suits (Some a_slot) neighbor well deeper = not_empty well.fits
  lead_on t name next names suits (Some a_variable) neighbor well deeper = not_empty well.fits
  lead_on t name next names suits (Some an_array) neighbor well deeper = not_empty well.fits
  lead_on t name next names suits (Some a_task) neighbor well deeper = not_empty well.fits
  lead_on t name next names suits (Some a_part) neighbor well deeper = not_empty well.fits
  lead_on t name next names suits (Some a_constant) neighbor well deeper = not_empty well.fits
  lead_on t name next names suits (Some an_enum) neighbor well deeper = not_empty well.fits
  lead_on t name next names suits (Some (a_template _)) neighbor well deeper = not_empty well.fits
  lead_on t name next names suits (Some (a_neighbor n)) neighbor well deeper =
      let u = neighbor n refl in
      let rest = deeper u.0 u.1 (subst (λ o. IsWell suits (option_map_or
      (λ u. path_meaning spec (sort_in (members u)) (next ∷ names)) (template_in o) unclear)) u.2 well) in (
        rest.0,
        rest.1,
        record {
          at = rest.2.at;
          is = rest.2.is;
          along = ap (option_and_then (λ v. template_along spec v (next ∷ names))) u.3 ∙ rest.2.along;
          last = rest.2.last;
        },
      )

  -- a path of members that is at no fault leads to one
  pub ends : (t : TemplateTree) → In t spec.templates → (name : Ident) (names : List Ident) (suits : Sort → Bool) →
      IsWell suits (path_meaning spec (sort_in (members t)) (name ∷ names)) → Leads spec t (name ∷ names) suits
  ends t at name [] suits well = by (sort_in (members t) name.text) refl well
    where
      by : (o : Option Sort) → sort_in (members t) name.text ≡ o → IsWell suits (last_meaning name o) →
          Leads spec t (name ∷ []) suits
      by None is w = not_empty w.known
      by (Some sort) is w = (
        sort,
        fits_there (suits sort) name.place w.fits,
        record { at = t; is = at; along = refl; last = is },
      )
  ends t at name (next ∷ names) suits well =
      lead_on t name next names suits (sort_in (members t) name.text)
      (λ n is.
      let d = declared_as (members t) name.text (a_neighbor n) is in
      onward t at name.text n d.at d.is d.spelled d.sort)
      well (λ u i w. ends u i next names suits w)

  -- a name that leads on from a body is one of its template's neighbors
  neighbor_here : (t : TemplateTree) → In t spec.templates → (body : BodyName) (name n : Ident) →
      sort_here (here spec t body) name.text ≡ Some (a_neighbor n) →
      (u : TemplateTree) × In u spec.templates × (text_sort spec n.text ≡ Some (a_template u))
      × (neighbor_template spec t name.text ≡ Some u)
  neighbor_here t at body name n is = by (sort_in (slots t body ++ members t) name.text) refl is
    where
      Found : Type 0
      Found = (u : TemplateTree) × In u spec.templates × (text_sort spec n.text ≡ Some (a_template u))
          × (neighbor_template spec t name.text ≡ Some u)

      of_text : IsDeclared (text_names spec) name.text (a_neighbor n) → Found
      of_text d = no_neighbor (name_of spec d.at d.is)
        where
          no_neighbor : NameOf spec d.at → Found
          no_neighbor (is_enum e) = let x = sym e ∙ d.sort in absurd cc
          no_neighbor (is_constant _ _ _ _ e) = let x = ap (λ (y : Declared). y.sort) e ∙ d.sort in absurd cc
          no_neighbor (is_template _ e) = let x = sym e ∙ d.sort in absurd cc

      of_scope : IsDeclared (slots t body ++ members t) name.text (a_neighbor n) → Found
      of_scope d = either (in_either (slots t body) (members t) d.is)
        where
          either : In d.at (slots t body) ⊎ In d.at (members t) → Found
          either (inl i) = let x = sym (slot_sort t body d.at i) ∙ d.sort in absurd cc
          either (inr i) = onward t at name.text n d.at i d.spelled d.sort

      by : (o : Option Sort) → sort_in (slots t body ++ members t) name.text ≡ o →
          option_or o (text_sort spec name.text) ≡ Some (a_neighbor n) → Found
      by None e found = of_text (declared_as (text_names spec) name.text (a_neighbor n) found)
      by (Some sort) e found =
          of_scope (declared_as (slots t body ++ members t) name.text (a_neighbor n) (e ∙ found))

  -- a path of several names from a body that is at no fault leads to a member
  pub ends_from_body : (t : TemplateTree) → In t spec.templates → (body : BodyName) (name next : Ident)
      (names : List Ident) (suits : Sort → Bool) → IsWell suits (meaning (here spec t body) (name ∷ next ∷ names)) →
      Leads spec t (name ∷ next ∷ names) suits
  ends_from_body t at body name next names suits well =
      lead_on t name next names suits (sort_here (here spec t body) name.text) (neighbor_here t at body name) well
      (λ u i w. ends u i next names suits w)

  -- templates along a path are templates of the text
  pub along_is : (t u : TemplateTree) (names : List Ident) → In t spec.templates →
      template_along spec t names ≡ Some u → In u spec.templates
  along_is t u [] at e = subst (λ (v : TemplateTree). In v spec.templates) (one_thing refl e) at
  along_is t u (name ∷ []) at e = subst (λ (v : TemplateTree). In v spec.templates) (one_thing refl e) at
  along_is t u (name ∷ next ∷ names) at e =
      by (neighbor_template spec t name.text) refl e (λ v i w. along_is v u (next ∷ names) i w)
    where
      of_known : (o : Option Ident) (v : TemplateTree) →
          option_and_then (λ (k : Ident). template_named spec k.text) o ≡ Some v → In v spec.templates
      of_known None v is = no_thing is
      of_known (Some k) v is = (of_find (λ (w : TemplateTree). is_spelled k.text w.name) spec.templates is).0

      by : (o : Option TemplateTree) → neighbor_template spec t name.text ≡ o →
          option_and_then (λ (v : TemplateTree). template_along spec v (next ∷ names)) o ≡ Some u →
          ((v : TemplateTree) → In v spec.templates → template_along spec v (next ∷ names) ≡ Some u →
          In u spec.templates) → In u spec.templates
      by None is found deeper = no_thing found
      by (Some v) is found deeper = deeper v (of_known (slice_get (known_here t name.text) 0) v is) found
