-- What a path that leads to a variable of the text is declared as, where names are declared once.
use Rattle.std.proofs.Common.{◌≡◌, ℕ, Bool, true, false, Option, None, Some, List, [], ◌∷◌, ◌++◌, ◌⊎◌, inl, inr, refl, sym, ap, ◌∙◌, subst}
use Rattle.std.specs.Prelude.{slice_get}
use Rattle.std.specs.Bool.{then_some}
use Rattle.std.specs.Option.{option_map, option_and_then, option_map_or, option_or}
use Rattle.std.specs.List.{filter, filter_map}
use Rattle.tm_syntax.specs.declared.tree.Ident.{Ident}
use Rattle.tm_syntax.specs.declared.tree.Port.{Port}
use Rattle.tm_syntax.specs.Tokens.{IsWordLike}
use Rattle.tm_syntax.specs.Tree.{InstanceTree, VarTree, TemplateTree, SpecTree}
use Rattle.tm_syntax.specs.Scopes.Names.{is_spelled, last_name, template_named, neighbor_template, template_along}
use Rattle.tm_syntax.specs.Scopes.Context.{BodyName}
use Rattle.tm_syntax.specs.Scopes.Declared.{Sort, a_neighbor, Declared, declared, var_sort, members, slots, sort_in, text_sort, sort_here, template_in, last_meaning, unclear, leading_on, path_meaning}
use Rattle.tm_syntax.specs.Faults.Names.{repeats, names_twice}
use Rattle.tm_syntax.specs.Faults.Operands.{wrong_sort}
use Rattle.tm_typing.specs.HasType.{IsOfSort}
use Rattle.tm_typing.proofs.Declaring.{spelled, alike, declared_once}
use Rattle.tm_typing.proofs.Fitting.{fits_there}
use Rattle.tm_typing.proofs.Leading.{IsNamed, onward}
use Rattle.tm_typing.proofs.Listed.{In, in_behind, in_either, of_filter_map, in_filter, of_filter, in_earliest, has_earliest, in_get, one_thing, no_thing}
use Rattle.tm_typing.proofs.Neighbors.{instance_in, port_in, var_in, known_here}
use Rattle.tm_typing.proofs.Slots.{here}
use Rattle.tm_design.proofs.Frames.{each_body_once}

-- a name that a scope declares once is of the sort of its declaration
sort_of_one : (ds : List Declared) → repeats ds ≡ [] → (d : Declared) → In d ds → (name : List ℕ) →
    is_spelled name d.name ≡ true → sort_in ds name ≡ Some d.sort
sort_of_one ds once d i name e =
    let first = has_earliest (λ (d : Declared). d.name.place) (filter (λ (d : Declared). is_spelled name d.name) ds)
    (in_filter (λ (d : Declared). is_spelled name d.name) ds i e) in
    let passes = of_filter (λ (d : Declared). is_spelled name d.name) ds
    (in_earliest (λ (d : Declared). d.name.place) (filter (λ (d : Declared). is_spelled name d.name) ds) first.1) in
    let one = declared_once ds first.0 d once passes.0 i (alike name first.0.name d.name passes.1 e) in
    ap (option_map (λ (d : Declared). d.sort)) (first.1 ∙ ap Some one)

-- what passes a test is the thing tested
kept_is : {A : Type 0} (b : Bool) (x y : A) → then_some b x ≡ Some y → (b ≡ true) × (x ≡ y)
kept_is true x y e = (refl, one_thing refl e)
kept_is false x y e = no_thing e

-- a neighbor of a name, as a member declares it
pub record IsNeighbor (t : TemplateTree) (name : List ℕ) (of : Ident) : Type 0 where
  pub at : Declared
  pub is : In at (members t)
  pub spelled : is_spelled name at.name ≡ true
  pub sort : at.sort ≡ a_neighbor of

known_neighbor : (t : TemplateTree) (name : List ℕ) (of : Ident) → In of (known_here t name) → IsNeighbor t name of
known_neighbor t name of i =
    by (in_either (filter_map (λ (i : InstanceTree). then_some (is_spelled name i.name) i.template) t.instances)
    (filter_map (λ (p : Port). then_some (is_spelled name p.name) p.template) t.ports) i)
  where
    by : In of (filter_map (λ (i : InstanceTree). then_some (is_spelled name i.name) i.template) t.instances)
        ⊎ In of (filter_map (λ (p : Port). then_some (is_spelled name p.name) p.template) t.ports) →
        IsNeighbor t name of
    by (inl j) =
        let x = of_filter_map (λ (i : InstanceTree). then_some (is_spelled name i.name) i.template) t.instances j in
        let is = kept_is (is_spelled name x.0.name) x.0.template of x.2 in
        record {
          at = declared (a_neighbor x.0.template) x.0.name;
          is = instance_in t x.0 x.1;
          spelled = is.0;
          sort = ap a_neighbor is.1;
        }
    by (inr j) =
        let x = of_filter_map (λ (p : Port). then_some (is_spelled name p.name) p.template) t.ports j in
        let is = kept_is (is_spelled name x.0.name) x.0.template of x.2 in
        record {
          at = declared (a_neighbor x.0.template) x.0.name;
          is = port_in t x.0 x.1;
          spelled = is.0;
          sort = ap a_neighbor is.1;
        }

module _ (spec : SpecTree) (f : IsNamed spec) (suits : Sort → Bool) where
  -- where a look-up finds the members of a template, a path to a variable suits its place as the variable does
  suits_variable : (look : List ℕ → Option Sort) (t : TemplateTree) → In t spec.templates →
      ((name : List ℕ) (d : Declared) → In d (members t) → is_spelled name d.name ≡ true → look name ≡ Some d.sort) →
      (names : List Ident) (u : TemplateTree) (w : VarTree) → template_along spec t names ≡ Some u → In w u.vars →
      is_spelled (last_name names) w.name ≡ true → IsWordLike w.name.text →
      wrong_sort suits (path_meaning spec look names) ≡ [] → suits (var_sort w) ≡ true
  suits_variable look t at looks [] u w along among e word fits =
      absurd (subst IsWordLike (sym (spelled [] w.name e)) word)
  suits_variable look t at looks (name ∷ []) u w along among e word fits =
      let there = subst (λ (u : TemplateTree). In w u.vars) (sym (one_thing refl along)) among in
      fits_there (suits (var_sort w)) name.place
      (subst (λ o. wrong_sort suits (last_meaning name o) ≡ [])
      (looks name.text (declared (var_sort w) w.name) (var_in t w there) e) fits)
  suits_variable look t at looks (name ∷ next ∷ names) u w along among e word fits =
      by (neighbor_template spec t name.text) refl along
      (λ v i. suits_variable (sort_in (members v)) v i
      (λ n d j same. sort_of_one (members v) (f.once v i) d j n same) (next ∷ names) u w)
    where
      of_known : (o : Option Ident) (v : TemplateTree) → slice_get (known_here t name.text) 0 ≡ o →
          neighbor_template spec t name.text ≡ Some v →
          option_and_then (λ (k : Ident). template_named spec k.text) o ≡ Some v →
          template_along spec v (next ∷ names) ≡ Some u →
          ((v : TemplateTree) → In v spec.templates → template_along spec v (next ∷ names) ≡ Some u → In w u.vars →
          is_spelled (last_name (next ∷ names)) w.name ≡ true → IsWordLike w.name.text →
          wrong_sort suits (path_meaning spec (sort_in (members v)) (next ∷ names)) ≡ [] →
          suits (var_sort w) ≡ true) → suits (var_sort w) ≡ true
      of_known None v known is named rest deeper = no_thing named
      of_known (Some n) v known is named rest deeper =
          let d = known_neighbor t name.text n (in_get (known_here t name.text) 0 known) in
          let x = onward spec f t at name.text n d.at d.is d.spelled d.sort in
          let same : x.0 ≡ v = one_thing x.3 is in
          deeper x.0 x.1 (ap (λ (v : TemplateTree). template_along spec v (next ∷ names)) same ∙ rest) among e word
          (subst (λ o. wrong_sort suits (option_map_or (λ u. path_meaning spec (sort_in (members u)) (next ∷ names))
          (template_in o) unclear) ≡ []) x.2
          (subst (λ o. wrong_sort suits (leading_on spec
          (λ u. path_meaning spec (sort_in (members u)) (next ∷ names)) name o) ≡ [])
          (looks name.text d.at d.is d.spelled ∙ ap Some d.sort) fits))

      by : (o : Option TemplateTree) → neighbor_template spec t name.text ≡ o →
          option_and_then (λ v. template_along spec v (next ∷ names)) o ≡ Some u →
          ((v : TemplateTree) → In v spec.templates → template_along spec v (next ∷ names) ≡ Some u → In w u.vars →
          is_spelled (last_name (next ∷ names)) w.name ≡ true → IsWordLike w.name.text →
          wrong_sort suits (path_meaning spec (sort_in (members v)) (next ∷ names)) ≡ [] →
          suits (var_sort w) ≡ true) → suits (var_sort w) ≡ true
      by None is rest deeper = no_thing rest
      by (Some v) is rest deeper = of_known (slice_get (known_here t name.text) 0) v refl is is rest deeper

  -- so does a path in a body
  pub variable_suits : names_twice spec ≡ [] → (t : TemplateTree) → In t spec.templates → (body : BodyName)
      (names : List Ident) (u : TemplateTree) (w : VarTree) → template_along spec t names ≡ Some u → In w u.vars →
      is_spelled (last_name names) w.name ≡ true → IsWordLike w.name.text → IsOfSort suits (here spec t body) names →
      suits (var_sort w) ≡ true
  variable_suits twice t at body names u w along among e word fits =
      suits_variable (sort_here (here spec t body)) t at
      (λ name d i same. ap (λ o. option_or o (text_sort spec name))
      (sort_of_one (slots t body ++ members t) (each_body_once spec t body twice at (f.once t at)) d
      (in_behind (slots t body) (members t) i) name same))
      names u w along among e word fits
