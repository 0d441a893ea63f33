-- The designs of checked texts are settled.
use Rattle.std.proofs.Common.{◌≡◌, ℕ, ◌^◌, ◌<◌, ◌≤◌, true, Option, None, Some, List, [], ◌∷◌, ◌++◌, refl, sym, ap, ◌∙◌, subst, arith}
use Rattle.std.specs.Prelude.{is_some, nat_eq, if◌then◌else◌}
use Rattle.std.specs.Cmp.Lexicographic.{pointwise}
use Rattle.std.specs.Fmt.{decimal}
use Rattle.std.specs.Option.{option_map, option_and_then}
use Rattle.std.specs.List.{AllByRecursion}
use Rattle.tm_syntax.specs.declared.tree.Ident.{Ident}
use Rattle.tm_syntax.specs.declared.tree.Num.{Num}
use Rattle.tm_syntax.specs.declared.design.Ty.{Ty}
use Rattle.tm_syntax.specs.Tree.{path, VarTree}
use Rattle.tm_syntax.specs.Scopes.Names.{is_spelled, number_of, type_of}
use Rattle.tm_syntax.specs.Scopes.Context.{Context, Slot, Frame, frame_of, slot_named, slot_of, variable_of}
use Rattle.tm_syntax.specs.Scopes.Types.{either_type, named_type, constant_type, own_type, array_length}
use Rattle.tm_syntax.specs.Scopes.Declared.{declared, an_array, a_variable, var_sort, slots, members}
use Rattle.tm_syntax.specs.Design.{DesignTree, IsDesign, member_path}
use Rattle.tm_syntax.specs.Design.Scope.{Scope, Site, site, context, length_in}
use Rattle.tm_syntax.specs.Design.Cells.{Cell, member_cell, cell, cell_type}
use Rattle.tm_syntax.specs.Design.Sizes.{type_size}
use Rattle.tm_syntax.specs.Faults.{IsOfText, IsSound, IsTyped}
use Rattle.tm_syntax.specs.Faults.Operands.{is_valued}
use Rattle.tm_typing.specs.HasType.{IsOfSort}
use Rattle.tm_typing.proofs.Declaring.{same_spelling, alike}
use Rattle.tm_typing.proofs.Fitting.{contrary}
use Rattle.tm_typing.proofs.Leading.{IsNamed}
use Rattle.tm_typing.proofs.Listed.{In, of_find, found_in, holds_in, one_thing, no_thing}
use Rattle.tm_typing.proofs.Neighbors.{var_in}
use Rattle.tm_typing.proofs.Promises.{named}
use Rattle.tm_typing.proofs.Slots.{here}
use Rattle.tm_typing.proofs.Sound.{checked}
use Rattle.tm_typing.proofs.Words.{IsShort, VarWords, TemplateWords, EnumWords, text_words, constant_words}
use Rattle.tm_locations.specs.Locations.{LeadsByText}
use Rattle.tm_locations.proofs.TextLeads.{joined_leads}
use Rattle.tm_design.specs.Settled.{constant_at, AreSettled}
use Rattle.tm_design.proofs.ConstantValues.{constant_word, constant_in_type, value_below_bits}
use Rattle.tm_design.proofs.Dots.{one_number}
use Rattle.tm_design.proofs.FoundCells.{is_site, found_type, found_there, none_there, own_there, no_own, cell_own, cell_member, IsMember, member_there, member_is}
use Rattle.tm_design.proofs.Frames.{is_frame, slot_declared, each_body_once}
use Rattle.tm_design.proofs.Holders.{vars_of_all, variable_there}
use Rattle.tm_design.proofs.Once.{apart}
use Rattle.tm_design.proofs.PathMeanings.{variable_suits}
use Rattle.tm_design.proofs.PathTypes.{IsNumbered, plain_path, variable_type, element_path}
use Rattle.tm_design.proofs.Sites.{site_in}

-- what is known of a design
pub record IsKnown (d : DesignTree) : Type 0 where
  pub numbered : IsNumbered d.spec d.instances
  pub vars : d.vars ≡ vars_of_all d.spec d.instances
  pub named : IsNamed d.spec
  pub leads : LeadsByText d
  pub constants : AllByRecursion EnumWords d.spec.enums

module _ (d : DesignTree) (known : IsKnown d) (scope : Scope) (at : Site) (stands : site d scope.instance ≡ Some at)
  where
    abbrev pub in_text : Context
    in_text = here d.spec at.template scope.body

    template_there : In at.template d.spec.templates
    template_there =
        site_in d.spec d.instances known.numbered.roots known.numbered.once known.numbered.words at.number at.node
        at.template (is_site d scope.instance at stands)

    -- the variable of a member is a word
    member_word : (names : List Ident) (w : VarTree) →
        (m : IsMember d known.vars known.numbered scope at stands names w) → VarWords w
    member_word names w m =
        let inside = site_in d.spec d.instances known.numbered.roots known.numbered.once known.numbered.words
        m.site.number m.site.node m.site.template m.is in
        holds_in VarWords m.site.template.vars
        (holds_in TemplateWords d.spec.templates known.numbered.words inside).vars m.among

    pub member_found : (names : List Ident) (w : VarTree) → variable_of in_text names ≡ Some w →
        IsMember d known.vars known.numbered scope at stands names w
    member_found names w e = member_there d known.vars known.numbered scope at stands known.leads names w e

    -- the type of a parameter or local, of a variable, or of a constant
    slot_has : (names : List Ident) (s : Slot) (ty : Ty) (index : Option ℕ) (found : Cell) →
        slot_of in_text names ≡ Some s → s.ty ≡ ty → cell d scope names index ≡ Some found →
        cell_type d found ≡ Some ty
    slot_has names s ty index found is same there =
        let c = own_there d known.vars known.numbered scope at stands names s is in
        let one : c.0 ≡ found =
        one_thing (cell_own d known.vars known.numbered scope at stands names index c.0 c.1) there in
        subst (λ c. cell_type d c ≡ Some ty) one (c.2 ∙ ap Some same)

    -- no variable has the path of a constant
    constant_has : (names : List Ident) (ty : Ty) (found : Cell) → constant_type d.spec names ≡ Some ty →
        variable_of in_text names ≡ None → member_cell d at names None ≡ Some found → cell_type d found ≡ Some ty
    constant_has [] ty found e none there = no_thing e
    constant_has (name ∷ next ∷ names) ty found e none there = no_thing e
    constant_has (name ∷ []) ty found e none there =
        found_type d known.vars (member_path at.node.path name.text) ty
        (λ v i path.
        let plain = plain_path d.spec d.instances known.numbered at.number at.node at.template
        (is_site d scope.instance at stands) name.text (constant_word d.spec name ty e known.constants) v i path in
        no_thing (sym none ∙ (found_in (λ (v : VarTree). is_spelled name.text v.name) at.template.vars plain.is
        (spelled_so name.text plain.var.name plain.spelled)).1))
        found there
      where
        spelled_so : (name : List ℕ) (other : Ident) → other.text ≡ name → is_spelled name other ≡ true
        spelled_so name other same = subst (λ bytes. is_spelled bytes other ≡ true) same (same_spelling other.text)

    variables_at : (names : List Ident) (ty : Ty) (found : Cell) → own_type in_text (path names) ≡ Some ty →
        cell d scope names None ≡ Some found → cell_type d found ≡ Some ty
    variables_at names ty found own there =
        by (slot_of in_text names) refl (variable_of in_text names) refl own
      where
        by : (s : Option Slot) → slot_of in_text names ≡ s → (w : Option VarTree) → variable_of in_text names ≡ w →
            either_type (either_type (option_map (λ (s : Slot). s.ty) s) (option_map (λ (v : VarTree). type_of v.ty) w))
            (constant_type d.spec names) ≡ Some ty → cell_type d found ≡ Some ty
        by (Some s) slot w variable is = slot_has names s ty None found slot (one_thing refl is) there
        by None slot (Some w) variable is =
            let m = member_found names w variable in
            found_type d known.vars (member_path m.site.node.path w.name.text) ty
            (λ v i p. variable_type d.spec d.instances known.numbered m.site.number m.site.node m.site.template m.is w
            m.among v i p ∙ one_thing refl is)
            found
            (sym (member_is d known.vars known.numbered scope at stands names None w m)
            ∙ sym (cell_member d known.vars known.numbered scope at stands names None
            (no_own d known.vars known.numbered scope at stands names slot)) ∙ there)
        by None slot None variable is =
            constant_has names ty found is variable
            (sym (cell_member d known.vars known.numbered scope at stands names None
            (no_own d known.vars known.numbered scope at stands names slot)) ∙ there)

    -- a variable that stands where a value does is no array
    plain_variable : (names : List Ident) (w : VarTree) → variable_of in_text names ≡ Some w →
        IsOfSort is_valued in_text names → w.size ≡ None
    plain_variable names w variable fits =
        let m = member_found names w variable in
        by w.size refl
        (variable_suits d.spec known.named is_valued known.numbered.twice at.template template_there scope.body names
        m.site.template w m.of m.among m.spelled (member_word names w m).name fits)
      where
        by : (o : Option Num) → w.size ≡ o → is_valued (if is_some o then an_array else a_variable) ≡ true →
            w.size ≡ None
        by None is valued = is
        by (Some n) is valued = contrary valued

    pub constants_at : (names : List Ident) (ty : Ty) → own_type in_text (path names) ≡ Some ty →
        IsOfSort is_valued in_text names → cell d scope names None ≡ None → constant_at d names < type_size d.spec ty
    constants_at names ty own fits none = by (slot_of in_text names) refl (variable_of in_text names) refl own
      where
        by_name : (ns : List Ident) → constant_type d.spec ns ≡ Some ty → constant_at d ns < type_size d.spec ty
        by_name [] is = no_thing is
        by_name (name ∷ next ∷ ns) is = no_thing is
        by_name (name ∷ []) is = constant_in_type d.spec name ty is known.named.text_once

        by : (s : Option Slot) → slot_of in_text names ≡ s → (w : Option VarTree) → variable_of in_text names ≡ w →
            either_type (either_type (option_map (λ (s : Slot). s.ty) s) (option_map (λ (v : VarTree). type_of v.ty) w))
            (constant_type d.spec names) ≡ Some ty → constant_at d names < type_size d.spec ty
        by (Some s) slot w variable is =
            let c = own_there d known.vars known.numbered scope at stands names s slot in
            no_thing (sym none ∙ cell_own d known.vars known.numbered scope at stands names None c.0 c.1)
        by None slot (Some w) variable is =
            let m = member_found names w variable in
            let c = found_there d known.vars (member_path m.site.node.path w.name.text)
            (variable_there d.spec d.instances m.site.number m.site.node m.site.template m.is w m.among
            (plain_variable names w variable fits)) in
            no_thing (sym none
            ∙ cell_member d known.vars known.numbered scope at stands names None
            (no_own d known.vars known.numbered scope at stands names slot)
            ∙ member_is d known.vars known.numbered scope at stands names None w m ∙ c.1)
        by None slot None variable is = by_name names is

    elements_at : (names : List Ident) (index : ℕ) (ty : Ty) (found : Cell) → named_type in_text names ≡ Some ty →
        cell d scope names (Some index) ≡ Some found → cell_type d found ≡ Some ty
    elements_at names index ty found own there =
        by (slot_of in_text names) refl (variable_of in_text names) refl own
      where
        by : (s : Option Slot) → slot_of in_text names ≡ s → (w : Option VarTree) → variable_of in_text names ≡ w →
            either_type (option_map (λ (s : Slot). s.ty) s) (option_map (λ (v : VarTree). type_of v.ty) w) ≡ Some ty →
            cell_type d found ≡ Some ty
        by (Some s) slot w variable is = slot_has names s ty (Some index) found slot (one_thing refl is) there
        by None slot (Some w) variable is =
            let m = member_found names w variable in
            found_type d known.vars (member_path m.site.node.path w.name.text ++ 46 ∷ decimal index) ty
            (λ v i p. (element_path d.spec d.instances known.numbered m.site.number m.site.node m.site.template m.is w
            m.among index v i p).ty ∙ one_thing refl is)
            found
            (sym (member_is d known.vars known.numbered scope at stands names (Some index) w m)
            ∙ sym (cell_member d known.vars known.numbered scope at stands names (Some index)
            (no_own d known.vars known.numbered scope at stands names slot)) ∙ there)
        by None slot None variable is = no_thing is

    -- the name of a variable is no parameter or local
    no_slot : (names : List Ident) (w : VarTree) → variable_of in_text names ≡ Some w → slot_of in_text names ≡ None
    no_slot [] w variable = refl
    no_slot (name ∷ next ∷ names) w variable = refl
    no_slot (name ∷ []) w variable = of_frame (frame_of d.spec at.template scope.body) refl
      where
        of_slot : (f : Frame) → frame_of d.spec at.template scope.body ≡ Some f → (o : Option Slot) →
            slot_named f name.text ≡ o → slot_named f name.text ≡ None
        of_slot f is None named_ = named_
        of_slot f is (Some s) named_ =
            let slot = of_find (λ (s : Slot). pointwise nat_eq name.text s.name) f.slots named_ in
            let there = of_find (λ (v : VarTree). is_spelled name.text v.name) at.template.vars variable in
            let x = slot_declared d.spec at.template scope.body f s (is_frame d.spec at.template scope.body f is) slot.0
            in
            apart x.0 (declared (var_sort w) w.name) (slots at.template scope.body) (members at.template)
            (each_body_once d.spec at.template scope.body known.numbered.twice template_there
            (known.numbered.once at.template template_there)) x.1 (var_in at.template w there.0)
            (alike name.text x.0.name w.name (subst (λ bytes. pointwise nat_eq name.text bytes ≡ true) (sym x.2) slot.1)
            there.1)

        of_frame : (o : Option Frame) → frame_of d.spec at.template scope.body ≡ o →
            slot_of in_text (name ∷ []) ≡ None
        of_frame None is = ap (option_and_then (λ (f : Frame). slot_named f name.text)) is
        of_frame (Some f) is =
            ap (option_and_then (λ (f : Frame). slot_named f name.text)) is
            ∙ of_slot f is (slot_named f name.text) refl

    ends_at : (names : List Ident) (size index : ℕ) → array_length in_text names ≡ Some size → size ≤ index →
        cell d scope names (Some index) ≡ None
    ends_at names size index long past = by (variable_of in_text names) refl long
      where
        of_length : (w : VarTree) → variable_of in_text names ≡ Some w → (o : Option Num) → w.size ≡ o →
            option_map number_of o ≡ Some size → cell d scope names (Some index) ≡ None
        of_length w variable None is e = no_thing e
        of_length w variable (Some n) is e =
            let m = member_found names w variable in
            let own = no_own d known.vars known.numbered scope at stands names (no_slot names w variable) in
            cell_member d known.vars known.numbered scope at stands names (Some index) own
            ∙ member_is d known.vars known.numbered scope at stands names (Some index) w m
            ∙ none_there d known.vars (member_path m.site.node.path w.name.text ++ 46 ∷ decimal index)
            (λ v i p.
            let found = element_path d.spec d.instances known.numbered m.site.number m.site.node m.site.template m.is w
            m.among index v i p in
            let sizes : found.size ≡ n = one_thing found.is is in
            let short : number_of n < 2 ^ 64 = subst IsShort is (member_word names w m).size in
            let length : number_of n ≡ size = one_thing refl e in
            let within : found.at < number_of n = subst (λ (x : Num). found.at < number_of x) sizes found.below in
            let same = one_number index found.at (omega (arith, short, within)) found.same in
            omega (arith, same, within, length, past))

        by : (o : Option VarTree) → variable_of in_text names ≡ o →
            option_and_then (λ (v : VarTree). option_map number_of v.size) o ≡ Some size →
            cell d scope names (Some index) ≡ None
        by None variable e = no_thing e
        by (Some w) variable e = of_length w variable w.size refl e

-- where the text of a scope stands
pub record StandsAt (d : DesignTree) (scope : Scope) (c : Context) : Type 0 where
  pub at : Site
  pub is : site d scope.instance ≡ Some at
  pub same : here d.spec at.template scope.body ≡ c

pub stands_at : (d : DesignTree) (scope : Scope) (c : Context) → context d scope ≡ Some c → StandsAt d scope c
stands_at d scope c e = by (site d scope.instance) refl e
  where
    by : (o : Option Site) → site d scope.instance ≡ o →
        option_map (λ (at : Site). here d.spec at.template scope.body) o ≡ Some c → StandsAt d scope c
    by None is same = no_thing same
    by (Some at) is same = record { at = at; is = is; same = one_thing refl same }

known_settled : (d : DesignTree) → IsKnown d → AreSettled d
known_settled d known = record {
  variables = λ scope c names ty found e own there.
      let s = stands_at d scope c e in
      variables_at d known scope s.at s.is names ty found
      (ap (λ c. own_type c (path names)) s.same ∙ own) there;
  constants = λ scope c names ty e own fits none small.
      let s = stands_at d scope c e in
      value_below_bits d.spec ty (constant_at d names)
      (constants_at d known scope s.at s.is names ty (ap (λ c. own_type c (path names)) s.same ∙ own)
      (subst (λ c. IsOfSort is_valued c names) (sym s.same) fits) none) small;
  elements = λ scope c names index ty found e own there.
      let s = stands_at d scope c e in
      elements_at d known scope s.at s.is names index ty found (ap (λ c. named_type c names) s.same ∙ own) there;
  ends = λ scope names size index long past. of_length d known scope names size index long past;
}
  where
    of_length : (d : DesignTree) → IsKnown d → (scope : Scope) (names : List Ident) (size index : ℕ) →
        length_in d scope names ≡ Some size → size ≤ index → cell d scope names (Some index) ≡ None
    of_length d known scope names size index long past = by (context d scope) refl long
      where
        by : (o : Option Context) → context d scope ≡ o →
            option_and_then (λ c. array_length c names) o ≡ Some size → cell d scope names (Some index) ≡ None
        by None e rest = no_thing rest
        by (Some c) e rest =
            let s = stands_at d scope c e in
            ends_at d known scope s.at s.is names size index (ap (λ c. array_length c names) s.same ∙ rest) past

-- what is known of the design of a checked tree
pub known_of : (d : DesignTree) → IsTyped d.spec → IsDesign d → IsKnown d
known_of d typed numbered =
    let spec_named = named d.spec typed in
    record {
      numbered = record {
        roots = numbered.instances;
        twice = typed.once;
        once = spec_named.once;
        words = text_words d.spec typed.of_text;
      };
      vars = numbered.vars;
      named = spec_named;
      leads = joined_leads d typed.known typed.once typed.matching numbered.instances;
      constants = constant_words d.spec typed.of_text;
    }

-- so its cells are settled
pub checked_settled : (d : DesignTree) → IsTyped d.spec → IsDesign d → AreSettled d
checked_settled d typed numbered = known_settled d (known_of d typed numbered)

-- and those of each design that keeps its facts, of a text
pub settled : (d : DesignTree) → IsSound d → IsOfText d.spec → AreSettled d
settled d sound of = checked_settled d (checked d sound of) sound.numbered
