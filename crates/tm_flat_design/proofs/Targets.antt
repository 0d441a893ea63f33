-- The targets of assignments have cells: a path that suits a target, and each element of an array.
use Rattle.std.proofs.Common.{◌≡◌, ℕ, ◌<◌, true, Option, None, Some, List, ◌∷◌, ◌++◌, refl, sym, ap, ◌∙◌, subst, arith}
use Rattle.std.specs.Prelude.{is_some, if◌then◌else◌}
use Rattle.std.specs.Fmt.{decimal}
use Rattle.std.specs.Option.{option_and_then, option_map}
use Rattle.tm_syntax.specs.declared.design.Ty.{Ty}
use Rattle.tm_syntax.specs.declared.tree.Ident.{Ident}
use Rattle.tm_syntax.specs.declared.tree.Num.{Num}
use Rattle.tm_syntax.specs.Tree.{TemplateTree, VarTree}
use Rattle.tm_syntax.specs.Scopes.Context.{Context, Slot, slot_of, variable_of}
use Rattle.tm_syntax.specs.Scopes.Declared.{a_variable, an_array}
use Rattle.tm_syntax.specs.Scopes.Names.{number_of, type_of}
use Rattle.tm_syntax.specs.Scopes.Types.{array_length, either_type, named_type}
use Rattle.tm_syntax.specs.Design.{DesignTree, InstanceNode, member_path}
use Rattle.tm_syntax.specs.Design.Scope.{Scope, context, length_in}
use Rattle.tm_syntax.specs.Design.Cells.{Cell, cell, variable_at, variable_path}
use Rattle.tm_syntax.specs.Faults.Operands.{is_assigned}
use Rattle.tm_typing.specs.HasType.{IsOfSort}
use Rattle.tm_typing.proofs.Fitting.{contrary}
use Rattle.tm_typing.proofs.Listed.{In, holds_in, no_thing, one_thing}
use Rattle.tm_typing.proofs.Slots.{here}
use Rattle.tm_typing.proofs.Words.{TemplateWords, VarWords}
use Rattle.tm_design.proofs.FoundCells.{IsMember, cell_member, cell_own, found_there, is_site, member_is, no_own, own_there}
use Rattle.tm_design.proofs.Holders.{variable_there}
use Rattle.tm_design.proofs.PathMeanings.{variable_suits}
use Rattle.tm_design.proofs.SettledDesigns.{IsKnown, StandsAt, member_found, stands_at}
use Rattle.tm_design.proofs.Sites.{IsSite, site_in}
use Rattle.tm_flat_design.proofs.Elements.{element_there}

module _ (d : DesignTree) (known : IsKnown d) (scope : Scope) (c : Context) (stands : context d scope ≡ Some c) where
  -- a path, with the index of an element where there is one, has a cell
  abbrev HasCellAt : List Ident → Option ℕ → Type 0
  HasCellAt names index = (x : Cell) × (cell d scope names index ≡ Some x)

  place : StandsAt d scope c
  place = stands_at d scope c stands

  abbrev text : Context
  text = here d.spec place.at.template scope.body

  abbrev Member : List Ident → VarTree → Type 0
  Member names w = IsMember d known.vars known.numbered scope place.at place.is names w

  -- a parameter or local has one
  of_slot : (names : List Ident) (index : Option ℕ) (s : Slot) → slot_of text names ≡ Some s → HasCellAt names index
  of_slot names index s is =
      let x = own_there d known.vars known.numbered scope place.at place.is names s is in
      (x.0, cell_own d known.vars known.numbered scope place.at place.is names index x.0 x.1)

  -- a member has the one of its path
  of_member : (names : List Ident) (index : Option ℕ) (w : VarTree) (m : Member names w) → slot_of text names ≡ None →
      (x : Cell) → variable_at d (variable_path m.site.node w.name.text index) ≡ Some x → HasCellAt names index
  of_member names index w m none x found = (
    x,
    cell_member d known.vars known.numbered scope place.at place.is names index
        (no_own d known.vars known.numbered scope place.at place.is names none)
        ∙ member_is d known.vars known.numbered scope place.at place.is names index w m
        ∙ found,
  )

  -- a variable that suits a target is no array
  plain_member : (names : List Ident) (w : VarTree) → Member names w → IsOfSort is_assigned text names → w.size ≡ None
  plain_member names w m sort =
      by w.size refl
      (variable_suits d.spec known.named is_assigned known.numbered.twice place.at.template
      (inside place.at.number place.at.node place.at.template (is_site d scope.instance place.at place.is)) scope.body
      names m.site.template w m.of m.among m.spelled
      (holds_in VarWords m.site.template.vars
      (holds_in TemplateWords d.spec.templates known.numbered.words
      (inside m.site.number m.site.node m.site.template m.is)).vars m.among).name sort)
    where
      inside : (k : ℕ) (n : InstanceNode) (t : TemplateTree) → IsSite d.spec d.instances k n t → In t d.spec.templates
      inside k n t site =
          site_in d.spec d.instances known.numbered.roots known.numbered.once known.numbered.words k n t site

      by : (o : Option Num) → w.size ≡ o → is_assigned (if is_some o then an_array else a_variable) ≡ true →
          w.size ≡ None
      by None is assigned = is
      by (Some n) is assigned = contrary assigned

  pub target_there : (names : List Ident) (ty : Ty) → named_type c names ≡ Some ty → IsOfSort is_assigned c names →
      HasCellAt names None
  target_there names ty named sort =
      by (slot_of text names) refl (variable_of text names) refl (ap (λ c. named_type c names) place.same ∙ named)
    where
      by : (o : Option Slot) → slot_of text names ≡ o → (w : Option VarTree) → variable_of text names ≡ w →
          either_type (option_map (λ (s : Slot). s.ty) o) (option_map (λ (v : VarTree). type_of v.ty) w) ≡ Some ty →
          HasCellAt names None
      by (Some s) slot w variable is = of_slot names None s slot
      by None slot (Some w) variable is =
          let m = member_found d known scope place.at place.is names w variable in
          let x = found_there d known.vars (member_path m.site.node.path w.name.text)
          (variable_there d.spec d.instances m.site.number m.site.node m.site.template m.is w m.among
          (plain_member names w m (subst (λ (c : Context). IsOfSort is_assigned c names) (sym place.same) sort))) in
          of_member names None w m slot x.0 x.1
      by None slot None variable is = no_thing is

  pub element_found : (names : List Ident) (size k : ℕ) → length_in d scope names ≡ Some size → k < size →
      HasCellAt names (Some k)
  element_found names size k long below =
      by (slot_of text names) refl (variable_of text names) refl
      (ap (λ c. array_length c names) place.same
      ∙ sym (ap (option_and_then (λ c. array_length c names)) stands) ∙ long)
    where
      of_array : (w : VarTree) → variable_of text names ≡ Some w → slot_of text names ≡ None → (o : Option Num) →
          w.size ≡ o → option_map number_of o ≡ Some size → HasCellAt names (Some k)
      of_array w variable slot None is e = no_thing e
      of_array w variable slot (Some n) is e =
          let m = member_found d known scope place.at place.is names w variable in
          let most : number_of n ≡ size = one_thing refl e in
          let x = found_there d known.vars (member_path m.site.node.path w.name.text ++ 46 ∷ decimal k)
          (element_there d.spec d.instances m.site.number m.site.node m.site.template m.is w m.among n is k
          (omega (arith, most, below))) in
          of_member names (Some k) w m slot x.0 x.1

      by : (o : Option Slot) → slot_of text names ≡ o → (w : Option VarTree) → variable_of text names ≡ w →
          option_and_then (λ (v : VarTree). option_map number_of v.size) w ≡ Some size → HasCellAt names (Some k)
      by (Some s) slot w variable is = of_slot names (Some k) s slot
      by None slot None variable is = no_thing is
      by None slot (Some w) variable is = of_array w variable slot w.size refl is
