-- The values of the designs of checked texts: each type has some, and what is declared or named is one of its type.
use Rattle.std.proofs.Common.{◌≡◌, ◌<◌, Option, None, Some, List, [], ◌∷◌, refl, sym, ap, ◌∙◌, subst, arith}
use Rattle.std.specs.Prelude.{nat_eq}
use Rattle.std.specs.Cmp.Lexicographic.{pointwise}
use Rattle.std.specs.List.{AllByRecursion}
use Rattle.std.specs.Option.{option_map, option_and_then}
use Rattle.tm_syntax.specs.declared.tree.Ident.{Ident}
use Rattle.tm_syntax.specs.declared.design.Ty.{Ty}
use Rattle.tm_syntax.specs.Tree.{path, VarTree}
use Rattle.tm_syntax.specs.Scopes.Names.{type_of}
use Rattle.tm_syntax.specs.Scopes.Context.{Slot, Frame, frame_of, slot_named, slot_of, variable_of}
use Rattle.tm_syntax.specs.Scopes.Types.{either_type, constant_type, own_type}
use Rattle.tm_syntax.specs.Design.{DesignTree, IsDesign}
use Rattle.tm_syntax.specs.Design.Scope.{Scope, Site, site}
use Rattle.tm_syntax.specs.Design.Sizes.{type_size}
use Rattle.tm_syntax.specs.Faults.{IsTyped}
use Rattle.tm_syntax.specs.Faults.Operands.{is_valued}
use Rattle.tm_typing.specs.HasType.{IsOfSort}
use Rattle.tm_typing.proofs.Listed.{In, of_find, one_thing, no_thing}
use Rattle.tm_design.specs.Values.{VarFits, HasValues}
use Rattle.tm_design.proofs.ConstantValues.{constant_in_type}
use Rattle.tm_design.proofs.DeclaredValues.{vars_fit}
use Rattle.tm_design.proofs.FoundCells.{is_site}
use Rattle.tm_design.proofs.Frames.{is_frame}
use Rattle.tm_design.proofs.SettledDesigns.{IsKnown, in_text, member_found, constants_at, stands_at, known_of}
use Rattle.tm_design.proofs.Sites.{site_in}
use Rattle.tm_design.proofs.WrittenTypes.{var_written, slot_written, written_has_values}

module _ (d : DesignTree) (known : IsKnown d) (typed : IsTyped d.spec) (scope : Scope) (at : Site)
    (stands : site d scope.instance ≡ Some at) where
  slot_filled : (names : List Ident) (s : Slot) → slot_of (in_text d known scope at stands) names ≡ Some s →
      0 < type_size d.spec s.ty
  slot_filled [] s e = no_thing e
  slot_filled (name ∷ next ∷ names) s e = no_thing e
  slot_filled (name ∷ []) s e = by (frame_of d.spec at.template scope.body) refl e
    where
      here : In at.template d.spec.templates
      here =
          site_in d.spec d.instances known.numbered.roots known.numbered.once known.numbered.words at.number at.node
          at.template (is_site d scope.instance at stands)

      by : (o : Option Frame) → frame_of d.spec at.template scope.body ≡ o →
          option_and_then (λ (frame : Frame). slot_named frame name.text) o ≡ Some s → 0 < type_size d.spec s.ty
      by None is rest = no_thing rest
      by (Some f) is rest =
          let among = (of_find (λ (s : Slot). pointwise nat_eq name.text s.name) f.slots rest).0 in
          let written = slot_written d.spec at.template scope.body f s (is_frame d.spec at.template scope.body f is)
          among in
          subst (λ ty. 0 < type_size d.spec ty) written.2
          (written_has_values d.spec typed at.template here written.0 written.1)

  variable_filled : (names : List Ident) (w : VarTree) →
      variable_of (in_text d known scope at stands) names ≡ Some w → 0 < type_size d.spec (type_of w.ty)
  variable_filled names w e =
      let m = member_found d known scope at stands names w e in
      let here = site_in d.spec d.instances known.numbered.roots known.numbered.once known.numbered.words
      m.site.number m.site.node m.site.template m.is in
      written_has_values d.spec typed m.site.template here w.ty (var_written m.site.template w m.among)

  constant_filled : (names : List Ident) (ty : Ty) → constant_type d.spec names ≡ Some ty → 0 < type_size d.spec ty
  constant_filled [] ty e = no_thing e
  constant_filled (name ∷ next ∷ names) ty e = no_thing e
  constant_filled (name ∷ []) ty e =
      let below = constant_in_type d.spec name ty e known.named.text_once in omega (arith, below)

  -- the type of a path has values
  path_filled : (names : List Ident) (ty : Ty) →
      own_type (in_text d known scope at stands) (path names) ≡ Some ty → 0 < type_size d.spec ty
  path_filled names ty own =
      by (slot_of (in_text d known scope at stands) names) refl (variable_of (in_text d known scope at stands) names)
      refl own
    where
      by : (s : Option Slot) → slot_of (in_text d known scope at stands) names ≡ s → (w : Option VarTree) →
          variable_of (in_text d known scope at stands) names ≡ w →
          either_type (either_type (option_map (λ (s : Slot). s.ty) s) (option_map (λ (v : VarTree). type_of v.ty) w))
          (constant_type d.spec names) ≡ Some ty → 0 < type_size d.spec ty
      by (Some s) slot w variable is =
          subst (λ ty. 0 < type_size d.spec ty) (one_thing refl is) (slot_filled names s slot)
      by None slot (Some w) variable is =
          subst (λ ty. 0 < type_size d.spec ty) (one_thing refl is) (variable_filled names w variable)
      by None slot None variable is = constant_filled names ty is

pub values : (d : DesignTree) → IsTyped d.spec → IsDesign d → HasValues d
values d typed numbered =
    let known = known_of d typed numbered in
    record {
      variables = subst (AllByRecursion (VarFits d.spec)) (sym known.vars) (vars_fit d.spec typed d.instances);
      types = λ scope c names ty e own.
          let s = stands_at d scope c e in
          path_filled d known typed scope s.at s.is names ty (ap (λ c. own_type c (path names)) s.same ∙ own);
      constants = λ scope c names ty e own fits none.
          let s = stands_at d scope c e in
          constants_at d known scope s.at s.is names ty (ap (λ c. own_type c (path names)) s.same ∙ own)
          (subst (λ c. IsOfSort is_valued c names) (sym s.same) fits) none;
    }
