-- The fields of a design are those of its states.
use Rattle.std.proofs.Common.{◌≡◌, ℕ, ◌+◌, ◌-◌, ◌^◌, ◌<◌, ◌≤◌, List, [], ◌∷◌, ◌++◌, length, map, refl, sym, ap, ◌∙◌, subst, arith}
use Rattle.std.specs.Prelude.{All}
use Rattle.std.specs.List.{AllByRecursion, AllZip, range_with_len}
use Rattle.std.proofs.lemmas.List.{map-append}
use Rattle.std.proofs.lemmas.List.Elements.{All-append, All-cons, All-nil}
use Rattle.tm_design.specs.Values.{HasValues, VarFits}
use Rattle.tm_flat.specs.Inputs.{AreSmall}
use Rattle.tm_flat.proofs.Widths.{number_has_bits, number_wide, type_has_bits}
use Rattle.tm_flat_states.specs.Markable.{IsMarkable}
use Rattle.tm_flat_states.proofs.Laid.{by_ends}
use Rattle.tm_locations.specs.declared.table.Locations.{Locations}
use Rattle.tm_orders.specs.Fields.{field_to, state_fields, value_field}
use Rattle.tm_plain.specs.Machine.{AreLocated}
use Rattle.tm_plain.proofs.Along.{have_locations}
use Rattle.tm_reorder.specs.declared.fields.Field.{Field}
use Rattle.tm_reorder.specs.Fields.{AreFields, IsField}
use Rattle.tm_sem.specs.State.{StateData}
use Rattle.tm_sem.specs.StateBits.{state_numbers, state_widths}
use Rattle.tm_sem.specs.Step.{IsState}
use Rattle.tm_states.specs.States.{end_of}
use Rattle.tm_syntax.specs.declared.design.Design.{Design}
use Rattle.tm_syntax.specs.declared.design.Ty.{Ty}
use Rattle.tm_syntax.specs.declared.design.Ty.TheVariants as types
use Rattle.tm_syntax.specs.declared.design.Var.{Var}
use Rattle.tm_syntax.specs.declared.tree.Spec.{Spec}
use Rattle.tm_syntax.specs.Tree.{SpecTree}
use Rattle.tm_syntax.specs.Tree.View.{spec_tree}
use Rattle.tm_syntax.specs.Design.{DesignTree}
use Rattle.tm_syntax.specs.Design.Locations.{end_number}
use Rattle.tm_syntax.specs.Design.Sizes.{bits_of_number, type_bits, type_size}
use Rattle.tm_syntax.specs.Design.View.{design_tree}
use Rattle.tm_typing.specs.HasType.{IsSized}

-- ---- lists
abbrev IsUpTo : Field → ℕ → Type 0
IsUpTo f n = n ≤ f.last

zip_append : (fs gs : List Field) (ns ms : List ℕ) → AllZip IsUpTo fs ns → AllZip IsUpTo gs ms →
    AllZip IsUpTo (fs ++ gs) (ns ++ ms)
zip_append [] gs [] ms first second = second
zip_append [] gs (n ∷ ns) ms first second = absurd first
zip_append (f ∷ fs) gs [] ms first second = absurd first
zip_append (f ∷ fs) gs (n ∷ ns) ms first second = (first.0, zip_append fs gs ns ms first.1 second)

zip_map : {X : Type 0} (field : X → Field) (R : X → ℕ → Type 0) → ((x : X) (n : ℕ) → R x n → n ≤ (field x).last) →
    (xs : List X) (ns : List ℕ) → AllZip R xs ns → AllZip IsUpTo (map field xs) ns
zip_map field R step [] [] all = tt
zip_map field R step [] (n ∷ ns) all = absurd all
zip_map field R step (x ∷ xs) [] all = absurd all
zip_map field R step (x ∷ xs) (n ∷ ns) all = (step x n all.0, zip_map field R step xs ns all.1)

each_map : {X : Type 0} (field : X → Field) (P : X → Type 0) → ((x : X) → P x → IsField (field x)) → (xs : List X) →
    AllByRecursion P xs → All IsField (map field xs)
each_map field P step [] all = All-nil IsField
each_map field P step (x ∷ xs) all =
    All-cons IsField (field x) (map field xs) (step x all.0) (each_map field P step xs all.1)

widths_map : {X : Type 0} (field : X → Field) (width : X → ℕ) → ((x : X) → (field x).width ≡ width x) →
    (xs : List X) → map (λ (f : Field). f.width) (map field xs) ≡ map width xs
widths_map field width same [] = refl
widths_map field width same (x ∷ xs) = λ i. same x i ∷ widths_map field width same xs i

each_place : (d : DesignTree) (fits : (p : ℕ) → IsField (field_to (end_number d p))) (ps : List ℕ) →
    All IsField (map (λ p. field_to (end_number d p)) ps)
each_place d fits [] = All-nil IsField
each_place d fits (p ∷ ps) =
    All-cons IsField (field_to (end_number d p)) (map (λ p. field_to (end_number d p)) ps) (fits p)
    (each_place d fits ps)

-- ---- one field
number_field : (n : ℕ) → n < 2 ^ 64 → IsField (field_to n)
number_field n small = record { narrow = (number_wide n).1; fits = number_has_bits n small }

module _ (d : DesignTree) (values : HasValues d) (small : AreSmall d) where
  type_narrow : (ty : Ty) → IsSized ty → type_bits d.spec ty ≤ 64
  type_narrow types.Bool is = omega arith
  type_narrow (types.Uint w) is = is.high
  type_narrow (types.Enum name) is = (number_wide (type_size d.spec (types.Enum name) - 1)).1

  last_fits : (ty : Ty) → 0 < type_size d.spec ty → type_size d.spec ty - 1 < 2 ^ type_bits d.spec ty
  last_fits types.Bool some = omega arith
  last_fits (types.Uint w) some = omega (arith, some)
  last_fits (types.Enum name) some =
      let enough = type_has_bits d.spec (types.Enum name) (small.enums name) in
      omega (arith, enough, some)

  value_is : (v : Var) → VarFits d.spec v → IsField (value_field d.spec v)
  value_is v fits = record { narrow = type_narrow v.ty fits.sized; fits = last_fits v.ty fits.filled }

  abbrev processes : List ℕ
  processes = range_with_len 0 (length d.processes)

  abbrev places : List Field
  places = map (λ p. field_to (end_number d p)) processes

  abbrev variables : List Field
  variables = map (value_field d.spec) d.vars

  each_is : All IsField (state_fields d)
  each_is =
      All-append IsField (variables ++ places) (field_to (1 + length d.processes) ∷ [])
      (All-append IsField variables places
      (each_map (value_field d.spec) (VarFits d.spec) value_is d.vars values.variables)
      (each_place d (λ p. number_field (end_number d p) (small.locations p)) processes))
      (All-cons IsField (field_to (1 + length d.processes)) []
      (number_field (1 + length d.processes) small.processes) (All-nil IsField))

  widths_are : map (λ (f : Field). f.width) (state_fields d) ≡ state_widths d
  widths_are =
      map-append (λ (f : Field). f.width) (variables ++ places) (field_to (1 + length d.processes) ∷ [])
      ∙ ap (λ ws. ws ++ bits_of_number (1 + length d.processes) ∷ [])
      (map-append (λ (f : Field). f.width) variables places
      ∙ (λ i. widths_map (value_field d.spec) (λ (v : Var). type_bits d.spec v.ty) (λ v. refl) d.vars i
      ++ widths_map (λ p. field_to (end_number d p)) (λ p. bits_of_number (end_number d p)) (λ p. refl) processes i))

  most : (s : StateData) → IsState d s → AllZip IsUpTo (state_fields d) (state_numbers s)
  most s valid =
      zip_append (variables ++ places) (field_to (1 + length d.processes) ∷ []) (s.values ++ s.places) (s.last ∷ [])
      (zip_append variables places s.values s.places
      (zip_map (value_field d.spec) (λ (v : Var) n. n < type_size d.spec v.ty) (λ v n below. omega (arith, below))
      d.vars
      s.values valid.values)
      (zip_map (λ p. field_to (end_number d p)) (λ p k. k ≤ end_number d p) (λ p k most. most) processes s.places
      valid.places))
      (omega (arith, valid.last), tt)

  pub are_fields : AreFields d (state_fields d)
  are_fields = record { each = each_is; widths = widths_are; most = most }

-- what the parts are laid out to
module _ (d : Design) (ts : List Locations) (located : AreLocated d (length d.processes.items) ts) (spec : Spec)
    (text : spec ≡ d.spec) (vars : List Var) (are : vars ≡ d.vars.items) where
  pub fields_laid : (all vs ps qs : List Field) (last : ℕ) → vs ≡ map (value_field (spec_tree spec)) vars →
      ps ≡ map (λ (t : Locations). field_to (end_of t)) ts → qs ≡ ps → last ≡ 1 + length d.processes.items →
      all ≡ (vs ++ qs) ++ field_to last ∷ [] → all ≡ state_fields (design_tree d)
  fields_laid all vs ps qs last first second same third laid =
      let tree = design_tree d in
      let values : vs ≡ map (value_field tree.spec) tree.vars =
      first ∙ (λ i. map (value_field (spec_tree (text i))) (are i)) in
      let places = same ∙ second
      ∙ by_ends tree field_to (range_with_len 0 (length tree.processes)) ts (have_locations d ts located) in
      laid ∙ (λ i. (values i ++ places i) ++ field_to (third i) ∷ [])

-- so they are the fields of a design
pub fields_are : (d : Design) → IsMarkable d → (all : List Field) → all ≡ state_fields (design_tree d) →
    AreFields (design_tree d) all
fields_are d markable all are =
    subst (AreFields (design_tree d)) (sym are) (are_fields (design_tree d) markable.values markable.small)
