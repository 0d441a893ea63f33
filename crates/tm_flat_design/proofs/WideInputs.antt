-- The widths of the inputs of a design are widths.
use Rattle.std.proofs.Common.{◌≡◌, ℕ, ◌+◌, List, [], ◌∷◌, ◌++◌, length, map, replicate, sym, ap, ◌∙◌, subst, arith}
use Rattle.std.specs.Prelude.{All}
use Rattle.std.specs.declared.alloc.Global.{Global}
use Rattle.std.specs.declared.vec.Vec.{Vec}
use Rattle.std.specs.List.{AllByRecursion, range_with_len}
use Rattle.std.proofs.lemmas.List.Elements.{All-append, All-cons, All-nil, All-replicate}
use Rattle.tm_base.specs.Arithmetic.{IsWidth}
use Rattle.tm_syntax.specs.declared.design.Design.{Design}
use Rattle.tm_syntax.specs.declared.design.Ty.{Ty}
use Rattle.tm_syntax.specs.declared.design.Ty.TheVariants as types
use Rattle.tm_syntax.specs.declared.design.Var.{Var}
use Rattle.tm_syntax.specs.Tree.{SpecTree}
use Rattle.tm_syntax.specs.Design.{DesignTree}
use Rattle.tm_syntax.specs.Design.Locations.{end_number}
use Rattle.tm_syntax.specs.Design.Sizes.{bits_of_number, type_bits}
use Rattle.tm_syntax.specs.Design.View.{design_tree}
use Rattle.tm_typing.specs.HasType.{IsSized}
use Rattle.tm_design.specs.Values.{HasValues, VarFits}
use Rattle.tm_flat.specs.Inputs.{input_widths, room}
use Rattle.tm_flat.proofs.Widths.{number_wide}

-- the bits of a type are a width
type_wide : (spec : SpecTree) (ty : Ty) → IsSized ty → IsWidth (type_bits spec ty)
type_wide spec types.Bool is = (omega arith, omega arith)
type_wide spec (types.Uint w) is = (is.low, is.high)
type_wide spec (types.Enum name) is = number_wide _

values_wide : (spec : SpecTree) (vars : List Var) → AllByRecursion (VarFits spec) vars →
    All IsWidth (map (λ (v : Var). type_bits spec v.ty) vars)
values_wide spec [] all = All-nil IsWidth
values_wide spec (v ∷ vars) all =
    All-cons IsWidth (type_bits spec v.ty) (map (λ (v : Var). type_bits spec v.ty) vars)
    (type_wide spec v.ty all.0.sized) (values_wide spec vars all.1)

places_wide : (d : DesignTree) (ps : List ℕ) → All IsWidth (map (λ p. bits_of_number (end_number d p)) ps)
places_wide d [] = All-nil IsWidth
places_wide d (p ∷ ps) =
    All-cons IsWidth (bits_of_number (end_number d p)) (map (λ p. bits_of_number (end_number d p)) ps)
    (number_wide (end_number d p)) (places_wide d ps)

wide_inputs : (d : DesignTree) → HasValues d → All IsWidth (input_widths d)
wide_inputs d has =
    let values = map (λ (v : Var). type_bits d.spec v.ty) d.vars in
    let places = map (λ p. bits_of_number (end_number d p)) (range_with_len 0 (length d.processes)) in
    let last = bits_of_number (1 + length d.processes) ∷ [] in
    let bits = All-replicate IsWidth room 1 (omega arith, omega arith) in
    All-append IsWidth (values ++ places ++ last ++ replicate room 1) (replicate room 1)
    (All-append IsWidth (values ++ places ++ last) (replicate room 1)
    (All-append IsWidth (values ++ places) last
    (All-append IsWidth values places (values_wide d.spec d.vars has.variables) (places_wide d _))
    (All-cons IsWidth (bits_of_number (1 + length d.processes)) [] (number_wide (1 + length d.processes))
    (All-nil IsWidth)))
    bits) bits

-- what is told of one design is told of the other
module _ (d e : Design) (same : e ≡ d) (widths : Vec ℕ Global) (are : widths.items ≡ input_widths (design_tree e)) where
  pub widths_are : widths.items ≡ input_widths (design_tree d)
  widths_are = are ∙ ap (λ (k : Design). input_widths (design_tree k)) same

  pub widths_wide : HasValues (design_tree d) → All IsWidth widths.items
  widths_wide has = subst (All IsWidth) (sym widths_are) (wide_inputs (design_tree d) has)
