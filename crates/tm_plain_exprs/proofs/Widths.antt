-- The widths of types that numbers can have.
use Rattle.std.proofs.Common.{◌≡◌, ℕ, ◌^◌, ◌≤◌, Option, None, Some, sym, ap, ◌∙◌, arith}
use Rattle.std.specs.Prelude.{unwrap_or}
use Rattle.tm_syntax.specs.declared.design.Ty.{Ty}
use Rattle.tm_syntax.specs.declared.design.Ty.TheVariants as types
use Rattle.tm_syntax.specs.Design.Sizes.{width}
use Rattle.tm_typing.specs.HasType.{IsSized}

pub width_at_least : (ty : Ty) → IsSized ty → 1 ≤ width ty
width_at_least types.Bool sized = omega arith
width_at_least (types.Uint n) sized = sized.low
width_at_least (types.Enum name) sized = omega arith

pub width_at_most : (ty : Ty) → IsSized ty → width ty ≤ 64
width_at_most types.Bool sized = omega arith
width_at_most (types.Uint n) sized = sized.high
width_at_most (types.Enum name) sized = omega arith

-- the width that is found of a type
pub found_width : (ty : Ty) (found : Option ℕ) (bits : ℕ) → unwrap_or found (2 ^ 64) ≡ width ty → found ≡ Some bits →
    bits ≡ width ty
found_width ty found bits is there = sym (ap (λ o. unwrap_or o (2 ^ 64)) there) ∙ is

pub no_width : (ty : Ty) (found : Option ℕ) → IsSized ty → unwrap_or found (2 ^ 64) ≡ width ty → found ≡ None → ⊥
no_width ty found sized is none =
    let most : width ty ≤ 64 = width_at_most ty sized in
    let same : 2 ^ 64 ≡ width ty = sym (ap (λ o. unwrap_or o (2 ^ 64)) none) ∙ is in omega arith
