use Rattle.std.proofs.Common.{◌≡◌, ◌<◌, ℕ, List, Some, length, slice_get, vec_len, sym, ap, ◌∙◌, arith}
use Rattle.std.proofs.lemmas.Option.{slice_get-get_or}
use Rattle.tm_syntax.specs.declared.tree.EnumDef.{EnumDef}
use Rattle.tm_syntax.specs.declared.tree.Spec.{Spec}
use Rattle.tm_limits.proofs.Bits.{enum_size, no_enum}
use Rattle.tm_limits.proofs.sizes.greatest_constant.Goals as goal

pub bounds-enums-number : goal.bounds-enums-number
bounds-enums-number c =
    let within = c.in-Some.ensures.within in
    let whole = ap length (c.as_slice-enums.ensures.value ∙ ap (λ (x : Spec). x.enums.items) c.spec.ensures) in
    omega (arith, within, whole)

pub returns-in-Some : goal.returns-in-Some
returns-in-Some c =
    let s = c.args.scopes.now in
    let enums = c.as_slice-enums.result.now in
    let number : ℕ = c.in-Some.number in
    let same : enums ≡ s.enums.items =
    c.as_slice-enums.ensures.value ∙ ap (λ (x : Spec). x.enums.items) c.spec.ensures in
    let whole = ap length same in
    let below = c.in-Some.ensures.within in
    let within : number < length enums = omega (arith, whole, below) in
    let def = c.index-enums-number.result in
    let there : slice_get s.enums.items number ≡ Some def =
    ap (λ (es : List EnumDef). slice_get es number) (sym same) ∙ slice_get-get_or enums number def within
    ∙ ap Some (sym c.index-enums-number.is) in
    let size = enum_size s c.args.name.now number def (sym c.enum_number.ensures.number ∙ c.in-Some.is) there in
    let less = c.saturating_sub.ensures in
    let fits = c.saturating_sub.type_inv in
    let count : c.len.result ≡ vec_len def.constants =
    c.len.ensures ∙ ap (λ (d : EnumDef). vec_len d.constants) (sym c.index-enums-number.is) in
    let kept = def.constants.ok.0 in
    omega (arith, size, less, fits, count, kept)

pub returns-in-None : goal.returns-in-None
returns-in-None c =
    let none = no_enum c.args.scopes.now c.args.name.now (sym c.enum_number.ensures.number ∙ c.in-None.is) in
    omega (arith, none)
