-- The bits of numbers and of enums.
use Rattle.std.proofs.Common.{◌≡◌, ℕ, suc, ◌+◌, ◌-◌, ◌*◌, ◌/◌, ◌^◌, ◌<◌, ◌≤◌, Bool, true, false, cond, not, nat_lt, None, Some, List, length, position, slice_get, refl, ap, ◌∙◌, subst, arith}
use Rattle.std.specs.List.{position_or_len, range_with_len}
use Rattle.std.specs.Option.{option_and_then, option_map, option_map_or}
use Rattle.std.proofs.Math.Nat.{div-eq_of_lt, lt-mul-div-succ}
use Rattle.std.proofs.Math.Pow.{pow_mono}
use Rattle.std.proofs.lemmas.Bool.{ltb-true, lt-ltb}
use Rattle.std.proofs.lemmas.Option.{slice_get-map}
use Rattle.tm_syntax.specs.declared.design.Ty.TheVariants as types
use Rattle.tm_syntax.specs.declared.tree.EnumDef.{EnumDef}
use Rattle.tm_syntax.specs.declared.tree.Spec.{Spec}
use Rattle.tm_syntax.specs.Design.Sizes.{bits_of_number, type_size}
use Rattle.tm_syntax.specs.Scopes.Names.{is_spelled}
use Rattle.tm_syntax.specs.Tree.{EnumTree}
use Rattle.tm_syntax.specs.Tree.View.{enum_tree, spec_tree}
use Rattle.tm_scope.proofs.Positions.{find-position}
use Rattle.tm_limits.specs.Amount.{capped}

-- the place of the first count of bits, from a number of them to 63, that holds a number
abbrev pub bits_from : ℕ → ℕ → ℕ
bits_from n bits = position_or_len (λ count. nat_lt n (2 ^ count)) (range_with_len bits (64 - bits))

step : (n bits : ℕ) → bits < 64 →
    bits_from n bits ≡ cond (not (nat_lt n (2 ^ bits))) (1 + bits_from n (bits + 1)) 0
step n bits below =
    let here : 64 - bits ≡ suc (63 - bits) = omega arith in
    let rest : 63 - bits ≡ 64 - (bits + 1) = omega arith in
    ap (λ k. position_or_len (λ count. nat_lt n (2 ^ count)) (range_with_len bits k)) here
    ∙ ap (λ k. cond (not (nat_lt n (2 ^ bits)))
    (1 + position_or_len (λ count. nat_lt n (2 ^ count)) (range_with_len (bits + 1) k)) 0) rest

-- a number that stops at a limit, and whose high bits are 0
holds : (number n bits : ℕ) → number ≡ capped n → bits < 64 → number / 2 ^ bits ≡ 0 → n < 2 ^ bits
holds number n bits is below none =
    let least : 2 ^ 0 ≤ 2 ^ bits = pow_mono {i = 0} {j = bits} (omega arith) in
    let some : 0 < 2 ^ bits = omega (arith, least) in
    let less : number < 2 ^ bits * (0 + 1) =
    subst (λ q. number < 2 ^ bits * (q + 1)) none (lt-mul-div-succ number some) in
    let most : 2 ^ bits ≤ 2 ^ 63 = pow_mono {i = bits} {j = 63} (omega arith) in
    omega (arith, less, most, is)

pub bits_found : (number n bits : ℕ) → number ≡ capped n → bits < 64 → number / 2 ^ bits ≡ 0 →
    bits_of_number n ≡ bits + bits_from n bits → bits ≡ bits_of_number n
bits_found number n bits is below none so =
    let here : bits_from n bits ≡ 0 =
    step n bits below ∙ ap (λ b. cond (not b) (1 + bits_from n (bits + 1)) 0)
    (lt-ltb n (2 ^ bits) (holds number n bits is below none)) in
    omega (arith, so, here)

pub bits_more : (number n bits : ℕ) → number ≡ capped n → bits < 64 → (number / 2 ^ bits ≡ 0 → ⊥) →
    bits_of_number n ≡ bits + bits_from n bits → bits_of_number n ≡ bits + 1 + bits_from n (bits + 1)
bits_more number n bits is below some so =
    let here : bits_from n bits ≡ 1 + bits_from n (bits + 1) =
    step n bits below ∙ ap (λ b. cond (not b) (1 + bits_from n (bits + 1)) 0) (by (nat_lt n (2 ^ bits)) refl) in
    omega (arith, so, here)
  where
    by : (b : Bool) → nat_lt n (2 ^ bits) ≡ b → b ≡ false
    by true e =
        let less : n < 2 ^ bits = ltb-true n (2 ^ bits) e in
        absurd (some (div-eq_of_lt (omega (arith, less, is))))
    by false e = refl

-- ---- enums

pub enum_size : (s : Spec) (name : List ℕ) (k : ℕ) (def : EnumDef) →
    position (λ (e : EnumTree). is_spelled name e.name) (spec_tree s).enums ≡ Some k →
    slice_get s.enums.items k ≡ Some def → type_size (spec_tree s) (types.Enum name) ≡ length def.constants.items
enum_size s name k def is at =
    ap (λ o. option_map_or (λ (e : EnumTree). length e.constants) o 0)
    (find-position (λ (e : EnumTree). is_spelled name e.name) (spec_tree s).enums
    ∙ ap (option_and_then (slice_get (spec_tree s).enums)) is
    ∙ slice_get-map enum_tree s.enums.items k
    ∙ ap (option_map enum_tree) at)

pub no_enum : (s : Spec) (name : List ℕ) →
    position (λ (e : EnumTree). is_spelled name e.name) (spec_tree s).enums ≡ None →
    type_size (spec_tree s) (types.Enum name) ≡ 0
no_enum s name is =
    ap (λ o. option_map_or (λ (e : EnumTree). length e.constants) o 0)
    (find-position (λ (e : EnumTree). is_spelled name e.name) (spec_tree s).enums
    ∙ ap (option_and_then (slice_get (spec_tree s).enums)) is)
