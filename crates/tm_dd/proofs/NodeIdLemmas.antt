-- Ids as positions and marks.
use Rattle.std.proofs.Common.{◌≡◌, ℕ, ◌+◌, ◌*◌, ◌/◌, ◌%◌, Bool, true, false, not, refl, ap, ◌∙◌, arith, bit_xor}
use Rattle.std.proofs.lemmas.Bool.{eqb-true, eqb-false, eq-eqb, ne_eqb}
use Rattle.std.proofs.lemmas.Bool.Decides.{nat_tests}
use lib.Bits.{xor_step, xor_zero_r, differ}
use Rattle.tm_dd.specs.declared.node.NodeId.{NodeId}
use Rattle.tm_dd.specs.NodeId.{number_of, position_of, is_marked, complement}

-- ids with one number are one
pub same_number : (f g : NodeId) → number_of f ≡ number_of g → f ≡ g
same_number f g e = ap (λ (n : ℕ). record { 0 = n }) e

-- and so are ids with one position and one mark
pub same_id : (f g : NodeId) → position_of f ≡ position_of g → is_marked f ≡ is_marked g → f ≡ g
same_id f g p m = same_number f g (grind (arith, nat_tests))

xor_one : (a : ℕ) → bit_xor a 1 ≡ a / 2 * 2 + differ (a % 2) 1
xor_one a = xor_step a 1 ∙ ap (λ x. x * 2 + differ (a % 2) 1) (xor_zero_r (a / 2))

-- the other mark takes one from the number of a marked id
pub number_of-complement_marked : (id : NodeId) → is_marked id ≡ true → number_of (complement id) + 1 ≡ number_of id
unfolding complement
number_of-complement_marked id m =
    let r : number_of id % 2 ≡ 1 = eqb-true _ _ m in
    let e : bit_xor (number_of id) 1 ≡ number_of id / 2 * 2 + 0 =
    xor_one (number_of id) ∙ ap (λ x. number_of id / 2 * 2 + differ x 1) r in
    omega (arith, e)

-- and adds one to that of another
pub number_of-complement_plain : (id : NodeId) → is_marked id ≡ false → number_of (complement id) ≡ number_of id + 1
unfolding complement
number_of-complement_plain id m =
    let r : number_of id % 2 ≡ 0 = omega (arith, eqb-false _ _ m) in
    let e : bit_xor (number_of id) 1 ≡ number_of id / 2 * 2 + 1 =
    xor_one (number_of id) ∙ ap (λ x. number_of id / 2 * 2 + differ x 1) r in
    omega (arith, e)

-- the position stays under the other mark
pub position_of-complement : (id : NodeId) → position_of (complement id) ≡ position_of id
position_of-complement id =
    elim (is_marked id) as (λ b. is_marked id ≡ b → position_of (complement id) ≡ position_of id) [
      | true ↦ λ m. let e = number_of-complement_marked id m in let r : number_of id % 2 ≡ 1 = eqb-true _ _ m in
          omega (arith, e)
      | false ↦ λ m. let e = number_of-complement_plain id m in let r : number_of id % 2 ≡ 0 =
          omega (arith, eqb-false _ _ m) in omega (arith, e)
    ] refl

-- the mark changes
pub is_marked-complement : (id : NodeId) → is_marked (complement id) ≡ not (is_marked id)
is_marked-complement id =
    elim (is_marked id) as (λ b. is_marked id ≡ b → is_marked (complement id) ≡ not b) [
      | true ↦ λ m. let e = number_of-complement_marked id m in let r : number_of id % 2 ≡ 1 = eqb-true _ _ m in
          ne_eqb _ _ (omega (arith, e))
      | false ↦ λ m. let e = number_of-complement_plain id m in let r : number_of id % 2 ≡ 0 =
          omega (arith, eqb-false _ _ m) in eq-eqb _ _ (omega (arith, e))
    ] refl

pub not-not : (b : Bool) → not (not b) ≡ b
not-not true = refl
not-not false = refl

-- the complement of the complement is the function itself
pub complement-complement : (id : NodeId) → complement (complement id) ≡ id
complement-complement id =
    same_id _ _ (position_of-complement (complement id) ∙ position_of-complement id)
    (is_marked-complement (complement id) ∙ ap not (is_marked-complement id) ∙ not-not (is_marked id))
