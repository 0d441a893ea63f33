-- The parts of a substitution.
use Rattle.std.specs.Prelude.{◌≡◌, ℕ, ◌==◌, Bool, true, false, ◌&&◌, List}
use Rattle.std.specs.Cmp.{IsEquivalence, decided}
use Rattle.std.specs.Cmp.Lexicographic.{pointwise, pointwise_decides, lists_equiv}
use Rattle.std.specs.List.{fold}
use Rattle.std.specs.Bool.{Decides}
use Rattle.std.proofs.Common.{refl, ap, sym, ◌∙◌}
use Rattle.std.proofs.lemmas.Bool.{eqb-true, eq-eqb}
use Rattle.tm_dd.specs.declared.node.NodeId.{NodeId}
use Rattle.tm_dd.specs.Hashed.{mixed}
use Rattle.tm_dd.specs.NodeId.{number_of}

-- whether two parts are one
abbrev pub part_eq : ℕ × NodeId → ℕ × NodeId → Bool
part_eq p q = (p.0 == q.0) && (number_of p.1 == number_of q.1)

-- parts as one number
unfoldable pub digest : List (ℕ × NodeId) → ℕ
digest parts = fold (λ number part. mixed number part.0 (number_of part.1)) 0 parts

-- a number is that of parts
abbrev pub HasDigest : List (ℕ × NodeId) → ℕ → Type 0
HasDigest parts number = number ≡ digest parts

-- what holds of both sides of `&&`
both_true : (a b : Bool) → a && b ≡ true → (a ≡ true) × (b ≡ true)
both_true true b h = (refl, h)
both_true false b h = cc

-- parts that `==` finds equal are one
same_part : (p q : ℕ × NodeId) → part_eq p q ≡ true → p ≡ q
same_part p q h =
    let parts = both_true _ _ h in
    let level = eqb-true p.0 q.0 parts.0 in
    let number = eqb-true (number_of p.1) (number_of q.1) parts.1 in
    λ i. (level i, record { 0 = number i })

-- a part is equal to itself
part_eq-same : (p q : ℕ × NodeId) → p ≡ q → part_eq p q ≡ true
part_eq-same p q e =
    ap (λ (r : ℕ × NodeId). part_eq p r) (sym e)
    ∙ (λ i. eq-eqb p.0 p.0 refl i && eq-eqb (number_of p.1) (number_of p.1) refl i)

-- `==` tells whether parts are one
part_Decides : (p q : ℕ × NodeId) → Decides (part_eq p q) (p ≡ q)
part_Decides p q = (same_part p q, part_eq-same p q)

-- `==` of lists of parts is an equivalence
pub parts_equiv : IsEquivalence (pointwise part_eq)
parts_equiv = lists_equiv (decided part_eq part_Decides)

-- lists of parts that `==` finds equal are one
pub same_parts : (xs ys : List (ℕ × NodeId)) → pointwise part_eq xs ys ≡ true → xs ≡ ys
same_parts xs ys h = (pointwise_decides part_Decides xs ys).0 h
