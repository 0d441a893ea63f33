-- Changes of levels: when two are one, and the hashes of their lists.
use Rattle.std.specs.Prelude.{◌≡◌, ℕ, ◌-◌, ◌^◌, ◌==◌, Bool, true, false, ◌&&◌, List, IsTrue}
use Rattle.std.specs.Bool.{Decides}
use Rattle.std.specs.Cmp.{IsEquivalence, decided}
use Rattle.std.specs.Cmp.Lexicographic.{pointwise, pointwise_decides, lists_equiv}
use Rattle.std.specs.Hash as fed
use Rattle.std.specs.List.{fold}
use Rattle.std.proofs.Common.{refl, ap, subst, sym, ◌∙◌}
use Rattle.std.proofs.lemmas.Bool.{eqb-true, eq-eqb}
use Rattle.tm_dd.specs.Hashed.{mixed}
use Rattle.tm_dd.specs.NodeId.{number_of}
use Rattle.tm_ddops.specs.declared.change.Change.{Change}
use Rattle.tm_ddops.specs.declared.change.Change.TheVariants.{Becomes, Quantified}

-- whether two changes are one
abbrev pub change_eq : Change → Change → Bool
change_eq (Becomes f) (Becomes g) = number_of f == number_of g
change_eq Quantified Quantified = true
change_eq _ _ = false

-- a change as a number
abbrev pub change_number : Change → ℕ
change_number (Becomes f) = number_of f
change_number Quantified = 2 ^ 64 - 1

-- changes that `==` finds equal are one
same_change : (a b : Change) → change_eq a b ≡ true → a ≡ b
same_change (Becomes f) (Becomes g) h =
    ap (λ (n : ℕ). Becomes (record { 0 = n })) (eqb-true (number_of f) (number_of g) h)
same_change Quantified Quantified h = refl
same_change _ _ h = cc

-- a change is equal to itself
change_eq-refl : (a : Change) → change_eq a a ≡ true
change_eq-refl (Becomes f) = eq-eqb (number_of f) (number_of f) refl
change_eq-refl Quantified = refl

-- `==` tells whether changes are one
change_Decides : (a b : Change) → Decides (change_eq a b) (a ≡ b)
change_Decides a b = (same_change a b, λ e. subst (λ x. change_eq a x ≡ true) e (change_eq-refl a))

-- `==` of changes is an equivalence
pub change_equiv : IsEquivalence change_eq
change_equiv = decided change_eq change_Decides

-- ---- levels with their changes

-- whether two levels with their changes are one
abbrev pub item_eq : ℕ × Change → ℕ × Change → Bool
item_eq p q = (p.0 == q.0) && change_eq p.1 q.1

-- levels with their changes as one number
unfoldable pub digest : List (ℕ × Change) → ℕ
digest items = fold (λ number item. mixed number item.0 (change_number item.1)) 0 items

-- a number is that of levels with their changes
abbrev pub HasDigest : List (ℕ × Change) → ℕ → Type 0
HasDigest items number = number ≡ digest items

-- the writes of the hash of levels with their changes
abbrev pub changes_hash : List (ℕ × Change) → fed.HashWrites
changes_hash items = fed.u64 (digest items)

-- what holds of both sides of `&&`
both_true : (a b : Bool) → a && b ≡ true → (a ≡ true) × (b ≡ true)
both_true true b h = (refl, h)
both_true false b h = cc

same_item : (p q : ℕ × Change) → item_eq p q ≡ true → p ≡ q
same_item p q h =
    let parts = both_true _ _ h in
    let level = eqb-true p.0 q.0 parts.0 in
    let change = same_change p.1 q.1 parts.1 in
    λ i. (level i, change i)

item_eq-same : (p q : ℕ × Change) → p ≡ q → item_eq p q ≡ true
item_eq-same p q e =
    ap (λ (r : ℕ × Change). item_eq p r) (sym e) ∙ (λ i. eq-eqb p.0 p.0 refl i && change_eq-refl p.1 i)

item_Decides : (p q : ℕ × Change) → Decides (item_eq p q) (p ≡ q)
item_Decides p q = (same_item p q, item_eq-same p q)

-- `==` of lists of changes is an equivalence
pub changes_equiv : IsEquivalence (pointwise item_eq)
changes_equiv = lists_equiv (decided item_eq item_Decides)

-- lists of changes that `==` finds equal are one
pub same_changes : (xs ys : List (ℕ × Change)) → pointwise item_eq xs ys ≡ true → xs ≡ ys
same_changes xs ys h = (pointwise_decides item_Decides xs ys).0 h

-- equal lists of changes have one hash
pub same_hash : (xs ys : List (ℕ × Change)) → IsTrue (pointwise item_eq xs ys) → changes_hash xs ≡ changes_hash ys
same_hash xs ys h = ap changes_hash (same_changes xs ys h)
