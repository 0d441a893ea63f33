-- What a store says of constants, complements and nodes.
use Rattle.std.proofs.Common.{◌≡◌, ◌≢◌, ℕ, zero, suc, ◌<◌, ◌⊎◌, inl, inr, true, false, eqb, min, refl, sym, ap, arith}
use Rattle.std.proofs.lemmas.Bool.{eqb-true, eqb-false}
use Rattle.tm_dd.specs.declared.node.NodeId.{NodeId}
use Rattle.tm_dd.specs.declared.node.TheConstants.{FALSE, TRUE}
use Rattle.tm_dd.specs.NodeId.{number_of, IsConstant, complement}
use Rattle.tm_dd.specs.Reduced.{IsReduced, Extends}
use Rattle.tm_dd.specs.Table.{Table, Knows, level_of}
use Rattle.tm_dd.proofs.CallerLaws.{same_number}
use Rattle.tm_dd.proofs.NodeIdLemmas.{position_of-complement}

-- a constant is `FALSE` or `TRUE`
pub constant_cases : (f : NodeId) → IsConstant f → (f ≡ FALSE) ⊎ (f ≡ TRUE)
constant_cases f h = elim (below_two (number_of f) h)
    [ inl e ↦ inl (same_number f FALSE e) | inr e ↦ inr (same_number f TRUE e) ]
  where
    below_two : (n : ℕ) → n < 2 → (n ≡ 0) ⊎ (n ≡ 1)
    below_two zero h = inl refl
    below_two (suc zero) h = inr refl
    below_two (suc (suc n)) h = absurd (omega arith)

-- an id is a constant or not
pub is_constant_cases : (f : NodeId) → IsConstant f ⊎ (¬ IsConstant f)
is_constant_cases f = small_or_not (number_of f)
  where
    small_or_not : (n : ℕ) → (n < 2) ⊎ (¬ (n < 2))
    small_or_not zero = inl (omega arith)
    small_or_not (suc zero) = inl (omega arith)
    small_or_not (suc (suc n)) = inr (λ h. omega (arith, h))

pub knows-constant : (s : Table) (f : NodeId) → IsConstant f → Knows s f
knows-constant s f h = omega (arith, h)

-- the complement of an inner node is no constant
pub constant_of-complement : (f : NodeId) → IsConstant (complement f) → IsConstant f
constant_of-complement f h = omega (arith, h, position_of-complement f)

-- what `==` says of two ids
pub same_ids : (f g : NodeId) → true ≡ eqb f.0 g.0 → f ≡ g
same_ids f g h = same_number f g (eqb-true _ _ (sym h))

pub ids_apart : (f g : NodeId) → false ≡ eqb f.0 g.0 → f ≢ g
ids_apart f g h e = eqb-false _ _ (sym h) (ap (λ i. i.0) e)

-- a known id that is no constant stands on a level
pub level_of-inner : (s : Table) → IsReduced s → (f : NodeId) → Knows s f → (¬ IsConstant f) → level_of s f < s.levels
level_of-inner s reduced f known inner = let n = reduced.nodes f known inner in omega (arith, n.level, n.below)

-- ---- a store that was extended

pub knows-Extends : (s t : Table) → Extends s t → (f : NodeId) → Knows s f → Knows t f
knows-Extends s t e f known = omega (arith, known, e.rises)

-- a number is below another or not
pub below_or_not : (k n : ℕ) → (k < n) ⊎ (¬ (k < n))
below_or_not k n = elim (eqb (min k n) n) as (λ t. eqb (min k n) n ≡ t → (k < n) ⊎ (¬ (k < n))) [
  | true ↦ λ e. inr (λ h. omega (arith, eqb-true _ _ e, h))
  | false ↦ λ e. inl (omega (arith, eqb-false _ _ e))
] refl
