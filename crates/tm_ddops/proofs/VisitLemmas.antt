-- What walks under changes have found, after one more function.
use Rattle.std.proofs.Common.{◌≡◌, ℕ, Bool, true, false, ◌&&◌, eqb, if◌then◌else◌, Some, refl, sym, ap, subst, ◌∙◌}
use Rattle.std.proofs.lemmas.Bool.{eqb-true, ne_eqb}
use Rattle.std.specs.HashMap.{Updates, IsUnchanged}
use Rattle.std.specs.Map.{lookup}
use Rattle.tm_dd.specs.declared.node.NodeId.{NodeId}
use Rattle.tm_dd.specs.NodeId.{number_of}
use Rattle.tm_dd.proofs.CallerLaws.{same_number}
use Rattle.tm_ddops.specs.declared.rewrite.Visit.{Visit}
use Rattle.tm_ddops.specs.Inner.Visited.{SameElsewhere, Visited, found_under, visit_eq}

both_true : (a b : Bool) → a && b ≡ true → (a ≡ true) × (b ≡ true)
both_true true b h = (refl, h)
both_true false b h = cc

-- the visit of a function under changes of a number
abbrev pub visit_of : ℕ → NodeId → Visit
visit_of n f = record { changes = n; function = f }

same_function : (n : ℕ) (f g : NodeId) → visit_eq (visit_of n f) (visit_of n g) ≡ true → f ≡ g
same_function n f g h = same_number f g (eqb-true _ _ (both_true _ _ h).1)

module _ (P : NodeId → NodeId → Type 0) (n : ℕ) (old new : Visited)
    (were : (g r : NodeId) → found_under old n g ≡ Some r → P g r) where
  pub visit_insert : (f id : NodeId) → Updates visit_eq old new (visit_of n f) (Some id) → P f id → (g r : NodeId) →
      found_under new n g ≡ Some r → P g r
  visit_insert f id updates is g r h = by_test (visit_eq (visit_of n f) (visit_of n g)) refl
    where
      by_test : (b : Bool) → visit_eq (visit_of n f) (visit_of n g) ≡ b → P g r
      by_test true e =
          let there : found_under new n g ≡ Some id =
          updates.0 (visit_of n g) ∙ ap (λ t. if t then Some id else found_under old n g) e in
          let answer : id ≡ r = cc in
          subst (P g) answer (subst (λ x. P x id) (same_function n f g e) is)
      by_test false e =
          were g r (ap (λ t. if t then Some id else found_under old n g) (sym e) ∙ sym (updates.0 (visit_of n g)) ∙ h)

  pub visit_unchanged : IsUnchanged old new → (g r : NodeId) → found_under new n g ≡ Some r → P g r
  visit_unchanged e g r h = were g r (ap (lookup (visit_eq (visit_of n g))) (sym e) ∙ h)

-- ---- under changes of other numbers

pub elsewhere_insert : (n : ℕ) (f id : NodeId) (old new : Visited) → Updates visit_eq old new (visit_of n f) (Some id) →
    SameElsewhere n old new
elsewhere_insert n f id old new updates k g apart =
    updates.2 (visit_of k g)
    (ap (λ t. t && (eqb (number_of f) (number_of g))) (ne_eqb n k (λ e. apart (sym e))))
