-- What a walk has found, after one more id.
use Rattle.std.proofs.Common.{◌≡◌, Bool, true, false, if◌then◌else◌, Some, refl, sym, ap, subst, ◌∙◌}
use Rattle.std.proofs.lemmas.Bool.{eqb-true}
use Rattle.std.specs.HashMap.{Updates, IsUnchanged}
use Rattle.std.specs.Map.{lookup}
use Rattle.tm_dd.specs.declared.node.NodeId.{NodeId}
use Rattle.tm_dd.proofs.CallerLaws.{same_number}
use Rattle.tm_ddops.specs.Inner.Found.{Found, found_at, id_eq}

pub same_id : (f g : NodeId) → id_eq f g ≡ true → f ≡ g
same_id f g h = same_number f g (eqb-true _ _ h)

module _ (P : NodeId → NodeId → Type 0) (m n : Found) (were : (g r : NodeId) → found_at m g ≡ Some r → P g r) where
  pub found_insert : (f id : NodeId) → Updates id_eq m n f (Some id) → P f id → (g r : NodeId) → found_at n g ≡ Some r →
      P g r
  found_insert f id updates new g r h =
      by_test (id_eq f g) refl
    where
      by_test : (b : Bool) → id_eq f g ≡ b → P g r
      by_test true e =
          let there : found_at n g ≡ Some id = updates.0 g ∙ ap (λ t. if t then Some id else found_at m g) e in
          let answer : id ≡ r = cc in
          subst (P g) answer (subst (λ x. P x id) (same_id f g e) new)
      by_test false e = were g r (ap (λ t. if t then Some id else found_at m g) (sym e) ∙ sym (updates.0 g) ∙ h)

  pub found_unchanged : IsUnchanged m n → (g r : NodeId) → found_at n g ≡ Some r → P g r
  found_unchanged e g r h = were g r (ap (lookup (id_eq g)) (sym e) ∙ h)
