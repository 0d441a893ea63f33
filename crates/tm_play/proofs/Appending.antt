-- Lists, one behind another.
pub use Rattle.std.proofs.Common.{append_assoc}
use Rattle.std.proofs.Common.{◌≡◌, ℕ, ◌⊎◌, List, [], ◌∷◌, ◌++◌, refl, sym, ap, ◌∙◌, inl, inr}
use Rattle.std.proofs.lemmas.List.{append-nil}
use Rattle.std.specs.List.{flat_map, zip}

zip_empty : {A B : Type 0} (f : A × B → List ℕ) (xs : List A) (ys : List B) → (xs ≡ []) ⊎ (ys ≡ []) →
    flat_map f (zip xs ys) ≡ []
zip_empty f xs ys (inl e) = ap (λ zs. flat_map f (zip zs ys)) e
zip_empty f [] ys (inr e) = refl
zip_empty f (x ∷ xs) ys (inr e) = ap (λ zs. flat_map f (zip (x ∷ xs) zs)) e

-- where one of two lists ended, nothing of their pairs is left to put
pub zip_ended : {A B : Type 0} (f : A × B → List ℕ) (xs : List A) (ys : List B) (line all : List ℕ) →
    (xs ≡ []) ⊎ (ys ≡ []) → line ++ flat_map f (zip xs ys) ≡ all → line ≡ all
zip_ended f xs ys line all ended is = sym (append-nil line) ∙ ap (λ zs. line ++ zs) (sym (zip_empty f xs ys ended)) ∙ is
