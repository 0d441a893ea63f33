-- Whether something holds of some element of a list, or of none.
use Rattle.std.proofs.Common.{suc, ◌⊎◌, inl, inr, List, [], ◌∷◌, refl, arith}
use Rattle.std.specs.Prelude.{All, Any}
use Rattle.std.proofs.lemmas.List.Elements.{All-nil, All-cons}

module _ {A : Type 0} (P Q : A → Type 0) (test : (x : A) → P x ⊎ Q x) where
  first_or_rest : (x : A) (xs : List A) → P x ⊎ Q x → Any P xs ⊎ All Q xs → Any P (x ∷ xs) ⊎ All Q (x ∷ xs)
  first_or_rest x xs (inl p) h = inl (0, x, omega arith, refl, p)
  first_or_rest x xs (inr q) (inl a) = inl (suc a.0, a.1, omega (arith, a.2), a.3, a.4)
  first_or_rest x xs (inr q) (inr all) = inr (All-cons Q x xs q all)

  pub any_or_all : (xs : List A) → Any P xs ⊎ All Q xs
  any_or_all [] = inr (All-nil Q)
  any_or_all (x ∷ xs) = first_or_rest x xs (test x) (any_or_all xs)
