-- Lists that are made of others, item by item.
use Rattle.std.proofs.Common.{◌≡◌, ◌⊎◌, inl, inr, ℕ, zero, suc, ◌+◌, List, [], ◌∷◌, ◌++◌, length, map, slice_get, Some, refl, sym, ap, ◌∙◌, subst, arith}
use Rattle.std.specs.Prelude.{All}
use Rattle.std.proofs.lemmas.List.{length_push}
use Rattle.std.proofs.lemmas.Option.{get_or_from_slice_get, none-some, same_Some}
use Rattle.tm_numbering.specs.Parts.{ArePairs}
use Rattle.tm_numbering.proofs.Items.{at_index, get_more, get_some}

-- nothing is made yet
pub pairs_none : {A B : Type 0} (P : A → B → Type 0) (olds : List A) (news : List B) → news ≡ [] →
    ArePairs P olds news 0
pairs_none {A} {B} P olds news none = record {
  count = ap length none;
  each = λ k x y here there. absurd (none-some y (ap (λ (ys : List B). slice_get ys k) (sym none) ∙ there));
}

-- one more is made
pub pairs_more : {A B : Type 0} (P : A → B → Type 0) (olds : List A) (news later : List B) (done : ℕ) (x : A) (y : B) →
    later ≡ news ++ y ∷ [] → slice_get olds done ≡ Some x → P x y → ArePairs P olds news done →
    ArePairs P olds later (done + 1)
pairs_more {A} {B} P olds news later done x y items here pair are =
    subst (λ (ys : List B). ArePairs P olds ys (done + 1)) (sym items) (record {
      count = omega (arith, length_push news y, are.count);
      each = λ k a b there is. each k a b there (get_more news y k b is);
    })
  where
    each : (k : ℕ) (a : A) (b : B) → slice_get olds k ≡ Some a →
        (slice_get news k ≡ Some b) ⊎ ((k ≡ length news) × (y ≡ b)) → P a b
    each k a b there (inl p) = are.each k a b there p
    each k a b there (inr p) =
        let same : done ≡ k = omega (arith, are.count, p.0) in
        let first : x ≡ a = same_Some x a (sym here ∙ ap (λ (n : ℕ). slice_get olds n) same ∙ there) in
        subst (λ (z : A). P z b) first (subst (λ (z : B). P x z) p.1 pair)

-- pairs of one relation are pairs of a weaker one
pub pairs_weaker : {A B : Type 0} (P Q : A → B → Type 0) (olds : List A) (news : List B) (done : ℕ) →
    ((x : A) (y : B) → P x y → Q x y) → ArePairs P olds news done → ArePairs Q olds news done
pairs_weaker P Q olds news done weaker are = record {
  count = are.count;
  each = λ k x y there is. weaker x y (are.each k x y there is);
}

-- what each new item tells is what its old one tells
pub maps_same : {A B C : Type 0} (f : A → C) (g : B → C) (P : A → B → Type 0) (olds : List A) (news : List B) →
    ((x : A) (y : B) → P x y → g y ≡ f x) → ArePairs P olds news (length olds) → map g news ≡ map f olds
maps_same f g P [] [] same are = refl
maps_same f g P [] (y ∷ ys) same are = absurd (omega (arith, are.count))
maps_same f g P (x ∷ xs) [] same are = absurd (omega (arith, are.count))
maps_same f g P (x ∷ xs) (y ∷ ys) same are =
    let rest = maps_same f g P xs ys same
    (record { count = omega (arith, are.count); each = λ k a b there is. are.each (suc k) a b there is }) in
    λ i. same x y (are.each 0 x y refl refl) i ∷ rest i

-- what holds of all old items goes over to the new ones
pub all_from : {A B : Type 0} (P : A → B → Type 0) (Q : A → Type 0) (R : B → Type 0) (olds : List A) (news : List B) →
    ((x : A) (y : B) → P x y → Q x → R y) → All Q olds → ArePairs P olds news (length olds) → All R news
all_from P Q R olds news step all are k d below =
    let y = get_some news k below in
    let x = get_some olds k (omega (arith, below, are.count)) in
    subst R (sym (get_or_from_slice_get news k y.0 d y.1))
    (step x.0 y.0 (are.each k x.0 y.0 x.1 y.1) (at_index Q olds k x.0 all x.1))
