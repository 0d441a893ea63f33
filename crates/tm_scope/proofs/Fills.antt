-- The steps of loops that fill a list or a directory.
use Rattle.std.proofs.Common.{◌≡◌, ⊎_elim, ℕ, ◌+◌, ◌<◌, Bool, true, false, cond, Option, None, Some, List, [], ◌∷◌, ◌++◌, length, length-append, slice_get, take, get_or, map, refl, sym, ap, ◌∙◌, subst, arith}
use Rattle.std.specs.Prelude.{◌||◌}
use Rattle.std.proofs.lemmas.List.{take_more}
use Rattle.std.proofs.lemmas.List.Folds.{list_any_more}
use Rattle.std.specs.List.{list_any}
use Rattle.std.specs.Option.{option_or}
use Rattle.tm_scope.proofs.Entries.{at-end, at-left, below_or_not}

pub map-push : {X Y : Type 0} (f : X → Y) (xs : List X) (x : X) → map f (xs ++ x ∷ []) ≡ map f xs ++ f x ∷ []
map-push f [] x = refl
map-push f (y ∷ ys) x = ap (λ zs. f y ∷ zs) (map-push f ys x)

-- a list that holds what a function makes of the elements so far
pub filled_more : {X Y : Type 0} (f : X → Y) (xs : List X) (i : ℕ) (x : X) (old new : List Y) (y : Y) →
    i < length xs → x ≡ get_or xs i x → y ≡ f x → new ≡ old ++ y ∷ [] → old ≡ map f (take i xs) →
    new ≡ map f (take (i + 1) xs)
filled_more f xs i x old new y within is made pushed before =
    pushed
    ∙ ap (λ zs. zs ++ y ∷ []) before
    ∙ ap (λ z. map f (take i xs) ++ z ∷ []) (made ∙ ap f is)
    ∙ sym (map-push f (take i xs) (get_or xs i x))
    ∙ ap (map f) (sym (take_more xs i x within))

-- a list that holds the numbers so far
pub counted_more : (n : ℕ) (old new : List ℕ) → new ≡ old ++ n ∷ [] →
    (length old ≡ n) × ((k : ℕ) → k < n → slice_get old k ≡ Some k) →
    (length new ≡ n + 1) × ((k : ℕ) → k < n + 1 → slice_get new k ≡ Some k)
counted_more n old new pushed so = (
  ap length pushed ∙ length-append old (n ∷ []) ∙ ap (λ m. m + 1) so.0,
  λ k below. ap (λ ns. slice_get ns k) pushed
      ∙ ⊎_elim (λ before. at-left old (n ∷ []) k k (so.1 k before))
      (λ beyond.
      let here : n ≡ k = omega (arith, below, beyond) in
      subst (λ m. slice_get (old ++ n ∷ []) m ≡ Some m) here
      (subst (λ m. slice_get (old ++ n ∷ []) m ≡ Some n) so.0 (at-end old n)))
      (below_or_not k n),
)

-- a list that holds the elements so far
pub gathered_more : {X : Type 0} (xs : List X) (i : ℕ) (x : X) (old new : List X) (y : X) →
    i < length xs → x ≡ get_or xs i x → y ≡ x → new ≡ old ++ y ∷ [] → old ≡ take i xs → new ≡ take (i + 1) xs
gathered_more xs i x old new y within is made pushed before =
    pushed
    ∙ ap (λ zs. zs ++ y ∷ []) before
    ∙ ap (λ z. take i xs ++ z ∷ []) (made ∙ is)
    ∙ sym (take_more xs i x within)

pub option_or-None : {X : Type 0} (a : Option X) → a ≡ option_or a None
option_or-None None = refl
option_or-None (Some x) = refl

noted_twice : (a : Option ℕ) (b c : Bool) (index : ℕ) →
    option_or (option_or a (cond b (Some index) None)) (cond c (Some index) None)
    ≡ option_or a (cond (b || c) (Some index) None)
noted_twice (Some x) b c index = refl
noted_twice None true c index = refl
noted_twice None false c index = refl

-- a directory in which all names so far are noted at one index
pub noted_more : {X : Type 0} (p : X → Bool) (xs : List X) (i : ℕ) (x : X) (index : ℕ) (first old new : Option ℕ)
    (here : Bool) → i < length xs → x ≡ get_or xs i x → here ≡ p x →
    new ≡ option_or old (cond here (Some index) None) →
    old ≡ option_or first (cond (list_any p (take i xs)) (Some index) None) →
    new ≡ option_or first (cond (list_any p (take (i + 1) xs)) (Some index) None)
noted_more p xs i x index first old new here within is tested noted before =
    noted
    ∙ ap (λ o. option_or o (cond here (Some index) None)) before
    ∙ noted_twice first (list_any p (take i xs)) here index
    ∙ ap (λ b. option_or first (cond b (Some index) None))
    (ap (λ b. list_any p (take i xs) || b) (tested ∙ ap p is) ∙ sym (list_any_more p xs i x within))
