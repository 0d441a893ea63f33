-- Sums, and counts put together, along a list.
use Rattle.std.proofs.Common.{◌≡◌, ℕ, ◌+◌, ◌<◌, Bool, true, false, List, [], ◌∷◌, ◌++◌, length, map, take, get_or, refl, sym, ap, ◌∙◌, arith, if◌then◌else◌}
use Rattle.std.specs.Prelude.{sum_by}
use Rattle.std.specs.List.{enumerate_from, filter}
use Rattle.std.proofs.lemmas.List.{take_more, length-map, length-take-le}
use Rattle.std.proofs.lemmas.List.Sums.{sum_by-cons, sum_by_more}
use Rattle.tm_scope.proofs.Entries.{map-push}
use Rattle.tm_limits.specs.declared.totals.Combination.{Combination}
use Rattle.tm_limits.specs.declared.totals.Combination.TheVariants.{Sum}
use Rattle.tm_limits.specs.Amount.{capped}
use Rattle.tm_limits.specs.Totals.{combined, over}
use Rattle.tm_limits.proofs.TotalSteps.{combined-some, over-append}

-- a sum over what a map makes of a list
pub sum_by-mapped : {X Y : Type 0} (f : Y → ℕ) (g : X → Y) (xs : List X) →
    sum_by f (map g xs) ≡ sum_by (λ x. f (g x)) xs
sum_by-mapped f g [] = refl
sum_by-mapped f g (x ∷ xs) =
    sum_by-cons f (g x) (map g xs) ∙ ap (λ n. f (g x) + n) (sum_by-mapped f g xs)
    ∙ sym (sum_by-cons (λ x. f (g x)) x xs)

-- a sum over those that pass a test
pub sum_by-filtered : {X : Type 0} (f : X → ℕ) (test : X → Bool) (xs : List X) →
    sum_by f (filter test xs) ≡ sum_by (λ x. if test x then f x else 0) xs
sum_by-filtered f test [] = refl
sum_by-filtered {X = X} f test (x ∷ xs) =
    by (test x) (sum_by-filtered f test xs) ∙ sym (sum_by-cons (λ x. if test x then f x else 0) x xs)
  where
    by : (b : Bool) → sum_by f (filter test xs) ≡ sum_by (λ x. if test x then f x else 0) xs →
        sum_by f (if b then x ∷ filter test xs else filter test xs)
        ≡ (if b then f x else 0) + sum_by (λ x. if test x then f x else 0) xs
    by true e = sum_by-cons f x (filter test xs) ∙ ap (λ n. f x + n) e
    by false e = e ∙ none (sum_by (λ x. if test x then f x else 0) xs)
      where
        none : (n : ℕ) → n ≡ 0 + n
        none n = omega arith

-- two sums of equal parts
pub sum_by-same : {X : Type 0} (f g : X → ℕ) (xs : List X) → ((x : X) → f x ≡ g x) → sum_by f xs ≡ sum_by g xs
sum_by-same f g [] same = refl
sum_by-same f g (x ∷ xs) same =
    sum_by-cons f x xs ∙ (λ i. same x i + sum_by-same f g xs same i) ∙ sym (sum_by-cons g x xs)

-- the sum of two sums
pub sum_by-both : {X : Type 0} (f g : X → ℕ) (xs : List X) → sum_by f xs + sum_by g xs ≡ sum_by (λ x. f x + g x) xs
sum_by-both f g [] = omega arith
sum_by-both f g (x ∷ xs) =
    let first = sum_by-cons f x xs in
    let second = sum_by-cons g x xs in
    let rest = sum_by-both f g xs in
    let whole = sum_by-cons (λ x. f x + g x) x xs in
    omega (arith, first, second, rest, whole)

-- one more part of a sum
pub sum_more : {X : Type 0} (f : X → ℕ) (xs : List X) (i : ℕ) (x : X) (new : ℕ) → i < length xs →
    x ≡ get_or xs i x → new ≡ capped (sum_by f (take i xs) + f x) → new ≡ capped (sum_by f (take (i + 1) xs))
sum_more f xs i x new within is grown =
    grown ∙ ap capped (ap (λ y. sum_by f (take i xs) + f y) is ∙ sym (sum_by_more f xs i x within))

-- likewise, where the parts are seen through a map
pub mapped_more : {X Y : Type 0} (f : Y → ℕ) (g : X → Y) (xs : List X) (i : ℕ) (x : X) (new : ℕ) → i < length xs →
    x ≡ get_or xs i x → new ≡ capped (sum_by f (map g (take i xs)) + f (g x)) →
    new ≡ capped (sum_by f (map g (take (i + 1) xs)))
mapped_more f g xs i x new within is grown =
    sum_more (λ x. f (g x)) xs i x new within is
    (grown ∙ ap (λ n. capped (n + f (g x))) (sum_by-mapped f g (take i xs)))
    ∙ ap capped (sym (sum_by-mapped f g (take (i + 1) xs)))

-- counts that are added are a sum
pub over-sum : {X : Type 0} (f : X → ℕ) (xs : List X) → sum_by f xs ≡ over Sum (map f xs)
over-sum f [] = refl
over-sum f (x ∷ xs) = sum_by-cons f x xs ∙ ap (λ n. f x + n) (over-sum f xs)

-- ---- numbered elements

pub enumerate_from-push : {X : Type 0} (k : ℕ) (xs : List X) (x : X) →
    enumerate_from k (xs ++ x ∷ []) ≡ enumerate_from k xs ++ (k + length xs, x) ∷ []
enumerate_from-push k [] x = let same : k ≡ k + 0 = omega arith in ap (λ n. (n, x) ∷ []) same
enumerate_from-push k (y ∷ xs) x =
    let same : k + 1 + length xs ≡ k + length (y ∷ xs) = omega arith in
    ap (λ es. (k, y) ∷ es) (enumerate_from-push (k + 1) xs x
    ∙ ap (λ n. enumerate_from (k + 1) xs ++ (n, x) ∷ []) same)

-- one more numbered element
pub over_more : {X Y : Type 0} (c : Combination) (f : ℕ × Y → ℕ) (g : X → Y) (xs : List X) (i : ℕ) (x : X) (new : ℕ) →
    i < length xs → x ≡ get_or xs i x →
    new ≡ capped (combined c (over c (map f (enumerate_from 0 (map g (take i xs))))) (f (i, g x))) →
    new ≡ capped (over c (map f (enumerate_from 0 (map g (take (i + 1) xs)))))
over_more c f g xs i x new within is grown =
    let count : 0 + length (map g (take i xs)) ≡ i =
    let a = length-map (take i xs) g in let b = length-take-le i xs (omega arith) in omega (arith, a, b) in
    grown
    ∙ ap (λ n. capped (combined c (over c (map f (enumerate_from 0 (map g (take i xs))))) n))
    (sym (combined-some c (f (i, g x))))
    ∙ ap capped (sym (over-append c (map f (enumerate_from 0 (map g (take i xs)))) (f (i, g x) ∷ []))
    ∙ ap (over c) (sym (map-push f (enumerate_from 0 (map g (take i xs))) (i, g x))
    ∙ ap (map f) (ap (λ n. enumerate_from 0 (map g (take i xs)) ++ (n, g x) ∷ []) (sym count)
    ∙ sym (enumerate_from-push 0 (map g (take i xs)) (g x))
    ∙ ap (enumerate_from 0) (sym (map-push g (take i xs) x)
    ∙ ap (λ y. map g (take i xs ++ y ∷ [])) is ∙ ap (map g) (sym (take_more xs i x within))))))

-- what is made of the elements so far, seen through a map, and of the next one
pub pushed_more : {X Y Z : Type 0} (f : Y → Z) (g : X → Y) (xs : List X) (i : ℕ) (x : X) (old new : List Z) (z : Z) →
    i < length xs → x ≡ get_or xs i x → new ≡ old ++ z ∷ [] → z ≡ f (g x) → old ≡ map f (map g (take i xs)) →
    new ≡ map f (map g (take (i + 1) xs))
pushed_more f g xs i x old new z within is pushed made before =
    pushed
    ∙ (λ j. before j ++ made j ∷ [])
    ∙ sym (map-push f (map g (take i xs)) (g x))
    ∙ ap (map f) (sym (map-push g (take i xs) x)
    ∙ ap (λ y. map g (take i xs ++ y ∷ [])) is ∙ ap (map g) (sym (take_more xs i x within)))
