-- The greatest sums of choice bits on paths.
use Rattle.std.proofs.Common.{◌≡◌, ℕ, ◌+◌, Option, Some, List, [], ◌∷◌, ◌++◌, map, refl, sym, ap, ◌∙◌, arith}
use Rattle.std.specs.Prelude.{max, unwrap_or}
use Rattle.tm_syntax.specs.Counts.Choices.{choosing, joined}
use Rattle.tm_syntax.specs.Counts.Instances.{greatest}
use Rattle.tm_limits.specs.declared.paths.Paths.{Paths}
use Rattle.tm_limits.specs.Amount.{capped}
use Rattle.tm_limits.specs.Inner.PathSums.{AreBest, best, greater_of, joined_of, nothing_chosen}

pub greatest-append : (xs ys : List ℕ) → greatest (xs ++ ys) ≡ max (greatest xs) (greatest ys)
greatest-append [] ys = omega arith
greatest-append (x ∷ xs) ys = let e = greatest-append xs ys in omega (arith, e)

greatest-added : (m y : ℕ) (ys : List ℕ) → greatest (map (λ n. m + n) (y ∷ ys)) ≡ m + greatest (y ∷ ys)
greatest-added m y [] = omega arith
greatest-added m y (z ∷ ys) = let e = greatest-added m z ys in omega (arith, e)

greatest-joined : (x : ℕ) (xs : List ℕ) (y : ℕ) (ys : List ℕ) →
    greatest (joined (x ∷ xs) (y ∷ ys)) ≡ greatest (x ∷ xs) + greatest (y ∷ ys)
greatest-joined x [] y ys =
    let here = greatest-added x y ys in
    let whole = greatest-append (map (λ n. x + n) (y ∷ ys)) [] in
    omega (arith, here, whole)
greatest-joined x (z ∷ xs) y ys =
    let here = greatest-added x y ys in
    let rest = greatest-joined z xs y ys in
    let whole = greatest-append (map (λ n. x + n) (y ∷ ys)) (joined (z ∷ xs) (y ∷ ys)) in
    omega (arith, here, rest, whole)

append_nothing : (xs : List ℕ) → xs ++ [] ≡ xs
append_nothing [] = refl
append_nothing (x ∷ xs) = ap (λ ys. x ∷ ys) (append_nothing xs)

no_second : (xs : List ℕ) → joined xs [] ≡ []
no_second [] = refl
no_second (x ∷ xs) = no_second xs

-- the greater of the best of two lists is the best of both
pub best_either : (xs ys : List ℕ) → greater_of (best xs) (best ys) ≡ best (xs ++ ys)
best_either [] ys = refl
best_either (x ∷ xs) [] = ap best (sym (append_nothing (x ∷ xs)))
best_either (x ∷ xs) (y ∷ ys) =
    let e = greatest-append (x ∷ xs) (y ∷ ys) in
    let same : max (capped (greatest (x ∷ xs))) (capped (greatest (y ∷ ys))) ≡ capped (greatest (x ∷ xs ++ y ∷ ys)) =
    omega (arith, e) in
    ap Some same

-- the sum of the best of two lists is the best of their sums
pub best_joined : (xs ys : List ℕ) → joined_of (best xs) (best ys) ≡ best (joined xs ys)
best_joined [] ys = refl
best_joined (x ∷ xs) [] = ap best (sym (no_second (x ∷ xs)))
best_joined (x ∷ xs) (y ∷ ys) =
    let e = greatest-joined x xs y ys in
    let same : capped (capped (greatest (x ∷ xs)) + capped (greatest (y ∷ ys)))
    ≡ capped (greatest (joined (x ∷ xs) (y ∷ ys))) =
    omega (arith, e) in
    ap Some same

pub greater_by : (r a b : Option ℕ) (xs ys : List ℕ) → r ≡ greater_of a b → a ≡ best xs → b ≡ best ys →
    r ≡ best (xs ++ ys)
greater_by r a b xs ys e f g = e ∙ (λ i. greater_of (f i) (g i)) ∙ best_either xs ys

pub joined_by : (r a b : Option ℕ) (xs ys : List ℕ) → r ≡ joined_of a b → a ≡ best xs → b ≡ best ys →
    r ≡ best (joined xs ys)
joined_by r a b xs ys e f g = e ∙ (λ i. joined_of (f i) (g i)) ∙ best_joined xs ys

-- a path on which nothing is chosen
pub best_none : Some 0 ≡ best (0 ∷ [])
best_none = let same : 0 ≡ capped (greatest (0 ∷ [])) = omega arith in ap Some same

pub best_or_none : (xs : List ℕ) → unwrap_or (best xs) 0 ≡ capped (greatest xs)
best_or_none [] = omega arith
best_or_none (x ∷ xs) = refl

-- the greatest sum of one path on which nothing is chosen
pub nothing_is : (p : Paths) → AreBest p (choosing 0) → p ≡ nothing_chosen
nothing_is p best = λ j. record {
  across = (best.across ∙ sym best_none) j;
  inward = best.inward j;
  outward = best.outward j;
  between = best.between j;
}
