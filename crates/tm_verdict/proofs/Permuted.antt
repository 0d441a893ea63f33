-- So many different numbers below their count are all of them.
use Rattle.std.proofs.Common.{◌≡◌, ◌≢◌, ℕ, zero, suc, ◌+◌, ◌<◌, Bool, true, false, eqb, List, [], ◌∷◌, ◌++◌, length, take, get_or, ◌||◌, refl, sym, ap, ◌∙◌, subst, arith, true≢false}
use Rattle.std.specs.Prelude.{Contains, remove}
use Rattle.std.specs.List.{IsDistinct, AllByRecursion, list_any, range_with_len}
use Rattle.std.specs.List.Sorted.{IsPermutation}
use Rattle.std.proofs.lemmas.Bool.{eqb-true, eq-eqb}
use Rattle.std.proofs.lemmas.List.{get_or-take, get_or_default, length-take-le}
use Rattle.std.proofs.lemmas.List.Edits.{length-remove}
use Rattle.std.proofs.lemmas.List.Sorted.{IsPermutation-refl, IsPermutation-remove, IsPermutation-sym, IsPermutation-push_more, list_any-IsPermutation}
use Rattle.std.proofs.lemmas.Map.Keys.{IsDistinct-head, IsDistinct-tail, IsDistinct-IsPermutation, IsDistinct-from_apart}
use Rattle.std.proofs.lemmas.Map.Steps.{length-le_from_distinct_below}
use Rattle.std.proofs.lemmas.Map.Views.{Contains-from_any}

one_more : (a n : ℕ) → range_with_len a (suc n) ≡ range_with_len a n ++ (a + n) ∷ []
one_more a zero = ap (λ x. x ∷ []) (omega arith)
one_more a (suc n) = ap (λ xs. a ∷ xs) (one_more (a + 1) n ∙ ap (λ x. range_with_len (a + 1) n ++ x ∷ []) (omega arith))

flips : (x y : ℕ) → eqb x y ≡ eqb y x
flips x y = grind (arith, eqb-true, eq-eqb)

-- a number that stands among others, of which none is the first, is not the first
is_other : (first : ℕ) (others : List ℕ) (q : ℕ) → AllByRecursion (λ y. eqb first y ≡ false) others →
    list_any (eqb q) others ≡ true → q ≢ first
is_other first [] q all there same = true≢false (sym there)
is_other first (y ∷ ys) q all there same = by (is_other first ys q all.1) (eqb q y) refl
  where
    by : (list_any (eqb q) ys ≡ true → q ≢ first) → (b : Bool) → eqb q y ≡ b → ⊥
    by others true is = true≢false (sym is ∙ ap (λ x. eqb x y) same ∙ all.0)
    by others false is = others (sym (ap (λ b. b || list_any (eqb q) ys) is) ∙ there) same

pub all_numbers : (n : ℕ) (xs : List ℕ) → length xs ≡ n → ((q : ℕ) → list_any (eqb q) xs ≡ true → q < n) →
    IsDistinct eqb xs → IsPermutation (range_with_len 0 n) xs
all_numbers zero [] long below apart = IsPermutation-refl []
all_numbers zero (x ∷ xs) long below apart = absurd (omega arith)
all_numbers (suc m) xs long below apart =
    by (λ rest fewer less distinct. all_numbers m rest fewer less distinct) (list_any (eqb m) xs) refl
  where
    by : ((rest : List ℕ) → length rest ≡ m → ((q : ℕ) → list_any (eqb q) rest ≡ true → q < m) →
        IsDistinct eqb rest → IsPermutation (range_with_len 0 m) rest) →
        (b : Bool) → list_any (eqb m) xs ≡ b → IsPermutation (range_with_len 0 (suc m)) xs
    by fewer true is =
        let at = Contains-from_any eqb-true m xs is in
        let rest = remove xs at.0 in
        let parted = IsPermutation-remove xs at.0 m at.1 (sym at.2) in
        let others = IsDistinct-IsPermutation eqb flips xs (m ∷ rest) parted apart in
        let less : (q : ℕ) → list_any (eqb q) rest ≡ true → q < m =
        λ q there.
        let other = is_other m rest q (IsDistinct-head eqb m rest others) there in
        let low = below q
        (list_any-IsPermutation (eqb q) xs (m ∷ rest) parted ∙ among (eqb q m) (list_any (eqb q) rest) there) in
        grind arith in
        subst (λ (ys : List ℕ). IsPermutation ys xs)
        (sym (one_more 0 m ∙ ap (λ x. range_with_len 0 m ++ x ∷ []) (omega arith)))
        (IsPermutation-push_more (range_with_len 0 m) rest xs m
        (fewer rest (omega (arith, length-remove xs at.0 at.1)) less (IsDistinct-tail eqb m rest others))
        (IsPermutation-sym xs (m ∷ rest) parted))
      where
        among : (a b : Bool) → b ≡ true → (a || b) ≡ true
        among true b is = refl
        among false b is = is
    by fewer false is =
        let few = length-le_from_distinct_below xs m apart
        (λ q there.
        let low = below q there in
        let other : q ≢ m = λ same. true≢false (sym there ∙ ap (λ x. list_any (eqb x) xs) same ∙ is) in
        grind arith) in
        absurd (omega (arith, few))

-- a list in which no element stands among those before it has no element twice
pub never_twice : (xs : List ℕ) → ((k d : ℕ) → k < length xs → ¬ Contains (take k xs) (get_or xs k d)) →
    IsDistinct eqb xs
never_twice xs new =
    IsDistinct-from_apart eqb xs
    (λ i j d below within. by i j d below within (eqb (get_or xs i d) (get_or xs j d)) refl)
  where
    by : (i j d : ℕ) → i < j → j < length xs → (b : Bool) → eqb (get_or xs i d) (get_or xs j d) ≡ b →
        eqb (get_or xs i d) (get_or xs j d) ≡ false
    by i j d below within false is = is
    by i j d below within true is =
        let long = length-take-le j xs (omega arith) in
        let same = eqb-true (get_or xs i d) (get_or xs j d) is in
        let elsewhere = get_or-take j xs i (get_or xs j d) below in
        absurd (new j d within (
          i,
          omega (arith, long),
          elsewhere ∙ get_or_default xs i (get_or xs j d) d (omega arith) ∙ same,
        ))
