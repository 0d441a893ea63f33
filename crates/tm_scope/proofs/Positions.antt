-- The first index at which a list passes a test, by recursion and along a list.
use Rattle.std.proofs.Common.{◌≡◌, ℕ, suc, ◌+◌, ◌<◌, Bool, true, false, cond, Option, None, Some, List, [], ◌∷◌, ◌++◌, length, take, get_or, map, not, nat_lt, position, find, slice_get, refl, sym, ap, ◌∙◌, subst, arith}
use Prim.Native.Nat.compare.{suc-suc}
use Rattle.std.proofs.lemmas.List.{take_more, length-take-le}
use Rattle.std.proofs.lemmas.Bool.Decides.{nat_tests}
use Rattle.std.proofs.lemmas.Bool.{ltb-true}
use Rattle.std.specs.Prelude.{IfSome}
use Rattle.std.specs.Option.{option_map, option_or, option_and_then}
use Rattle.std.specs.List.{position_or_len}

-- at the head, or one further on than in the rest
pub position-cons : {X : Type 0} (p : X → Bool) (x : X) (xs : List X) →
    position p (x ∷ xs) ≡ cond (p x) (Some 0) (option_map suc (position p xs))
position-cons p x xs = by (p x)
  where
    below-suc : (a b : ℕ) → nat_lt (suc a) (suc b) ≡ nat_lt a b
    below-suc a b = rw (suc-suc (suc a) b) refl

    none-below : (n : ℕ) → nat_lt 0 (suc n) ≡ true
    none-below n = grind (arith, nat_tests)

    after : (below : Bool) (k : ℕ) → cond below (Some (suc k)) None ≡ option_map suc (cond below (Some k) None)
    after true k = refl
    after false k = refl

    by : (here : Bool) →
        cond (nat_lt (cond (not here) (1 + position_or_len p xs) 0) (suc (length xs)))
        (Some (cond (not here) (1 + position_or_len p xs) 0)) None
        ≡ cond here (Some 0) (option_map suc (position p xs))
    by true = ap (λ b. cond b (Some 0) None) (none-below (length xs))
    by false =
        let one_on : 1 + position_or_len p xs ≡ suc (position_or_len p xs) = omega arith in
        ap (λ k. cond (nat_lt k (suc (length xs))) (Some k) None) one_on
        ∙ ap (λ b. cond b (Some (suc (position_or_len p xs))) None) (below-suc (position_or_len p xs) (length xs))
        ∙ after (nat_lt (position_or_len p xs) (length xs)) (position_or_len p xs)

-- with one more element at the end
pub position-push : {X : Type 0} (p : X → Bool) (xs : List X) (x : X) →
    position p (xs ++ x ∷ []) ≡ option_or (position p xs) (cond (p x) (Some (length xs)) None)
position-push p [] x = by (p x) (position-cons p x [])
  where
    by : (here : Bool) → position p (x ∷ []) ≡ cond here (Some 0) None → position p (x ∷ []) ≡ cond here (Some 0) None
    by here e = e
position-push p (y ∷ ys) x =
    position-cons p y (ys ++ x ∷ [])
    ∙ ap (λ o. cond (p y) (Some 0) (option_map suc o)) (position-push p ys x)
    ∙ by (p y) (position p ys) (p x)
    ∙ ap (λ o. option_or o (cond (p x) (Some (suc (length ys))) None)) (sym (position-cons p y ys))
  where
    by : (here : Bool) (found : Option ℕ) (there : Bool) →
        cond here (Some 0) (option_map suc (option_or found (cond there (Some (length ys)) None)))
        ≡ option_or (cond here (Some 0) (option_map suc found)) (cond there (Some (suc (length ys))) None)
    by true found there = refl
    by false (Some k) there = refl
    by false None true = refl
    by false None false = refl

-- over the first elements, with one more of them
pub position-take_more : {X : Type 0} (p : X → Bool) (xs : List X) (i : ℕ) (d : X) → i < length xs →
    position p (take (i + 1) xs) ≡ option_or (position p (take i xs)) (cond (p (get_or xs i d)) (Some i) None)
position-take_more p xs i d within =
    ap (position p) (take_more xs i d within)
    ∙ position-push p (take i xs) (get_or xs i d)
    ∙ ap (λ n. option_or (position p (take i xs)) (cond (p (get_or xs i d)) (Some n) None))
    (length-take-le i xs (omega arith))

-- the step of a loop that notes one name after the other
pub position-noted : {X : Type 0} (p : X → Bool) (xs : List X) (i : ℕ) (x : X) (old new : Option ℕ) (here : Bool) →
    i < length xs → x ≡ get_or xs i x → here ≡ p x → new ≡ option_or old (cond here (Some i) None) →
    old ≡ position p (take i xs) → new ≡ position p (take (i + 1) xs)
position-noted p xs i x old new here within is tested noted before =
    noted
    ∙ ap (λ o. option_or o (cond here (Some i) None)) before
    ∙ ap (λ b. option_or (position p (take i xs)) (cond b (Some i) None)) (tested ∙ ap p is)
    ∙ sym (position-take_more p xs i x within)

-- over what a map makes of a list
pub position-map : {X Y : Type 0} (p : Y → Bool) (f : X → Y) (xs : List X) →
    position p (map f xs) ≡ position (λ x. p (f x)) xs
position-map p f [] = refl
position-map p f (x ∷ xs) =
    position-cons p (f x) (map f xs)
    ∙ ap (λ o. cond (p (f x)) (Some 0) (option_map suc o)) (position-map p f xs)
    ∙ sym (position-cons (λ x. p (f x)) x xs)

-- the first element that passes stands at the first index that does
pub find-position : {X : Type 0} (p : X → Bool) (xs : List X) →
    find p xs ≡ option_and_then (slice_get xs) (position p xs)
find-position p [] = refl
find-position p (x ∷ xs) =
    ap (cond (p x) (Some x)) (find-position p xs)
    ∙ by (p x) (position p xs)
    ∙ ap (option_and_then (slice_get (x ∷ xs))) (sym (position-cons p x xs))
  where
    by : (here : Bool) (found : Option ℕ) →
        cond here (Some x) (option_and_then (slice_get xs) found)
        ≡ option_and_then (slice_get (x ∷ xs)) (cond here (Some 0) (option_map suc found))
    by true found = refl
    by false None = refl
    by false (Some k) = refl

-- an index that is found is one of the list
pub position-within : {X : Type 0} (p : X → Bool) (xs : List X) → IfSome (position p xs) (λ k. k < length xs)
position-within p xs = by (nat_lt (position_or_len p xs) (length xs)) refl
  where
    by : (b : Bool) → nat_lt (position_or_len p xs) (length xs) ≡ b →
        IfSome (cond b (Some (position_or_len p xs)) None) (λ k. k < length xs)
    by true e = ltb-true (position_or_len p xs) (length xs) e
    by false e = tt

pub position-below : {X : Type 0} (p : X → Bool) (xs : List X) (k : ℕ) → position p xs ≡ Some k → k < length xs
position-below p xs k is = subst (λ o. IfSome o (λ k. k < length xs)) is (position-within p xs)
