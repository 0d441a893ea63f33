-- What stands in a list, and what of it is found, filtered or mapped.
use Rattle.std.proofs.Common.{◌≡◌, ℕ, zero, suc, ◌+◌, ◌<◌, Bool, true, false, Option, None, Some, List, [], ◌∷◌, ◌++◌, ◌⊎◌, inl, inr, refl, sym, ap, ◌∙◌, subst, map, length, cond, ◌||◌, arith}
use Rattle.std.specs.Prelude.{slice_get, unwrap_or, IfSome}
use Rattle.std.specs.Option.{option_to_list}
use Rattle.std.specs.List.{AllByRecursion, filter, find, flat_map, filter_map, cons_option, list_any, enumerate_from}
use Rattle.tm_base.specs.declared.place.Place.{Place}
use Rattle.tm_syntax.specs.Places.{earlier, earliest, is_before}
use Rattle.tm_typing.proofs.Fitting.{both_empty}

-- an item of a list
pub data In {A : Type 0} (x : A) : List A → Type 0 where
  first_of : {xs : List A} → In x (x ∷ xs)
  later_of : {y : A} {xs : List A} → In x xs → In x (y ∷ xs)

-- what is some thing is one thing
pub one_thing : {A : Type 0} {o : Option A} {x y : A} → o ≡ Some x → o ≡ Some y → x ≡ y
one_thing {x = x} a b = ap (λ o. unwrap_or o x) (sym a ∙ b)

-- nothing is no thing
pub no_thing : {A X : Type 0} {x : A} → None ≡ Some x → X
no_thing e = absurd cc

-- an item of a list is its first, or stands behind it
pub is_first_or_later : {A : Type 0} {x y : A} (xs : List A) → In x (y ∷ xs) → (y ≡ x) ⊎ In x xs
is_first_or_later _ (first_of {xs = xs}) = inl refl
is_first_or_later _ (later_of {xs = xs} i) = inr i

pub in_front : {A : Type 0} {x : A} (xs ys : List A) → In x xs → In x (xs ++ ys)
in_front _ ys (first_of {xs = xs}) = first_of
in_front _ ys (later_of {xs = xs} i) = later_of (in_front xs ys i)

pub in_behind : {A : Type 0} {x : A} (xs ys : List A) → In x ys → In x (xs ++ ys)
in_behind [] ys i = i
in_behind (y ∷ xs) ys i = later_of (in_behind xs ys i)

pub in_either : {A : Type 0} {x : A} (xs ys : List A) → In x (xs ++ ys) → In x xs ⊎ In x ys
in_either [] ys i = inr i
in_either (y ∷ xs) ys first_of = inl first_of
in_either (y ∷ xs) ys (later_of i) = by (in_either xs ys i)
  where
    by : {A : Type 0} {x y : A} {xs ys : List A} → In x xs ⊎ In x ys → In x (y ∷ xs) ⊎ In x ys
    by (inl i) = inl (later_of i)
    by (inr i) = inr i

pub in_map : {A B : Type 0} (f : A → B) {x : A} (xs : List A) → In x xs → In (f x) (map f xs)
in_map f _ (first_of {xs = xs}) = first_of
in_map f _ (later_of {xs = xs} i) = later_of (in_map f xs i)

pub of_map : {A B : Type 0} (f : A → B) {y : B} (xs : List A) → In y (map f xs) → (x : A) × In x xs × (f x ≡ y)
of_map f [] i = elim i [ ]
of_map f (x ∷ xs) first_of = (x, first_of, refl)
of_map f (x ∷ xs) (later_of i) = let found = of_map f xs i in (found.0, later_of found.1, found.2)

-- what holds of all items holds of each
pub holds_in : {A : Type 0} (P : A → Type 0) {x : A} (xs : List A) → AllByRecursion P xs → In x xs → P x
holds_in P _ all (first_of {xs = xs}) = all.0
holds_in P _ all (later_of {xs = xs} i) = holds_in P xs all.1 i

-- what each item gives stands in what all give
pub in_flat : {A B : Type 0} (f : A → List B) {x : A} {y : B} (xs : List A) → In x xs → In y (f x) →
    In y (flat_map f xs)
in_flat f {x} _ (first_of {xs = xs}) i = in_front (f x) (flat_map f xs) i
in_flat f {x} _ (later_of {y = z} {xs = xs} at) i = in_behind (f z) (flat_map f xs) (in_flat f xs at i)

pub of_flat : {A B : Type 0} (f : A → List B) {y : B} (xs : List A) → In y (flat_map f xs) →
    (x : A) × In x xs × In y (f x)
of_flat f [] i = elim i [ ]
of_flat {A} f {y} (x ∷ xs) i = by (in_either (f x) (flat_map f xs) i) (of_flat f xs)
  where
    by : In y (f x) ⊎ In y (flat_map f xs) → (In y (flat_map f xs) → (z : A) × In z xs × In y (f z)) →
        (z : A) × In z (x ∷ xs) × In y (f z)
    by (inl i) rest = (x, first_of, i)
    by (inr i) rest = let found = rest i in (found.0, later_of found.1, found.2)

-- where all give nothing, each does
pub none_of : {A B : Type 0} (f : A → List B) {x : A} (xs : List A) → flat_map f xs ≡ [] → In x xs → f x ≡ []
none_of f {x} _ none (first_of {xs = xs}) = (both_empty (f x) (flat_map f xs) none).0
none_of f _ none (later_of {y = y} {xs = xs} i) = none_of f xs (both_empty (f y) (flat_map f xs) none).1 i

-- what is filtered passes
pub of_filter : {A : Type 0} (p : A → Bool) {x : A} (xs : List A) → In x (filter p xs) → In x xs × (p x ≡ true)
of_filter p [] i = elim i [ ]
of_filter p {x} (y ∷ ys) i = by (p y) refl i (of_filter p ys)
  where
    at_front : p y ≡ true → (In x (filter p ys) → In x ys × (p x ≡ true)) → (y ≡ x) ⊎ In x (filter p ys) →
        In x (y ∷ ys) × (p x ≡ true)
    at_front e rest (inl same) =
        (subst (λ z. In z (y ∷ ys)) same first_of, subst (λ z. p z ≡ true) same e)
    at_front e rest (inr i) = let found = rest i in (later_of found.0, found.1)

    by : (b : Bool) → p y ≡ b → In x (cond b (y ∷ filter p ys) (filter p ys)) →
        (In x (filter p ys) → In x ys × (p x ≡ true)) → In x (y ∷ ys) × (p x ≡ true)
    by true e i rest = at_front e rest (is_first_or_later (filter p ys) i)
    by false e i rest = let found = rest i in (later_of found.0, found.1)

-- what passes is filtered
pub in_filter : {A : Type 0} (p : A → Bool) {x : A} (xs : List A) → In x xs → p x ≡ true → In x (filter p xs)
in_filter p {x} _ (first_of {xs = xs}) e =
    subst (λ b. In x (cond b (x ∷ filter p xs) (filter p xs))) (sym e) first_of
in_filter p {x} _ (later_of {y = y} {xs = xs} i) e = by (p y) (in_filter p xs i e)
  where
    by : (b : Bool) → In x (filter p xs) → In x (cond b (y ∷ filter p xs) (filter p xs))
    by true i = later_of i
    by false i = i

-- what is found stands there and passes
pub of_find : {A : Type 0} (p : A → Bool) {x : A} (xs : List A) → find p xs ≡ Some x → In x xs × (p x ≡ true)
of_find p [] e = no_thing e
of_find p {x} (y ∷ ys) e = by (p y) refl e (of_find p ys)
  where
    by : (b : Bool) → p y ≡ b → cond b (Some y) (find p ys) ≡ Some x →
        (find p ys ≡ Some x → In x ys × (p x ≡ true)) → In x (y ∷ ys) × (p x ≡ true)
    by true e is rest =
        let same : y ≡ x = one_thing refl is in
        (subst (λ z. In z (y ∷ ys)) same first_of, subst (λ z. p z ≡ true) same e)
    by false e is rest = let found = rest is in (later_of found.0, found.1)

-- where something passes, something is found
pub found_in : {A : Type 0} (p : A → Bool) {x : A} (xs : List A) → In x xs → p x ≡ true →
    (y : A) × (find p xs ≡ Some y)
found_in p {x} _ (first_of {xs = xs}) e = (x, ap (λ b. cond b (Some x) (find p xs)) e)
found_in {A} p _ (later_of {y = y} {xs = xs} i) e = by (p y) (found_in p xs i e)
  where
    by : (b : Bool) → ((z : A) × (find p xs ≡ Some z)) → (z : A) × (cond b (Some y) (find p xs) ≡ Some z)
    by true rest = (y, refl)
    by false rest = rest

-- what stands at an index stands there
pub in_get : {A : Type 0} {x : A} (xs : List A) (k : ℕ) → slice_get xs k ≡ Some x → In x xs
in_get [] k e = no_thing e
in_get {x} (y ∷ ys) zero e =
    let same : y ≡ x = one_thing refl e in subst (λ z. In z (y ∷ ys)) same first_of
in_get (y ∷ ys) (suc k) e = later_of (in_get ys k e)

pub in_option : {A : Type 0} {x : A} (o : Option A) → In x (option_to_list o) → o ≡ Some x
in_option None i = elim i [ ]
in_option (Some y) first_of = refl
in_option (Some y) (later_of i) = elim i [ ]

-- the first of what items give is given by one of them
pub of_filter_map : {A B : Type 0} (h : A → Option B) {y : B} (xs : List A) → In y (filter_map h xs) →
    (x : A) × In x xs × (h x ≡ Some y)
of_filter_map h [] i = elim i [ ]
of_filter_map {A} {B} h {y} (x ∷ xs) i = by (h x) refl i (of_filter_map h xs)
  where
    by : (o : Option B) → h x ≡ o → In y (cons_option o (filter_map h xs)) →
        (In y (filter_map h xs) → (z : A) × In z xs × (h z ≡ Some y)) → (z : A) × In z (x ∷ xs) × (h z ≡ Some y)
    by None e i rest = let found = rest i in (found.0, later_of found.1, found.2)
    by (Some _) e first_of rest = (x, first_of, e)
    by (Some _) e (later_of i) rest = let found = rest i in (found.0, later_of found.1, found.2)

pub in_filter_map : {A B : Type 0} (h : A → Option B) {x : A} {y : B} (xs : List A) → In x xs → h x ≡ Some y →
    In y (filter_map h xs)
in_filter_map h {x} {y} _ (first_of {xs = xs}) e =
    subst (λ o. In y (cons_option o (filter_map h xs))) (sym e) first_of
in_filter_map {B} h {y} _ (later_of {y = z} {xs = xs} i) e = by (h z) (in_filter_map h xs i e)
  where
    by : (o : Option B) → In y (filter_map h xs) → In y (cons_option o (filter_map h xs))
    by None i = i
    by (Some _) i = later_of i

-- where something stands in a list, it has a first item
pub has_first : {A : Type 0} {x : A} (xs : List A) → In x xs → (y : A) × (slice_get xs 0 ≡ Some y)
has_first [] i = elim i [ ]
has_first (y ∷ ys) i = (y, refl)

-- the earliest of some is one of them
pub in_earliest : {A : Type 0} (place : A → Place) {x : A} (xs : List A) → earliest place xs ≡ Some x → In x xs
in_earliest place [] e = no_thing e
in_earliest {A} place {x} (y ∷ ys) e = by (earliest place ys) refl e (λ z. in_earliest place {x = z} ys)
  where
    either : (z : A) (b : Bool) → In z ys → In (cond b z y) (y ∷ ys)
    either z true i = later_of i
    either z false i = first_of

    by : (o : Option A) → earliest place ys ≡ o → Some (earlier place y o) ≡ Some x →
        ((z : A) → earliest place ys ≡ Some z → In z ys) → In x (y ∷ ys)
    by None is e rest = let same : y ≡ x = one_thing refl e in subst (λ a. In a (y ∷ ys)) same first_of
    by (Some z) is e rest =
        let same : cond (is_before (place z) (place y)) z y ≡ x = one_thing refl e in
        subst (λ a. In a (y ∷ ys)) same (either z (is_before (place z) (place y)) (rest z is))

-- where something stands in a list, there is an earliest
pub has_earliest : {A : Type 0} (place : A → Place) {x : A} (xs : List A) → In x xs →
    (y : A) × (earliest place xs ≡ Some y)
has_earliest place [] i = elim i [ ]
has_earliest place (y ∷ ys) i = (earlier place y (earliest place ys), refl)

or_true : (a b : Bool) → b ≡ true → a || b ≡ true
or_true true b e = refl
or_true false b e = e

-- where an item passes, some do
pub some_pass : {A : Type 0} (p : A → Bool) {x : A} (xs : List A) → In x xs → p x ≡ true → list_any p xs ≡ true
some_pass p _ (first_of {xs = xs}) e = ap (λ b. b || list_any p xs) e
some_pass p _ (later_of {y = y} {xs = xs} i) e = or_true (p y) (list_any p xs) (some_pass p xs i e)

-- what holds of each item holds of all
pub all_hold : {A : Type 0} (P : A → Type 0) (xs : List A) → ((x : A) → In x xs → P x) → AllByRecursion P xs
all_hold P [] each = tt
all_hold P (x ∷ xs) each = (each x first_of, all_hold P xs (λ y i. each y (later_of i)))

-- what holds of all of two lists holds of all of both in a row
pub all_join : {A : Type 0} (P : A → Type 0) (xs ys : List A) → AllByRecursion P xs → AllByRecursion P ys →
    AllByRecursion P (xs ++ ys)
all_join P [] ys all more = more
all_join P (x ∷ xs) ys all more = (all.0, all_join P xs ys all.1 more)

-- what holds of all that each item gives holds of all that they give
pub map_holds : {A B : Type 0} (P : B → Type 0) (f : A → B) (xs : List A) → ((x : A) → In x xs → P (f x)) →
    AllByRecursion P (map f xs)
map_holds P f [] each = tt
map_holds P f (x ∷ xs) each = (each x first_of, map_holds P f xs (λ y i. each y (later_of i)))

pub flat_holds : {A B : Type 0} (P : B → Type 0) (f : A → List B) (xs : List A) →
    ((x : A) → In x xs → AllByRecursion P (f x)) → AllByRecursion P (flat_map f xs)
flat_holds P f [] each = tt
flat_holds P f (x ∷ xs) each =
    all_join P (f x) (flat_map f xs) (each x first_of) (flat_holds P f xs (λ y i. each y (later_of i)))

pub filter_map_holds : {A B : Type 0} (P : B → Type 0) (h : A → Option B) (xs : List A) →
    ((x : A) → In x xs → IfSome (h x) P) → AllByRecursion P (filter_map h xs)
filter_map_holds P h [] each = tt
filter_map_holds {A} {B} P h (x ∷ xs) each =
    by (h x) (each x first_of) (filter_map_holds P h xs (λ y i. each y (later_of i)))
  where
    by : (o : Option B) → IfSome o P → AllByRecursion P (filter_map h xs) →
        AllByRecursion P (cons_option o (filter_map h xs))
    by None one rest = rest
    by (Some y) one rest = (one, rest)

-- what holds of what stands at each index holds of all
pub each_get : {A : Type 0} (P : A → Type 0) (xs : List A) →
    ((k : ℕ) (x : A) → k < length xs → slice_get xs k ≡ Some x → P x) → AllByRecursion P xs
each_get P [] each = tt
each_get P (x ∷ xs) each =
    (each 0 x (omega arith) refl, each_get P xs (λ k y below is. each (suc k) y (omega arith) is))

-- what is numbered stands in the list
pub in_numbered : {A : Type 0} (n : ℕ) (xs : List A) (p : ℕ × A) → In p (enumerate_from n xs) → In p.1 xs
in_numbered n [] p i = elim i [ ]
in_numbered {A} n (x ∷ xs) p i = by (is_first_or_later (enumerate_from (n + 1) xs) i) (in_numbered (n + 1) xs p)
  where
    by : ((n, x) ≡ p) ⊎ In p (enumerate_from (n + 1) xs) → (In p (enumerate_from (n + 1) xs) → In p.1 xs) →
        In p.1 (x ∷ xs)
    by (inl same) deeper = subst (λ (q : ℕ × A). In q.1 (x ∷ xs)) same first_of
    by (inr j) deeper = later_of (deeper j)
