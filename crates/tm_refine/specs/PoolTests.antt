-- The predicates of a pool as tests: they tell the cells of their predicates, and stay as a game grows.
use Rattle.std.proofs.Common.{◌≡◌, ℕ, zero, suc, ◌+◌, ◌-◌, ◌++◌, ◌<◌, ◌==◌, not, get_or, take, Bool, true, false, List, [], ◌∷◌, map, length, slice_get, Option, Some, None, refl, sym, ap, ◌∙◌, subst, arith}
use Rattle.std.specs.List.{AllZip, filter}
use Rattle.std.specs.Option.{option_map_or}
use Rattle.std.specs.Prelude.{All, cond, nat_lt, replicate, slice_index}
use Rattle.std.proofs.lemmas.Bool.{ltb-false, ltb-true}
use Rattle.std.proofs.lemmas.Option.{slice_get_past}
use Rattle.std.proofs.lemmas.List.Elements.{All-nil, All-cons, All-head, All-tail, filter_more}
use Rattle.std.proofs.lemmas.List.{take_all}
use Rattle.tm_base.specs.Arithmetic.{bit}
use Rattle.tm_flat.specs.Flat.{FlatTerms}
use Rattle.tm_flat.specs.Inputs.{AreBits, input_values, room}
use Rattle.tm_flat_pool.specs.Cells.{SameCell}
use Rattle.tm_flat_pool.specs.PoolTerms.{IsPredicateTerm}
use Rattle.tm_flat_pool.specs.Predicates.{Predicate, pool, predicate_holds}
use Rattle.tm_game.specs.Game.{GameData, Grows}
use Rattle.tm_game_pool.specs.Pooled.{HasPool}
use Rattle.tm_game_pool.specs.Separating.{predicates_at}
use Rattle.tm_refine.specs.Parts.{TellCells, agree, alike}
use Rattle.tm_refine.specs.PartLaws.{agree_is, is_agree}
use Rattle.tm_refine.specs.Pooled.{no_bits, term_test, tests_of}
use Rattle.tm_sem.specs.State.{StateData}
use Rattle.tm_sem.specs.Step.{IsState}
use Rattle.tm_solve.proofs.Items.{some_same}
use Rattle.tm_solve.proofs.Joins.{and_left, and_right, and_both}
use Rattle.tm_syntax.specs.Design.{DesignTree}
use Rattle.tm_term.specs.declared.term.TermId.{TermId}

-- ---- lists side by side
module _ {A B : Type 0} (R : A → B → Type 0) where
  abbrev Both : Option A → Option B → Type 0
  Both None None = Unit {0}
  Both (Some x) (Some y) = R x y
  Both None (Some y) = ⊥
  Both (Some x) None = ⊥

  pub zip_get : (xs : List A) (ys : List B) (k : ℕ) → AllZip R xs ys → Both (slice_get xs k) (slice_get ys k)
  zip_get [] [] k all = tt
  zip_get [] (y ∷ ys) k all = absurd all
  zip_get (x ∷ xs) [] k all = absurd all
  zip_get (x ∷ xs) (y ∷ ys) zero all = all.0
  zip_get (x ∷ xs) (y ∷ ys) (suc k) all = zip_get xs ys k all.1

  -- what stands beside an item
  pub right_of : (o : Option A) (q : Option B) (x : A) → Both o q → o ≡ Some x → (y : B) × (q ≡ Some y) × R x y
  right_of None q x both e = absurd (cc)
  right_of (Some w) None x both e = absurd both
  right_of (Some w) (Some y) x both e = (y, refl, subst (λ (v : A). R v y) (some_same e) both)

  pub left_of : (o : Option A) (q : Option B) (y : B) → Both o q → q ≡ Some y → (x : A) × (o ≡ Some x) × R x y
  left_of o None y both e = absurd (cc)
  left_of None (Some w) y both e = absurd both
  left_of (Some x) (Some w) y both e = (x, refl, subst (λ (v : B). R x v) (some_same e) both)

  zip_more : (o : Option A) (q : Option B) (xs : List A) (ys : List B) → Both o q → AllZip R xs ys →
      AllZip R (option_map_or (λ x. x ∷ xs) o xs)
      (option_map_or (λ y. y ∷ ys) q ys)
  zip_more None None xs ys both all = all
  zip_more (Some x) (Some y) xs ys both all = (both, all)
  zip_more None (Some y) xs ys both all = absurd both
  zip_more (Some x) None xs ys both all = absurd both

  -- those of the same numbers are side by side
  pub zip_numbers : (xs : List A) (ys : List B) (ks : List ℕ) → AllZip R xs ys →
      AllZip R (predicates_at xs ks) (predicates_at ys ks)
  zip_numbers xs ys [] all = tt
  zip_numbers xs ys (k ∷ ks) all =
      zip_more (slice_get xs k) (slice_get ys k) (predicates_at xs ks) (predicates_at ys ks) (zip_get xs ys k all)
      (zip_numbers xs ys ks all)

  pub zip_long : (xs : List A) (ys : List B) → AllZip R xs ys → length xs ≡ length ys
  zip_long [] [] all = refl
  zip_long [] (y ∷ ys) all = absurd all
  zip_long (x ∷ xs) [] all = absurd all
  zip_long (x ∷ xs) (y ∷ ys) all = ap (λ n. suc n) (zip_long xs ys all.1)

-- ---- numbers that a list does not have name nothing
past : {X : Type 0} (xs : List X) (k : ℕ) → nat_lt k (length xs) ≡ false → slice_get xs k ≡ None
past xs k behind = slice_get_past xs k (ltb-false k (length xs) behind)

pub numbers_within : {X : Type 0} (xs : List X) (ks : List ℕ) →
    predicates_at xs (filter (λ k. nat_lt k (length xs)) ks) ≡ predicates_at xs ks
numbers_within xs [] = refl
numbers_within xs (k ∷ ks) = by (nat_lt k (length xs)) (past xs k) (numbers_within xs ks)
  where
    rest : List ℕ
    rest = filter (λ j. nat_lt j (length xs)) ks

    by : (b : Bool) → (b ≡ false → slice_get xs k ≡ None) → predicates_at xs rest ≡ predicates_at xs ks →
        predicates_at xs (cond b (k ∷ rest) rest) ≡ predicates_at xs (k ∷ ks)
    by true none others = ap (λ l. option_map_or (λ p. p ∷ l) (slice_get xs k) l) others
    by false none others =
        others
        ∙ sym (ap (λ o. option_map_or (λ p. p ∷ predicates_at xs ks) o (predicates_at xs ks)) (none refl))

all_below : (n : ℕ) (ks : List ℕ) → All (λ k. k < n) (filter (λ k. nat_lt k n) ks)
all_below n [] = All-nil (λ k. k < n)
all_below n (k ∷ ks) = by (nat_lt k n) refl (all_below n ks)
  where
    by : (b : Bool) → nat_lt k n ≡ b → All (λ j. j < n) (filter (λ j. nat_lt j n) ks) →
        All (λ j. j < n) (cond b (k ∷ filter (λ j. nat_lt j n) ks) (filter (λ j. nat_lt j n) ks))
    by true e others = All-cons (λ j. j < n) k (filter (λ j. nat_lt j n) ks) (ltb-true k n e) others
    by false e others = others

-- those that a list has are within its length
pub within_below : (n : ℕ) (ks js : List ℕ) → ks ≡ filter (λ k. nat_lt k n) js → All (λ k. k < n) ks
within_below n ks js is = subst (λ (l : List ℕ). All (λ k. k < n) l) (sym is) (all_below n js)

pub within_same : {X : Type 0} (xs : List X) (n : ℕ) (ks js : List ℕ) → n ≡ length xs →
    ks ≡ filter (λ k. nat_lt k n) js → predicates_at xs ks ≡ predicates_at xs js
within_same xs n ks js long is =
    ap (λ (l : List ℕ). predicates_at xs l) (is ∙ ap (λ (m : ℕ). filter (λ k. nat_lt k m) js) long)
    ∙ numbers_within xs js

-- one number more
pub within_more : (n : ℕ) (xs : List ℕ) (i x : ℕ) (old new : List ℕ) → i < length xs → x ≡ get_or xs i x →
    new ≡ old ++ filter (λ k. nat_lt k n) (x ∷ []) → old ≡ filter (λ k. nat_lt k n) (take i xs) →
    new ≡ filter (λ k. nat_lt k n) (take (i + 1) xs)
within_more n xs i x old new less here grown so_far =
    grown
    ∙ ap (λ (l : List ℕ). l ++ filter (λ k. nat_lt k n) (x ∷ [])) so_far
    ∙ ap (λ (y : ℕ). filter (λ k. nat_lt k n) (take i xs) ++ filter (λ k. nat_lt k n) (y ∷ [])) here
    ∙ sym (filter_more (λ k. nat_lt k n) xs i x less)

-- the values of the inputs of a state
pub inputs_full : (numbers new : List ℕ) (n : ℕ) → n ≡ length numbers + 128 →
    new ≡ take n numbers ++ replicate (n - length numbers) 0 → new ≡ numbers ++ no_bits ++ no_bits
unfolding room
inputs_full numbers new n is made =
    made
    ∙ ap (λ (l : List ℕ). l ++ replicate (n - length numbers) 0) (take_all n numbers (omega (arith, is)))
    ∙ ap (λ (k : ℕ). numbers ++ replicate k 0) (let e : n - length numbers ≡ 128 = omega (arith, is) in e)
    ∙ twice numbers
  where
    twice : (l : List ℕ) → l ++ replicate 128 0 ≡ l ++ replicate 64 0 ++ replicate 64 0
    twice [] = refl
    twice (x ∷ xs) = ap (λ (r : List ℕ). x ∷ r) (twice xs)

-- ---- a test is its predicate
bit_is : (b : Bool) → (bit b == 1) ≡ b
bit_is true = refl
bit_is false = refl

none_count : (n : ℕ) → length {A = ℕ} (replicate n 0) ≡ n
none_count zero = refl
none_count (suc n) = ap (λ k. suc k) (none_count n)

none_set : (n k : ℕ) → slice_index (replicate n 0) k < 2
none_set zero k = let e : 0 < 2 = omega arith in e
none_set (suc n) zero = let e : 0 < 2 = omega arith in e
none_set (suc n) (suc k) = none_set n k

pub no_bits_set : AreBits no_bits
no_bits_set = record { count = none_count room; each = none_set room }

module _ (d : DesignTree) (g : GameData) where
  pub test_is : (p : Predicate) (id : TermId) → IsPredicateTerm g.terms d p id → (s : StateData) → IsState d s →
      term_test g id s ≡ predicate_holds d s p
  test_is p id is s valid =
      ap (λ (n : ℕ). n == 1) (is.holds s no_bits no_bits valid no_bits_set no_bits_set)
      ∙ bit_is (predicate_holds d s p)

  module _ (s t : StateData) (valid_s : IsState d s) (valid_t : IsState d t) where
    abbrev Same : Predicate → Type 0
    Same p = predicate_holds d s p ≡ predicate_holds d t p

    one_cell : (ps : List Predicate) (ids : List TermId) → AllZip (IsPredicateTerm g.terms d) ps ids →
        alike (map (term_test g) ids) s t ≡ true → SameCell d ps s t
    one_cell [] [] all e = All-nil Same
    one_cell [] (id ∷ ids) all e = absurd all
    one_cell (p ∷ ps) [] all e = absurd all
    one_cell (p ∷ ps) (id ∷ ids) all e =
        All-cons Same p ps
        (sym (test_is p id all.0 s valid_s)
        ∙ agree_is (term_test g id s) (term_test g id t)
        (and_left (agree (term_test g id s) (term_test g id t)) (alike (map (term_test g) ids) s t) e)
        ∙ test_is p id all.0 t valid_t)
        (one_cell ps ids all.1
        (and_right (agree (term_test g id s) (term_test g id t)) (alike (map (term_test g) ids) s t) e))

    one_alike : (ps : List Predicate) (ids : List TermId) → AllZip (IsPredicateTerm g.terms d) ps ids →
        SameCell d ps s t → alike (map (term_test g) ids) s t ≡ true
    one_alike [] [] all c = refl
    one_alike [] (id ∷ ids) all c = absurd all
    one_alike (p ∷ ps) [] all c = absurd all
    one_alike (p ∷ ps) (id ∷ ids) all c =
        and_both (agree (term_test g id s) (term_test g id t)) (alike (map (term_test g) ids) s t)
        (is_agree (term_test g id s) (term_test g id t)
        (test_is p id all.0 s valid_s ∙ All-head Same p ps c ∙ sym (test_is p id all.0 t valid_t)))
        (one_alike ps ids all.1 (All-tail Same p ps c))

  -- the tests tell the cells
  pub tests_tell : HasPool d g → (ks : List ℕ) → TellCells d (predicates_at (pool d) ks) (tests_of g ks)
  tests_tell has ks =
      let all = zip_numbers (IsPredicateTerm g.terms d) (pool d) g.flat.pool ks has.predicates in
      record {
        cell = λ s t valid_s valid_t e.
            one_cell s t valid_s valid_t (predicates_at (pool d) ks) (predicates_at g.flat.pool ks) all e;
        told = λ s t valid_s valid_t c.
            one_alike s t valid_s valid_t (predicates_at (pool d) ks) (predicates_at g.flat.pool ks) all c;
      }

  pub pool_long : HasPool d g → length (pool d) ≡ length g.flat.pool
  pool_long has = zip_long (IsPredicateTerm g.terms d) (pool d) g.flat.pool has.predicates

  -- ---- growth
  module _ (h : GameData) (grows : Grows g h) where
    same_maps : (ps : List Predicate) (ids : List TermId) → AllZip (IsPredicateTerm g.terms d) ps ids →
        map (term_test h) ids ≡ map (term_test g) ids
    same_maps [] [] all = refl
    same_maps [] (id ∷ ids) all = absurd all
    same_maps (p ∷ ps) [] all = absurd all
    same_maps (p ∷ ps) (id ∷ ids) all =
        let one : term_test h id ≡ term_test g id =
        λ i s. grows.terms.values (input_values s no_bits no_bits) id all.0.term.0 i == 1 in
        let rest = same_maps ps ids all.1 in
        λ i. one i ∷ rest i

    pub tests_kept : HasPool d g → tests_of h ≡ tests_of g
    tests_kept has = λ i ks. here ks i
      where
        here : (ks : List ℕ) → tests_of h ks ≡ tests_of g ks
        here ks =
            ap (λ (f : FlatTerms). map (term_test h) (predicates_at f.pool ks)) grows.flat
            ∙ same_maps (predicates_at (pool d) ks) (predicates_at g.flat.pool ks)
            (zip_numbers (IsPredicateTerm g.terms d) (pool d) g.flat.pool ks has.predicates)
