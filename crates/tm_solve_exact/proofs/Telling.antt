-- The game over bits that guarded updates tell is told by their terms.
use Rattle.std.proofs.Common.{◌≡◌, ℕ, zero, suc, ◌+◌, ◌^◌, ◌<◌, ◌≤◌, ◌==◌, Bool, true, false, ◌&&◌, eqb, cond, List, [], ◌∷◌, ◌++◌, Option, None, Some, length, get_or, map, drop, refl, sym, ap, ◌∙◌, subst, arith, length-append}
use Rattle.std.specs.Prelude.{All, Any, ◌↔◌, slice_get, sum}
use Rattle.std.specs.List.{AllZip, list_any, range_with_len}
use Rattle.std.specs.Option.{option_and_then}
use Rattle.std.specs.Map.{lookup}
use Rattle.std.proofs.lemmas.Bool.{eqb-true, eqb-false}
use Rattle.std.proofs.lemmas.List.{get_or-map, get_or_append_left, get_or-append-add, get_or_default, length-drop, length-map, length-take-le}
use Rattle.std.proofs.lemmas.List.Folds.{Any-from_list_any, list_any_at}
use Rattle.std.proofs.lemmas.List.FromFn.{get_or-range_with_len, length-range_with_len}
use Rattle.std.proofs.lemmas.Option.{get_or_from_slice_get, slice_get_within}
use Rattle.std.proofs.lemmas.List.Elements.{All-append, All-cons, All-nil}
use Rattle.tm_game_bits.specs.AssignedStates.{bits_by_place, coding_of, numbers_from, state_of}
use Rattle.tm_game_bits.proofs.Coded.{numbers_tell, numbers_told}
use Rattle.tm_game_bits.proofs.Numbers.{Fits, length-numbers_from, number_below, numbers_agree, numbers_back}
use Rattle.tm_base.specs.Arithmetic.{bit}
use Rattle.tm_base.specs.Bits.{number_of}
use Rattle.tm_game_bits.specs.GameOf.{IsGameOf}
use Rattle.tm_flat.specs.BitStep.{HasRoom}
use Rattle.tm_flat.specs.Flat.{FlatTerms, StepTerms}
use Rattle.tm_flat.specs.Inputs.{AreSmall, state_from}
use Rattle.tm_flat.specs.IsFlat.{IsFlat, location_numbers, process_numbers, step_from}
use Rattle.tm_flat.specs.Steps.{AreTerms, IsProcessStep, IsTaskStep, IsTerm}
use Rattle.tm_flat.proofs.Indices.{zipped_at}
use Rattle.tm_flat.proofs.Widths.{number_has_bits}
use Rattle.tm_game_bits.specs.Functions.{Assignment, Function, StepFunctions, after}
use Rattle.tm_game.proofs.Flats.{number_at}
use Rattle.tm_game.proofs.Shapes.{length-state_widths, state_of_numbers}
use Rattle.tm_game_bits.specs.Order.{IsOrder, level_in}
use Rattle.tm_game_bits.proofs.Orders.{level_of_place}
use Rattle.tm_sem.specs.State.{StateData}
use Rattle.tm_sem.specs.StateBits.{bits_of_numbers, state_numbers, state_widths}
use Rattle.tm_syntax.specs.declared.design.Var.{Var}
use Rattle.tm_syntax.specs.Design.{DesignTree, IsDesign}
use Rattle.tm_syntax.specs.Design.Locations.{end_number}
use Rattle.tm_syntax.specs.Design.Sizes.{bits_of_number, type_bits}
use Rattle.tm_term.specs.declared.term.TermId.{TermId}
use Rattle.tm_term.specs.Table.{Table}
use Rattle.tm_term.specs.Value.{value_of}
use Rattle.tm_game_bits.specs.Told.{IsFrom, IsIdle, IsOfDriver, IsOfTask, IsStepOf, IsTold, Passes, argument_levels, choice_levels, idles, inputs_at, leaves, calls, magic_at, stands_at}
use Rattle.tm_game_bits.proofs.Choices.{lists_all}
use Rattle.tm_game_bits.proofs.Games.{is_game_of}
use Rattle.tm_game_bits.proofs.Tables.{magic_is}
use Rattle.tm_solve_exact.specs.Bits.{functions_in, idle_in, inputs_in, is_magic, listed_below, locations_in, next_in, passed_in, picks_in, stands_in, step_in, step_of_sort, steps_of_sort, tasks_in, truth_in}
use Rattle.tm_solve_exact.specs.Coding.{levels_of}
use Rattle.tm_solve_exact.proofs.Coded.{state_is}
use Rattle.tm_game.proofs.Ordered.{widths_are}
use Rattle.tm_solve_exact.specs.Listed.{and_both, and_parts}

-- ---- truths
truth_is : (n : ℕ) → n < 2 → n ≡ bit (n == 1)
truth_is zero below = refl
truth_is (suc zero) below = refl
truth_is (suc (suc n)) below = absurd (omega arith)

-- ---- changes
-- what a level becomes, among levels that follow each other
found_in : (h : ℕ → Function) (k start count : ℕ) → start ≤ k → k < start + count →
    lookup (λ l. l == k) (map (λ level. (level, h level)) (range_with_len start count)) ≡ Some (h k)
found_in h k start zero above below = absurd (omega arith)
found_in h k start (suc n) above below =
    elim (eqb start k) as (λ t. eqb start k ≡ t →
    cond t (Some (h start)) (lookup (λ l. l == k) (map (λ level. (level, h level)) (range_with_len (start + 1) n)))
    ≡ Some (h k)) [
      | true ↦ λ e. ap (λ i. Some (h i)) (eqb-true start k e)
      | false ↦ λ e.
          let other = eqb-false start k e in
          found_in h k (start + 1) n (omega (arith, above, other)) (omega (arith, below))
    ] refl

-- ---- lists
some_behind : {X : Type 0} (P : X → Type 0) (xs ys : List X) → Any P ys → Any P (xs ++ ys)
some_behind P xs ys found = (
  length xs + found.0,
  found.1,
  omega (arith, found.2, length-append xs ys),
  get_or-append-add xs ys found.0 found.1 ∙ found.3,
  found.4,
)

some_before : {X : Type 0} (P : X → Type 0) (xs ys : List X) → Any P xs → Any P (xs ++ ys)
some_before P xs ys found = (
  found.0,
  found.1,
  omega (arith, found.2, length-append xs ys),
  get_or_append_left xs ys found.1 found.0 found.2 ∙ found.3,
  found.4,
)

all_below : {X : Type 0} (P : X → Type 0) (at : ℕ → List X) (n : ℕ) → ((k : ℕ) → All P (at k)) →
    All P (listed_below at n)
all_below P at zero each = All-nil P
all_below P at (suc n) each = All-append P (at n) (listed_below at n) (each n) (all_below P at n each)

some_below : {X : Type 0} (P : X → Type 0) (at : ℕ → List X) (n k : ℕ) → k < n → Any P (at k) →
    Any P (listed_below at n)
some_below P at zero k below some = absurd (omega arith)
some_below P at (suc n) k below some =
    elim (eqb k n) as (λ t. eqb k n ≡ t → Any P (at n ++ listed_below at n)) [
      | true ↦ λ e.
          some_before P (at n) (listed_below at n) (subst (λ (i : ℕ). Any P (at i)) (eqb-true k n e) some)
      | false ↦ λ e.
          let other = eqb-false k n e in
          some_behind P (at n) (listed_below at n) (some_below P at n k (omega (arith, below, other)) some)
    ] refl

zipped_second : {X Y : Type 0} (R : X → Y → Type 0) (xs : List X) (ys : List Y) → AllZip R xs ys → (k : ℕ) (y : Y) →
    slice_get ys k ≡ Some y → (x : X) × R x y
zipped_second R [] [] all k y e = absurd (cc)
zipped_second R [] (z ∷ ys) all k y e = absurd all
zipped_second R (x ∷ xs) [] all k y e = absurd all
zipped_second R (x ∷ xs) (z ∷ ys) all zero y e = let same : z ≡ y = cc in (x, subst (R x) same all.0)
zipped_second R (x ∷ xs) (z ∷ ys) all (suc k) y e = zipped_second R xs ys all.1 k y e

-- ---- numbers
made_fit : (ws : List ℕ) (bits : ℕ → Bool) (place : ℕ) → AllZip Fits ws (numbers_from ws bits place)
made_fit [] bits place = tt
made_fit (w ∷ ws) bits place = (
  subst (λ (k : ℕ). number_of (map bits (range_with_len place w)) < 2 ^ k)
      (length-map (range_with_len place w) bits ∙ length-range_with_len place w)
      (number_below (map bits (range_with_len place w))),
  made_fit ws bits (place + w),
)

fits_none : (xs : List ℕ) (a : ℕ) → ¬ AllZip Fits [] (xs ++ a ∷ [])
fits_none [] a all = all
fits_none (x ∷ xs) a all = all

fits_more : (vs : List ℕ) (u : ℕ) → ¬ AllZip Fits (vs ++ u ∷ []) []
fits_more [] u all = all
fits_more (v ∷ vs) u all = all

-- another last number fits in its width
last_fits : (vs : List ℕ) (u : ℕ) (xs : List ℕ) (a b : ℕ) → AllZip Fits (vs ++ u ∷ []) (xs ++ a ∷ []) → b < 2 ^ u →
    AllZip Fits (vs ++ u ∷ []) (xs ++ b ∷ [])
last_fits [] u [] a b all fit = (fit, tt)
last_fits [] u (x ∷ xs) a b all fit = absurd (fits_none xs a all.1)
last_fits (v ∷ vs) u [] a b all fit = absurd (fits_more vs u all.1)
last_fits (v ∷ vs) u (x ∷ xs) a b all fit = (all.0, last_fits vs u xs a b all.1 fit)

module _ (t base : Table) (d : DesignTree) (f : FlatTerms) (order : List ℕ) (flat : IsFlat t d f)
    (low : IsFlat base d f) (is : IsOrder (sum (state_widths d)) order)
    (bound : (id : TermId) (w : ℕ) → IsTerm base w id → (v : Assignment) →
    value_of t (inputs_at d order v) id < 2 ^ w) where
  inputs_are : (v : Assignment) → inputs_in f order v ≡ inputs_at d order v
  inputs_are v =
      ap (λ s. Rattle.tm_flat.specs.Inputs.input_values s (Rattle.tm_game_bits.specs.Inputs.choices_at order v)
      (Rattle.tm_game_bits.specs.Inputs.arguments_at order v)) (state_is t d f flat order v)

  -- the levels become those of the numbers that follow
  levels_after : (h : Assignment → List ℕ) (v : Assignment) (k : ℕ) → k < length order →
      after (next_in f order h) v k ≡ levels_of f order (h v) k
  levels_after h v k below =
      ap (λ o. Rattle.std.specs.Option.option_map_or (λ (g : Function). g v) o (v k))
      (found_in (λ level w. levels_of f order (h w) level) k 0 (length order) (omega arith) (omega (arith, below)))

  numbers_after : (h : Assignment → List ℕ) (v : Assignment) → AllZip Fits (state_widths d) (h v) →
      state_numbers (state_of d order (after (next_in f order h) v)) ≡ h v
  numbers_after h v fit =
      numbers_told d order is (after (next_in f order h) v)
      ∙ numbers_agree (state_widths d) (bits_by_place order (after (next_in f order h) v))
      (λ q. get_or (bits_of_numbers (state_widths d) (h v)) q false) 0
      (λ q above below.
      let found = level_of_place (sum (state_widths d)) order is q (omega arith) in
      levels_after h v (level_in order q) found.below
      ∙ ap (λ ws. get_or (bits_of_numbers ws (h v)) (get_or order (level_in order q) (length order)) false)
      (widths_are t d f flat)
      ∙ ap (λ k. get_or (bits_of_numbers (state_widths d) (h v)) k false)
      (get_or_default order (level_in order q) (length order) 0 found.below ∙ found.at))
      ∙ numbers_back [] (state_widths d) (h v) fit

  -- ---- truths
  truth_told : (id : TermId) → IsTerm base 1 id → (v : Assignment) →
      value_of t (inputs_at d order v) id ≡ bit (truth_in t f order id v)
  truth_told id term v =
      truth_is (value_of t (inputs_at d order v) id) (bound id 1 term v)
      ∙ ap (λ vs. bit (value_of t vs id == 1)) (sym (inputs_are v))

  zip_valued : (v : Assignment) (ws : List ℕ) (ids : List TermId) → AllZip (IsTerm base) ws ids →
      AllZip Fits ws (map (value_of t (inputs_at d order v)) ids)
  zip_valued v [] [] all = tt
  zip_valued v [] (id ∷ ids) all = absurd all
  zip_valued v (w ∷ ws) [] all = absurd all
  zip_valued v (w ∷ ws) (id ∷ ids) all = (bound id w all.0 v, zip_valued v ws ids all.1)

  -- ---- steps
  stands_is : (p k : ℕ) (v : Assignment) → stands_in f order p k v ≡ stands_at d order p k v
  stands_is p k v = ap (λ (s : StateData). get_or s.places p 0 == k) (state_is t d f flat order v)

  guard_true : (a b c : Bool) → a ≡ b → b ≡ true → c ≡ (a && c)
  guard_true true b c same h = refl
  guard_true false b c same h = absurd (cc)

  step_told : (guard other : Function) → ((v : Assignment) → guard v ≡ other v) → (given : List ℕ) (terms : StepTerms) →
      AreTerms base d terms → IsStepOf t d order other given terms (step_in t f order guard given terms)
  step_told guard other same given terms are = record {
    guarded = λ v h. sym (same v) ∙ (and_parts (guard v) (truth_in t f order terms.legal v) h).0;
    legal = λ v h.
        truth_told terms.legal are.legal v
        ∙ ap bit (guard_true (guard v) (other v) (truth_in t f order terms.legal v) (same v) h);
    error = λ v. truth_told terms.error are.error v;
    next = λ v.
        numbers_after (λ w. map (value_of t (inputs_in f order w)) terms.next) v
        (subst (λ (vs : List ℕ). AllZip Fits (state_widths d) (map (value_of t vs) terms.next)) (sym (inputs_are v))
        (zip_valued v (state_widths d) terms.next are.next))
        ∙ ap (λ vs. map (value_of t vs) terms.next) (inputs_are v);
    choices = lists_all (choice_levels order) (λ v. value_of t (inputs_at d order v)) terms;
    arguments = refl;
  }

  -- ---- the table of magic blocks
  in_magic : (p k : ℕ) (m : Bool) → magic_at f p k ≡ Some m → (p < length f.magic) × (k < locations_in f p)
  in_magic p k m at = by_row (slice_get f.magic p) refl at
    where
      by_row : (o : Option (List Bool)) → slice_get f.magic p ≡ o → option_and_then (λ ms. slice_get ms k) o ≡ Some m →
          (p < length f.magic) × (k < locations_in f p)
      by_row None there e = absurd (cc)
      by_row (Some ms) there e = (
        slice_get_within f.magic p ms there,
        subst (λ (r : List Bool). k < length r) (sym (get_or_from_slice_get f.magic p ms [] there))
            (slice_get_within ms k m e),
      )

  terms_are : (p k : ℕ) (terms : StepTerms) → step_from f p k ≡ Some terms → AreTerms base d terms
  terms_are p k terms at = by_row (slice_get f.processes p) refl at
    where
      by_row : (o : Option (List StepTerms)) → slice_get f.processes p ≡ o →
          option_and_then (λ steps. slice_get steps k) o ≡ Some terms → AreTerms base d terms
      by_row None there e = absurd (cc)
      by_row (Some steps) there e =
          let row = zipped_second (λ q (ss : List StepTerms). AllZip (IsProcessStep base d q) (location_numbers d q) ss)
          (process_numbers d) f.processes low.processes p steps there in
          let found = zipped_second (IsProcessStep base d row.0) (location_numbers d row.0) steps row.1 k terms e in
          found.1.terms

  step_there : (p k : ℕ) (m : Bool) → magic_at f p k ≡ Some m → (terms : StepTerms) × (step_from f p k ≡ Some terms)
  step_there p k m at =
      let location = magic_is t d f flat p k m at in
      let row = zipped_at (λ q (ss : List StepTerms). AllZip (IsProcessStep t d q) (location_numbers d q) ss)
      (process_numbers d) f.processes flat.processes p
      (omega (arith, location.inside, length-range_with_len 0 (length d.processes))) in
      let this : row.0 ≡ p = number_at (length d.processes) p row.0 row.2 in
      let within : k ≤ end_number d row.0 = subst (λ (q : ℕ). k ≤ end_number d q) (sym this) location.within in
      let found = zipped_at (IsProcessStep t d row.0) (location_numbers d row.0) row.1 row.4 k
      (omega (arith, within, length-range_with_len 0 (end_number d row.0 + 1))) in
      (found.1, ap (λ o. option_and_then (λ (ss : List StepTerms). slice_get ss k) o) row.3 ∙ found.3)

  from_is : (sort : Bool) (p k : ℕ) (terms : StepTerms) → magic_at f p k ≡ Some sort → step_from f p k ≡ Some terms →
      IsFrom t d order f sort p k (step_in t f order (stands_in f order p k) [] terms)
  from_is sort p k terms at there = (
    at,
    terms,
    there,
    step_told (stands_in f order p k) (stands_at d order p k) (stands_is p k) [] terms (terms_are p k terms there),
  )

  abbrev IsOfSort : Bool → StepFunctions → Type 0
  IsOfSort sort step = (p k : ℕ) × IsFrom t d order f sort p k step

  one_of_sort : (sort : Bool) (p k : ℕ) (m : Option Bool) (s : Option StepTerms) → magic_at f p k ≡ m →
      step_from f p k ≡ s → All (IsOfSort sort) (step_of_sort t f order sort p k m s)
  one_of_sort true p k (Some true) (Some terms) at there =
      All-cons (IsOfSort true) _ [] (p, k, from_is true p k terms at there) (All-nil (IsOfSort true))
  one_of_sort false p k (Some false) (Some terms) at there =
      All-cons (IsOfSort false) _ [] (p, k, from_is false p k terms at there) (All-nil (IsOfSort false))
  one_of_sort true p k (Some true) None at there = All-nil (IsOfSort true)
  one_of_sort false p k (Some false) None at there = All-nil (IsOfSort false)
  one_of_sort true p k (Some false) s at there = All-nil (IsOfSort true)
  one_of_sort false p k (Some true) s at there = All-nil (IsOfSort false)
  one_of_sort true p k None s at there = All-nil (IsOfSort true)
  one_of_sort false p k None s at there = All-nil (IsOfSort false)

  each_of_sort : (sort : Bool) → All (IsOfSort sort) (steps_of_sort t f order sort)
  each_of_sort sort =
      all_below (IsOfSort sort)
      (λ p. listed_below (λ k. step_of_sort t f order sort p k (magic_at f p k) (step_from f p k)) (locations_in f p))
      (length f.magic)
      (λ p.
      all_below (IsOfSort sort) (λ k. step_of_sort t f order sort p k (magic_at f p k) (step_from f p k))
      (locations_in f p) (λ k. one_of_sort sort p k (magic_at f p k) (step_from f p k) refl refl))

  only_one : {X : Type 0} (P : X → Type 0) (x : X) → P x → Any P (x ∷ [])
  only_one P x is = (0, x, omega arith, refl, is)

  this_of_sort : (sort : Bool) (p k : ℕ) (terms : StepTerms) → magic_at f p k ≡ Some sort →
      step_from f p k ≡ Some terms →
      Any (IsFrom t d order f sort p k) (step_of_sort t f order sort p k (Some sort) (Some terms))
  this_of_sort true p k terms at there = only_one (IsFrom t d order f true p k) _ (from_is true p k terms at there)
  this_of_sort false p k terms at there = only_one (IsFrom t d order f false p k) _ (from_is false p k terms at there)

  some_of_sort : (sort : Bool) (p k : ℕ) → magic_at f p k ≡ Some sort →
      Any (IsFrom t d order f sort p k) (steps_of_sort t f order sort)
  some_of_sort sort p k at =
      let inside = in_magic p k sort at in
      let step = step_there p k sort at in
      let here = subst (λ (m : Option Bool).
      Any (IsFrom t d order f sort p k) (step_of_sort t f order sort p k m (step_from f p k))) (sym at)
      (subst (λ (s : Option StepTerms).
      Any (IsFrom t d order f sort p k) (step_of_sort t f order sort p k (Some sort) s)) (sym step.1)
      (this_of_sort sort p k step.0 at step.1)) in
      some_below (IsFrom t d order f sort p k)
      (λ p. listed_below (λ k. step_of_sort t f order sort p k (magic_at f p k) (step_from f p k)) (locations_in f p))
      (length f.magic) p inside.0
      (some_below (IsFrom t d order f sort p k)
      (λ k. step_of_sort t f order sort p k (magic_at f p k) (step_from f p k)) (locations_in f p) k inside.1 here)

  -- ---- turns
  magic_so : (o : Option Bool) → is_magic o ≡ true → o ≡ Some true
  magic_so None e = absurd (cc)
  magic_so (Some m) e = ap (λ b. Some b) e

  picks_told : (v : Assignment) →
      (picks_in f order v ≡ true) ↔ ((p k : ℕ) × (magic_at f p k ≡ Some true) × (stands_at d order p k v ≡ true))
  picks_told v = (only, all)
    where
      only : picks_in f order v ≡ true →
          (p k : ℕ) × (magic_at f p k ≡ Some true) × (stands_at d order p k v ≡ true)
      only h =
          let row = Any-from_list_any
          (λ p. list_any (λ k. is_magic (magic_at f p k) && stands_in f order p k v)
          (range_with_len 0 (locations_in f p)))
          (range_with_len 0 (length f.magic)) h in
          let found = Any-from_list_any (λ k. is_magic (magic_at f row.1 k) && stands_in f order row.1 k v)
          (range_with_len 0 (locations_in f row.1)) row.4 in
          let parts = and_parts (is_magic (magic_at f row.1 found.1)) (stands_in f order row.1 found.1 v) found.4 in (
            row.1,
            found.1,
            magic_so (magic_at f row.1 found.1) parts.0,
            sym (stands_is row.1 found.1 v) ∙ parts.1,
          )

      all : ((p k : ℕ) × (magic_at f p k ≡ Some true) × (stands_at d order p k v ≡ true)) → picks_in f order v ≡ true
      all (p, k, at, stands) =
          let inside = in_magic p k true at in
          let this = and_both (is_magic (magic_at f p k)) (stands_in f order p k v) (ap is_magic at)
          (stands_is p k v ∙ stands) in
          let row = list_any_at (λ j. is_magic (magic_at f p j) && stands_in f order p j v)
          (range_with_len 0 (locations_in f p)) k 0
          (omega (arith, inside.1, length-range_with_len 0 (locations_in f p)))
          (ap (λ j. is_magic (magic_at f p j) && stands_in f order p j v)
          (get_or-range_with_len 0 (locations_in f p) k 0 inside.1 ∙ omega arith) ∙ this) in
          list_any_at
          (λ q. list_any (λ j. is_magic (magic_at f q j) && stands_in f order q j v)
          (range_with_len 0 (locations_in f q)))
          (range_with_len 0 (length f.magic)) p 0
          (omega (arith, inside.0, length-range_with_len 0 (length f.magic)))
          (ap (λ q.
          list_any (λ j. is_magic (magic_at f q j) && stands_in f order q j v) (range_with_len 0 (locations_in f q)))
          (get_or-range_with_len 0 (length f.magic) p 0 inside.0 ∙ omega arith) ∙ row)

  -- ---- states that pass
  numbers_long : (v : Assignment) →
      length (numbers_from (state_widths d) (bits_by_place order v) 0) ≡ length d.vars + (length d.processes + 1)
  numbers_long v = length-numbers_from (state_widths d) (bits_by_place order v) 0 ∙ length-state_widths d

  values_long : (v : Assignment) → length (state_of d order v).values ≡ length d.vars
  values_long v =
      length-take-le (length d.vars) (numbers_from (state_widths d) (bits_by_place order v) 0)
      (omega (arith, numbers_long v))

  places_long : (v : Assignment) → length (state_of d order v).places ≡ length d.processes
  places_long v =
      length-take-le (length d.processes)
      (drop (length d.vars) (numbers_from (state_widths d) (bits_by_place order v) 0))
      (omega (
        arith,
        numbers_long v,
        length-drop (length d.vars)
            (numbers_from (state_widths d) (bits_by_place order v) 0),
      ))

  passed_fit : AreSmall d → (last : ℕ) → last < 2 → (v : Assignment) →
      AllZip Fits (state_widths d) (state_numbers (record (state_of d order v) { last = last }))
  passed_fit small last few v =
      let wide = number_has_bits (1 + length d.processes) small.processes in
      last_fits
      (map (λ (x : Var). type_bits d.spec x.ty) d.vars
      ++ map (λ p. bits_of_number (end_number d p)) (range_with_len 0 (length d.processes)))
      (bits_of_number (1 + length d.processes)) ((state_of d order v).values ++ (state_of d order v).places)
      (state_of d order v).last last
      (subst (AllZip Fits (state_widths d)) (sym (numbers_told d order is v))
      (made_fit (state_widths d) (bits_by_place order v) 0))
      (omega (arith, few, wide))

  passes : AreSmall d → (last : ℕ) → last < 2 → Passes d order last (next_in f order (passed_in f order last))
  passes small last few v =
      let state = state_is t d f flat order v in
      let fit = subst (λ (s : StateData). AllZip Fits (state_widths d) (state_numbers (record s { last = last })))
      (sym state) (passed_fit small last few v) in
      sym (numbers_tell d order is (after (next_in f order (passed_in f order last)) v))
      ∙ ap (state_from d) (numbers_after (passed_in f order last) v fit)
      ∙ ap (λ (s : StateData). state_from d (state_numbers (record s { last = last }))) state
      ∙ state_of_numbers d (record (state_of d order v) { last = last }) (values_long v) (places_long v)

  idle_is : AreSmall d → IsIdle d order (picks_in f order) (idle_in f order)
  idle_is small = record {
    legal = λ v. refl;
    error = λ v. refl;
    next = passes small 1 (omega arith);
    choices = refl;
    arguments = refl;
  }

  -- ---- tasks
  task_is : (n : ℕ) (terms : StepTerms) → slice_get f.tasks n ≡ Some terms →
      IsOfTask t d order f n (step_in t f order (λ v. true) (argument_levels order) terms)
  task_is n terms at =
      let found =
      zipped_second (IsTaskStep base d) (range_with_len 0 (length d.tasks)) f.tasks low.tasks n terms at in (
        terms,
        at,
        step_told (λ v. true) (λ v. true) (λ v. refl) (argument_levels order) terms found.1.terms,
      )

  some_task : (n : ℕ) (terms : StepTerms) → slice_get f.tasks n ≡ Some terms →
      Any (IsOfTask t d order f n) (tasks_in t f order)
  some_task n terms at =
      let below = slice_get_within f.tasks n terms at in (
        n,
        step_in t f order (λ v. true) (argument_levels order) terms,
        omega (arith, below, length-map f.tasks (step_in t f order (λ v. true) (argument_levels order))),
        get_or-map (step_in t f order (λ v. true) (argument_levels order)) f.tasks n terms
            (step_in t f order (λ v. true) (argument_levels order) terms) below
            ∙ ap (step_in t f order (λ v. true) (argument_levels order))
            (get_or_from_slice_get f.tasks n terms terms at),
        task_is n terms at,
      )

  abbrev IsDriven : StepFunctions → Type 0
  IsDriven step = IsOfDriver t d order f (picks_in f order) step

  all_tasks : (front : ℕ) (steps : List StepTerms) → ((k : ℕ) (terms : StepTerms) →
      slice_get steps k ≡ Some terms → slice_get f.tasks (front + k) ≡ Some terms) →
      All IsDriven (map (step_in t f order (λ v. true) (argument_levels order)) steps)
  all_tasks front [] at = All-nil IsDriven
  all_tasks front (s ∷ ss) at =
      All-cons IsDriven _ (map (step_in t f order (λ v. true) (argument_levels order)) ss)
      (calls (front + 0) (task_is (front + 0) s (at 0 s refl)))
      (all_tasks (front + 1) ss
      (λ k terms is.
      let same : front + suc k ≡ front + 1 + k = omega arith in
      subst (λ (i : ℕ). slice_get f.tasks i ≡ Some terms) same (at (suc k) terms is)))

  -- ---- the game
  driven : AreSmall d → All IsDriven (idle_in f order ∷ tasks_in t f order ++ steps_of_sort t f order true)
  driven small =
      All-append IsDriven (idle_in f order ∷ tasks_in t f order) (steps_of_sort t f order true)
      (All-cons IsDriven (idle_in f order) (tasks_in t f order) (idles (idle_is small))
      (all_tasks 0 f.tasks
      (λ k terms at. let same : k ≡ 0 + k = omega arith in
      subst (λ (i : ℕ). slice_get f.tasks i ≡ Some terms) same at)))
      (λ i e below. let found = each_of_sort true i e below in leaves found.0 found.1 found.2)

  pub told : AreSmall d → IsTold t d order f (functions_in t f order)
  told small = record {
    valid = truth_told f.valid low.valid.term;
    turn = picks_told;
    stutter = passes small 0 (omega arith);
    environment = each_of_sort false;
    processes = some_of_sort false;
    driver = driven small;
    idle = some_before (IsIdle d order (picks_in f order)) (idle_in f order ∷ tasks_in t f order)
        (steps_of_sort t f order true)
        (some_before (IsIdle d order (picks_in f order)) (idle_in f order ∷ []) (tasks_in t f order)
        (only_one (IsIdle d order (picks_in f order)) (idle_in f order) (idle_is small)));
    leaving = λ p k at.
        some_behind (IsFrom t d order f true p k) (idle_in f order ∷ tasks_in t f order)
        (steps_of_sort t f order true) (some_of_sort true p k at);
    calling = λ n terms at.
        some_before (IsOfTask t d order f n) (idle_in f order ∷ tasks_in t f order) (steps_of_sort t f order true)
        (some_behind (IsOfTask t d order f n) (idle_in f order ∷ []) (tasks_in t f order) (some_task n terms at));
  }

  pub is_game : AreSmall d → HasRoom d → IsDesign d → IsGameOf d (coding_of d order) (functions_in t f order)
  is_game small room design = is_game_of t d order f (functions_in t f order) flat room design is (told small)
