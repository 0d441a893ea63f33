-- The numbers of the state behind a step.
use Rattle.std.proofs.Common.{◌≡◌, ◌≢◌, ◌⊎◌, inl, inr, ℕ, zero, suc, ◌+◌, ◌<◌, ◌≤◌, Option, None, Some, List, [], ◌∷◌, ◌++◌, length, map, take, drop, slice_get, slice_index, slice_set, refl, sym, ap, ◌∙◌, subst, arith, append_assoc, length-append, length-drop, length-take}
use Rattle.std.specs.Prelude.{IfSome}
use Rattle.std.specs.List.{AllZip, range_with_len}
use Rattle.std.specs.Option.{option_map_or}
use Rattle.std.proofs.lemmas.List.{get_or-drop, get_or-take, map-append}
use Rattle.std.proofs.lemmas.Option.{slice_get_within}
use Rattle.std.proofs.Math.Seq.{drop-append_seam, get_or-append_seam, take-append_seam}
use Rattle.tm_syntax.specs.declared.design.Var.{Var}
use Rattle.tm_syntax.specs.Design.{DesignTree}
use Rattle.tm_syntax.specs.Design.Locations.{end_number}
use Rattle.tm_syntax.specs.Design.Sizes.{bits_of_number, type_bits}
use Rattle.tm_term.specs.declared.term.TermId.{TermId}
use Rattle.tm_term.specs.Table.{Table, IsSound}
use Rattle.tm_term.specs.Value.{AreInputs, value_of}
use Rattle.tm_sem.specs.State.{StateData}
use Rattle.tm_sem.specs.StateBits.{state_widths}
use Rattle.tm_flat.specs.Inputs.{input_widths, state_from}
use Rattle.tm_flat.specs.Steps.{IsInput, IsTerm}
use Rattle.tm_flat_exprs.proofs.Later.{Extends-refl}
use Rattle.tm_flat_stmts.proofs.Pieces.{one_or_other}
use Rattle.tm_flat_moves.specs.Next.{MakesNext, moved}
use Rattle.tm_flat_moves.proofs.InputTerms.{input_value}
use Rattle.tm_flat_moves.proofs.InputWidths.{input_of, inputs_many, place_width}
use Rattle.tm_flat_moves.proofs.Lists.{get_back, get_front, get_other, get_range, get_set, get_within, index_is, index_map, map_long, map_set, range_long, same_lists, set_long}

-- ---- lists side by side
pub zip_points : {X Y : Type 0} (R : X → Y → Type 0) (xs : List X) (ys : List Y) → length xs ≡ length ys →
    ((k : ℕ) (x : X) (y : Y) → slice_get xs k ≡ Some x → slice_get ys k ≡ Some y → R x y) → AllZip R xs ys
zip_points R [] [] long each = tt
zip_points R [] (y ∷ ys) long each = absurd (omega (arith, long))
zip_points R (x ∷ xs) [] long each = absurd (omega (arith, long))
zip_points R (x ∷ xs) (y ∷ ys) long each =
    (each 0 x y refl refl, zip_points R xs ys (omega (arith, long)) (λ k a b here there. each (suc k) a b here there))

zip_join : {X Y : Type 0} (R : X → Y → Type 0) (xs vs : List X) (ys ws : List Y) → AllZip R xs ys → AllZip R vs ws →
    AllZip R (xs ++ vs) (ys ++ ws)
zip_join R [] vs [] ws one other = other
zip_join R [] vs (y ∷ ys) ws one other = absurd one
zip_join R (x ∷ xs) vs [] ws one other = absurd one
zip_join R (x ∷ xs) vs (y ∷ ys) ws one other = (one.0, zip_join R xs vs ys ws one.1 other)

zip_map : {X Y Z : Type 0} (R : Z → Y → Type 0) (f : X → Z) (xs : List X) (ys : List Y) →
    AllZip (λ x y. R (f x) y) xs ys → AllZip R (map f xs) ys
zip_map R f [] [] all = tt
zip_map R f [] (y ∷ ys) all = absurd all
zip_map R f (x ∷ xs) [] all = absurd all
zip_map R f (x ∷ xs) (y ∷ ys) all = (all.0, zip_map R f xs ys all.1)

moved_long : {X : Type 0} (xs : List X) (mover : Option ℕ) (x : X) → length (moved xs mover x) ≡ length xs
moved_long xs None x = refl
moved_long xs (Some p) x = set_long xs p x

map_moved : (f : TermId → ℕ) (xs : List TermId) (mover : Option ℕ) (x : TermId) →
    map f (moved xs mover x) ≡ moved (map f xs) mover (f x)
map_moved f xs None x = refl
map_moved f xs (Some p) x = map_set f xs p x

module _ (m n : Table) (d : DesignTree) (values : List TermId) (mover : Option ℕ) (place : TermId) (last : ℕ)
    (next : List TermId) (made : MakesNext m n d values mover place last next)
    (inputs : n.inputs ≡ input_widths d) (as_many : length values ≡ length d.vars) where
  abbrev places : List TermId
  places = moved made.places mover place

  places_long : length places ≡ length d.processes
  places_long = moved_long made.places mover place ∙ made.count

  -- the place of a process is that of the mover, or its input
  one_place : (p : ℕ) (id : TermId) → slice_get places p ≡ Some id →
      ((mover ≡ Some p) × (place ≡ id)) ⊎ ((mover ≢ Some p) × IsInput n (length d.vars + p) id)
  one_place p id is = by mover refl is
    where
      by : (o : Option ℕ) → mover ≡ o → slice_get (moved made.places o place) p ≡ Some id →
          ((mover ≡ Some p) × (place ≡ id)) ⊎ ((mover ≢ Some p) × IsInput n (length d.vars + p) id)
      by None none here = inr (λ some. let both = sym none ∙ some in absurd (cc), made.each p id here)
      by (Some q) some here = choose (one_or_other q p)
        where
          choose : (q ≡ p) ⊎ (q ≢ p) →
              ((mover ≡ Some p) × (place ≡ id)) ⊎ ((mover ≢ Some p) × IsInput n (length d.vars + p) id)
          choose (inl same) =
              inl (
                some ∙ ap (λ k. Some k) same,
                get_set made.places p place id (ap (λ k. slice_get (slice_set made.places k place) p) (sym same)
                    ∙ here),
              )
          choose (inr other) =
              inr (
                λ both. other (let one = sym some ∙ both in cc),
                made.each p id (sym (get_other made.places q p place (λ same. other (sym same))) ∙ here),
              )

  -- ---- the terms
  module _ (kept : (i : ℕ) (id : TermId) (v : Var) → slice_get values i ≡ Some id → slice_get d.vars i ≡ Some v →
      IsTerm n (type_bits d.spec v.ty) id)
      (arrives : (p : ℕ) → mover ≡ Some p → IsTerm n (bits_of_number (end_number d p)) place) where
    place_term : (k p : ℕ) (id : TermId) → slice_get (range_with_len 0 (length d.processes)) k ≡ Some p →
        slice_get places k ≡ Some id → IsTerm n (bits_of_number (end_number d p)) id
    place_term k p id at is =
        let below : k < length d.processes =
        let inside = slice_get_within places k id is in let long = places_long in omega (arith, inside, long) in
        let number : k ≡ p =
        let zero_and : 0 + k ≡ k = omega arith in
        let one : Some k ≡ Some p = ap (λ j. Some j) (sym zero_and) ∙ sym (get_range 0 (length d.processes) k below)
        ∙ at
        in cc in
        subst (λ q. IsTerm n (bits_of_number (end_number d q)) id) number (by (one_place k id is) below)
      where
        by : ((mover ≡ Some k) × (place ≡ id)) ⊎ ((mover ≢ Some k) × IsInput n (length d.vars + k) id) →
            k < length d.processes → IsTerm n (bits_of_number (end_number d k)) id
        by (inl here) below = subst (IsTerm n (bits_of_number (end_number d k))) here.1 (arrives k here.0)
        by (inr there) below =
            input_of d n (length d.vars + k) (bits_of_number (end_number d k)) id inputs made.sound there.1
            (place_width d k below)

    pub next_terms : AllZip (IsTerm n) (state_widths d) next
    next_terms =
        subst (AllZip (IsTerm n) (state_widths d)) (sym made.is)
        (zip_join (IsTerm n)
        (map (λ (v : Var). type_bits d.spec v.ty) d.vars
        ++ map (λ p. bits_of_number (end_number d p)) (range_with_len 0 (length d.processes)))
        (bits_of_number (1 + length d.processes) ∷ []) (values ++ places) (made.number ∷ [])
        (zip_join (IsTerm n) (map (λ (v : Var). type_bits d.spec v.ty) d.vars)
        (map (λ p. bits_of_number (end_number d p)) (range_with_len 0 (length d.processes))) values places
        (zip_map (IsTerm n) (λ (v : Var). type_bits d.spec v.ty) d.vars values
        (zip_points (λ (v : Var) id. IsTerm n (type_bits d.spec v.ty) id) d.vars values (sym as_many)
        (λ k v id here there. kept k id v there here)))
        (zip_map (IsTerm n) (λ p. bits_of_number (end_number d p)) (range_with_len 0 (length d.processes)) places
        (zip_points (λ p id. IsTerm n (bits_of_number (end_number d p)) id) (range_with_len 0 (length d.processes))
        places (range_long 0 (length d.processes) ∙ sym places_long) place_term)))
        (made.term, tt))

  -- ---- the state that they tell
  module _ (v : List ℕ) (are : AreInputs n v) where
    abbrev val : TermId → ℕ
    val = value_of n v

    abbrev told_places : List ℕ
    told_places = take (length d.processes) (drop (length d.vars) v)

    long_enough : length d.vars + length d.processes ≤ length v
    long_enough =
        let all : length v ≡ length (input_widths d) = are.count ∙ ap length inputs in
        omega (arith, all, inputs_many d)

    inputs_told : map val made.places ≡ told_places
    inputs_told =
        let much = long_enough in
        let long : length (map val made.places) ≡ length d.processes = map_long val made.places ∙ made.count in
        same_lists (map val made.places) told_places
        (long ∙ sym (omega (
          arith,
          length-take (length d.processes) (drop (length d.vars) v),
          length-drop (length d.vars) v,
          much,
        )))
        (λ k below.
        let inside : k < length d.processes = omega (arith, long) in
        let here = get_within made.places k (let count = made.count in omega (arith, count)) in
        index_map val made.places k here.0 here.1
        ∙ input_value n n (length d.vars + k) here.0 made.sound (made.each k here.0 here.1) (Extends-refl n) v
        ∙ sym (get_or-drop (length d.vars) v k 0)
        ∙ sym (get_or-take (length d.processes) (drop (length d.vars) v) k 0 inside))

    abbrev after : List ℕ
    after = moved told_places mover (val place)

    numbers : map val next ≡ (map val values ++ after) ++ last ∷ []
    numbers =
        ap (map val) made.is
        ∙ map-append val (values ++ places) (made.number ∷ [])
        ∙ (λ i. map-append val values places i ++ made.value n (Extends-refl n) v are i ∷ [])
        ∙ ap (λ l. (map val values ++ l) ++ last ∷ [])
        (map_moved val made.places mover place ∙ ap (λ l. moved l mover (val place)) inputs_told)

    after_long : length after ≡ length d.processes
    after_long =
        moved_long told_places mover (val place) ∙ sym (ap length inputs_told) ∙ map_long val made.places ∙ made.count

    values_long : length (map val values) ≡ length d.vars
    values_long = map_long val values ∙ as_many

    state_of_lists : (xs ys : List ℕ) (x : ℕ) → length xs ≡ length d.vars → length ys ≡ length d.processes →
        state_from d ((xs ++ ys) ++ x ∷ []) ≡ record { values = xs; places = ys; last = x }
    state_of_lists xs ys x vars processes =
        let grouped : (xs ++ ys) ++ x ∷ [] ≡ xs ++ (ys ++ x ∷ []) = append_assoc xs ys (x ∷ []) in
        let first : take (length d.vars) ((xs ++ ys) ++ x ∷ []) ≡ xs =
        (λ i. take (sym vars i) (grouped i)) ∙ take-append_seam xs (ys ++ x ∷ []) in
        let second : take (length d.processes) (drop (length d.vars) ((xs ++ ys) ++ x ∷ [])) ≡ ys =
        (λ i. take (sym processes i) (drop (sym vars i) (grouped i)))
        ∙ ap (take (length ys)) (drop-append_seam xs (ys ++ x ∷ []))
        ∙ take-append_seam ys (x ∷ []) in
        let at : length d.vars + length d.processes ≡ length (xs ++ ys) =
        omega (arith, length-append xs ys, vars, processes) in
        let third : slice_index ((xs ++ ys) ++ x ∷ []) (length d.vars + length d.processes) ≡ x =
        ap (slice_index ((xs ++ ys) ++ x ∷ [])) at ∙ get_or-append_seam (xs ++ ys) x [] 0 in
        (λ i. record { values = first i; places = second i; last = third i })

    pub told_state : state_from d (map val next) ≡ record { values = map val values; places = after; last = last }
    told_state = ap (state_from d) numbers ∙ state_of_lists (map val values) after last values_long after_long

  -- ---- what is left alone
  pub next_value : (i : ℕ) (id had : TermId) → slice_get values i ≡ Some had → slice_get next i ≡ Some id → had ≡ id
  next_value i id had here is =
      let there : slice_get next i ≡ Some had =
      ap (λ l. slice_get l i) made.is
      ∙ get_front (values ++ places) (made.number ∷ []) i had (get_front values places i had here) in
      let both : Some had ≡ Some id = sym there ∙ is in cc

  pub next_place : (p : ℕ) (id : TermId) → p < length d.processes → mover ≢ Some p →
      slice_get next (length d.vars + p) ≡ Some id → IsInput n (length d.vars + p) id
  next_place p id below stays is =
      let here = get_within places p (let long = places_long in omega (arith, long)) in
      let there : slice_get next (length d.vars + p) ≡ Some here.0 =
      ap (λ l. slice_get l (length d.vars + p)) made.is
      ∙ get_front (values ++ places) (made.number ∷ []) (length d.vars + p) here.0
      (ap (λ k. slice_get (values ++ places) (k + p)) (sym as_many) ∙ get_back values places p ∙ here.1) in
      let same : here.0 ≡ id = let both : Some here.0 ≡ Some id = sym there ∙ is in cc in
      subst (IsInput n (length d.vars + p)) same (by (one_place p here.0 here.1))
    where
      by : {x : TermId} → ((mover ≡ Some p) × (place ≡ x)) ⊎ ((mover ≢ Some p) × IsInput n (length d.vars + p) x) →
          IsInput n (length d.vars + p) x
      by (inl here) = absurd (stays here.0)
      by (inr there) = there.1
