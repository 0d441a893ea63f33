-- Numbers are within the bounds of a valid state exactly where they tell one, and so with initial states.
use Rattle.std.proofs.Common.{◌≡◌, ℕ, zero, suc, ◌+◌, ◌-◌, ◌^◌, ◌<◌, ◌≤◌, Option, None, Some, List, [], ◌∷◌, ◌++◌, length, map, replicate, take, drop, slice_index, refl, sym, ap, ◌∙◌, subst, arith, length-append}
use Rattle.std.specs.Prelude.{◌↔◌, ⊤, IfSome, MatchOption}
use Rattle.std.specs.List.{AllByRecursion, AllZip, range_with_len}
use Rattle.std.specs.Option.{option_map_or}
use Rattle.tm_syntax.specs.declared.design.Ty.{Ty}
use Rattle.tm_syntax.specs.declared.design.Ty.TheVariants as types
use Rattle.tm_syntax.specs.declared.design.Var.{Var}
use Rattle.tm_syntax.specs.Design.{DesignTree}
use Rattle.tm_syntax.specs.Design.Locations.{end_number}
use Rattle.tm_syntax.specs.Design.Sizes.{bits_of_number, type_bits, type_size}
use Rattle.tm_design.specs.Values.{HasValues, VarFits}
use Rattle.tm_sem.specs.StateBits.{state_widths}
use Rattle.tm_sem.specs.Step.{IsInitial, IsState}
use Rattle.tm_flat.specs.Inputs.{AreSmall, first_choice, input_widths, room, state_from}
use Rattle.tm_flat.proofs.Widths.{number_has_bits, type_has_bits}
use Rattle.tm_flat_states.specs.declared.bounds.Bound.{Bound}
use Rattle.tm_flat_states.specs.declared.bounds.Bound.TheVariants.{AtMost, Exactly}
use Rattle.tm_flat_states.specs.Bounds.{FitAll, MeetAll, Meets, bound_number, first_bound, initial_bounds, valid_bounds, value_bound}
use Rattle.tm_flat_states.proofs.Lists.{drop_long, index_dropped, map_long, range_long, replicate_long}

-- ---- lists of bounds
meet_front : (cs bs : List Bound) (v : List ℕ) → MeetAll (cs ++ bs) v → MeetAll cs v × MeetAll bs (drop (length cs) v)
meet_front [] bs v all = (tt, all)
meet_front (a ∷ cs) bs [] all = absurd all
meet_front (a ∷ cs) bs (n ∷ v) all = let rest = meet_front cs bs v all.1 in ((all.0, rest.0), rest.1)

meet_both : (cs bs : List Bound) (v : List ℕ) → MeetAll cs v → MeetAll bs (drop (length cs) v) → MeetAll (cs ++ bs) v
meet_both [] bs v first second = second
meet_both (a ∷ cs) bs [] first second = absurd first
meet_both (a ∷ cs) bs (n ∷ v) first second = (first.0, meet_both cs bs v first.1 second)

-- bounds of the things of a list say of the numbers what a relation says of both
module _ {X : Type 0} (bound : X → Bound) (P : X → Type 0) (R : X → ℕ → Type 0)
    (tells : (x : X) (n : ℕ) → P x → Meets (bound x) n ↔ R x n) where
  met_zip : (xs : List X) (v : List ℕ) → AllByRecursion P xs → MeetAll (map bound xs) v →
      AllZip R xs (take (length xs) v)
  met_zip [] v each all = tt
  met_zip (x ∷ xs) [] each all = absurd all
  met_zip (x ∷ xs) (n ∷ v) each all = ((tells x n each.0).0 all.0, met_zip xs v each.1 all.1)

  zip_met : (xs : List X) (v : List ℕ) → AllByRecursion P xs → AllZip R xs (take (length xs) v) →
      MeetAll (map bound xs) v
  zip_met [] v each all = tt
  zip_met (x ∷ xs) [] each all = absurd all
  zip_met (x ∷ xs) (n ∷ v) each all = ((tells x n each.0).1 all.0, zip_met xs v each.1 all.1)

no_premise : {X : Type 0} (xs : List X) → AllByRecursion (λ x. ⊤) xs
no_premise [] = tt
no_premise (x ∷ xs) = (tt, no_premise xs)

-- one bound for the first of what is left
met_last : (b : Bound) (v : List ℕ) (k : ℕ) → MeetAll (b ∷ []) (drop k v) → Meets b (slice_index v k)
met_last b v k all = subst (Meets b) (index_dropped v k) (first (drop k v) all)
  where
    first : (w : List ℕ) → MeetAll (b ∷ []) w → Meets b (slice_index w 0)
    first [] all = absurd all
    first (n ∷ w) all = all.0

last_met : (b : Bound) (v : List ℕ) (k : ℕ) → k < length v → Meets b (slice_index v k) → MeetAll (b ∷ []) (drop k v)
last_met b v k below met =
    first (drop k v) (drop_long v k 1 (omega arith)) (subst (Meets b) (sym (index_dropped v k)) met)
  where
    first : (w : List ℕ) → 1 ≤ length w → Meets b (slice_index w 0) → MeetAll (b ∷ []) w
    first [] some met = absurd (omega arith)
    first (n ∷ w) some met = (met, tt)

-- ---- numbers that are all 0
met_starts : (n : ℕ) (v : List ℕ) → MeetAll (replicate n (Exactly 0)) v → take n v ≡ replicate n 0
met_starts zero v all = refl
met_starts (suc n) [] all = absurd all
met_starts (suc n) (x ∷ v) all =
    let rest = met_starts n v all.1 in ap (λ k. k ∷ take n v) all.0 ∙ ap (λ l. 0 ∷ l) rest

starts_met : (n : ℕ) (v : List ℕ) → n ≤ length v → take n v ≡ replicate n 0 → MeetAll (replicate n (Exactly 0)) v
starts_met zero v within all = tt
starts_met (suc n) [] within all = absurd (omega arith)
starts_met (suc n) (x ∷ v) within all =
    (ap (λ (l : List ℕ). slice_index l 0) all, starts_met n v (omega arith) (ap (drop 1) all))

-- ---- the bound of a variable
below_top : (size n : ℕ) → 0 < size → n ≤ size - 1 → n < size
below_top size n some within = omega arith

top_below : (size n : ℕ) → n < size → n ≤ size - 1
top_below size n below = omega arith

module _ (d : DesignTree) (has : HasValues d) where
  abbrev Fitting : Var → Type 0
  Fitting v = VarFits d.spec v

  value_tells : (v : Var) (n : ℕ) → Fitting v → Meets (value_bound d.spec v) n ↔ (n < type_size d.spec v.ty)
  value_tells v n fits = (below_top (type_size d.spec v.ty) n fits.filled, top_below (type_size d.spec v.ty) n)

  abbrev IsFirst : Var → ℕ → Type 0
  IsFirst v n = MatchOption v.init (n < type_size d.spec v.ty) (λ k. n ≡ k)

  first_tells : (v : Var) (n : ℕ) → Fitting v → Meets (first_bound d.spec v) n ↔ IsFirst v n
  first_tells v n fits = by v.init
    where
      by : (o : Option ℕ) →
          Meets (option_map_or Exactly o (value_bound d.spec v)) n
          ↔ MatchOption o (n < type_size d.spec v.ty) (λ k. n ≡ k)
      by None = value_tells v n fits
      by (Some k) = (λ is. is, λ is. is)

  place_tells : (p k : ℕ) → ⊤ → Meets (AtMost (end_number d p)) k ↔ (k ≤ end_number d p)
  place_tells p k _ = (λ is. is, λ is. is)

  abbrev numbers : List ℕ
  numbers = range_with_len 0 (length d.processes)

  abbrev places : List Bound
  places = map (λ p. AtMost (end_number d p)) numbers

  abbrev values : List Bound
  values = map (value_bound d.spec) d.vars

  abbrev firsts : List Bound
  firsts = map (first_bound d.spec) d.vars

  abbrev starts : List Bound
  starts = replicate (length d.processes) (Exactly 0)

  places_long : length places ≡ length d.processes
  places_long = map_long (λ p. AtMost (end_number d p)) numbers ∙ range_long 0 (length d.processes)

  -- parts of numbers that are told one behind the other
  module _ (vs ps : List Bound) (b : Bound) (v : List ℕ) (first : length vs ≡ length d.vars)
      (second : length ps ≡ length d.processes) where
    many : length (vs ++ ps) ≡ length d.vars + length d.processes
    many = omega (arith, length-append vs ps, first, second)

    abbrev behind : List ℕ
    behind = drop (length d.vars) v

    parted : MeetAll (vs ++ ps ++ b ∷ []) v →
        MeetAll vs v × MeetAll ps behind × Meets b (slice_index v (length d.vars + length d.processes))
    parted all =
        let outer = meet_front (vs ++ ps) (b ∷ []) v all in
        let inner = meet_front vs ps v outer.0 in (
          inner.0,
          subst (λ k. MeetAll ps (drop k v)) first inner.1,
          subst (λ k. Meets b (slice_index v k)) many (met_last b v (length (vs ++ ps)) outer.1),
        )

    joined : length d.vars + length d.processes < length v → MeetAll vs v → MeetAll ps behind →
        Meets b (slice_index v (length d.vars + length d.processes)) → MeetAll (vs ++ ps ++ b ∷ []) v
    joined within these those last =
        meet_both (vs ++ ps) (b ∷ []) v
        (meet_both vs ps v these (subst (λ k. MeetAll ps (drop k v)) (sym first) those))
        (last_met b v (length (vs ++ ps)) (let m = many in omega (arith, m, within))
        (subst (λ k. Meets b (slice_index v k)) (sym many) last))

  module _ (v : List ℕ) (within : first_choice d ≤ length v) where
    enough : length d.vars + length d.processes < length v
    enough = omega (arith, within)

    behind_enough : length d.processes ≤ length (drop (length d.vars) v)
    behind_enough = drop_long v (length d.vars) (length d.processes) (omega (arith, within))

    range_taken : take (length numbers) (drop (length d.vars) v) ≡ take (length d.processes) (drop (length d.vars) v)
    range_taken = ap (λ k. take k (drop (length d.vars) v)) (range_long 0 (length d.processes))

    mover_so : slice_index v (length d.vars + length d.processes) ≤ 1 + length d.processes →
        slice_index v (length d.vars + length d.processes) < 2 + length d.processes
    mover_so within = omega (arith, within)

    so_mover : slice_index v (length d.vars + length d.processes) < 2 + length d.processes →
        slice_index v (length d.vars + length d.processes) ≤ 1 + length d.processes
    so_mover within = omega (arith, within)

    pub valid_tells : MeetAll (valid_bounds d) v ↔ IsState d (state_from d v)
    valid_tells = (
      λ all.
          let parts = parted values places (AtMost (1 + length d.processes)) v (map_long (value_bound d.spec) d.vars)
          places_long all in
          record {
            values = met_zip (value_bound d.spec) Fitting (λ (v : Var) n. n < type_size d.spec v.ty) value_tells d.vars
                v
                has.variables parts.0;
            places = subst (AllZip (λ p k. k ≤ end_number d p) numbers) range_taken
                (met_zip (λ p. AtMost (end_number d p)) (λ p. ⊤) (λ p k. k ≤ end_number d p) place_tells numbers
                (drop (length d.vars) v) (no_premise numbers) parts.1);
            last = mover_so parts.2;
          },
      λ valid.
          joined values places (AtMost (1 + length d.processes)) v (map_long (value_bound d.spec) d.vars) places_long
          enough
          (zip_met (value_bound d.spec) Fitting (λ (v : Var) n. n < type_size d.spec v.ty) value_tells d.vars v
          has.variables valid.values)
          (zip_met (λ p. AtMost (end_number d p)) (λ p. ⊤) (λ p k. k ≤ end_number d p) place_tells numbers
          (drop (length d.vars) v) (no_premise numbers)
          (subst (AllZip (λ p k. k ≤ end_number d p) numbers) (sym range_taken) valid.places))
          (so_mover valid.last),
    )

    pub initial_tells : MeetAll (initial_bounds d) v ↔ IsInitial d (state_from d v)
    initial_tells = (
      λ all.
          let parts = parted firsts starts (Exactly 0) v (map_long (first_bound d.spec) d.vars)
          (replicate_long (length d.processes) (Exactly 0)) all in
          record {
            values = met_zip (first_bound d.spec) Fitting IsFirst first_tells d.vars v has.variables parts.0;
            places = met_starts (length d.processes) (drop (length d.vars) v) parts.1;
            last = parts.2;
          },
      λ initial.
          joined firsts starts (Exactly 0) v (map_long (first_bound d.spec) d.vars)
          (replicate_long (length d.processes) (Exactly 0)) enough
          (zip_met (first_bound d.spec) Fitting IsFirst first_tells d.vars v has.variables initial.values)
          (starts_met (length d.processes) (drop (length d.vars) v) behind_enough initial.places)
          initial.last,
    )

-- ---- the bounds are numbers of the inputs' widths
fit_both : (ws vs : List ℕ) (cs bs : List Bound) → length ws ≡ length cs → FitAll ws cs → FitAll vs bs →
    FitAll (ws ++ vs) (cs ++ bs)
fit_both [] vs [] bs same first second = second
fit_both [] vs (a ∷ cs) bs same first second = absurd first
fit_both (w ∷ ws) vs [] bs same first second = absurd (omega (arith, same))
fit_both (w ∷ ws) vs (a ∷ cs) bs same first second =
    (first.0, fit_both ws vs cs bs (omega (arith, same)) first.1 second)

fit_further : (ws vs : List ℕ) (bs : List Bound) → FitAll ws bs → FitAll (ws ++ vs) bs
fit_further ws vs [] fit = tt
fit_further [] vs (b ∷ bs) fit = absurd fit
fit_further (w ∷ ws) vs (b ∷ bs) fit = (fit.0, fit_further ws vs bs fit.1)

fit_map : {X : Type 0} (width : X → ℕ) (bound : X → Bound) (P : X → Type 0) →
    ((x : X) → P x → bound_number (bound x) < 2 ^ width x) → (xs : List X) → AllByRecursion P xs →
    FitAll (map width xs) (map bound xs)
fit_map width bound P fits [] each = tt
fit_map width bound P fits (x ∷ xs) each = (fits x each.0, fit_map width bound P fits xs each.1)

some_power : (n : ℕ) → 0 < 2 ^ n
some_power zero = omega arith
some_power (suc n) = let rest = some_power n in omega (arith, rest)

fit_starts : (width : ℕ → ℕ) (a n : ℕ) → FitAll (map width (range_with_len a n)) (replicate n (Exactly 0))
fit_starts width a zero = tt
fit_starts width a (suc n) = (some_power (width a), fit_starts width (a + 1) n)

module _ (d : DesignTree) (has : HasValues d) (small : AreSmall d) where
  abbrev var_widths : List ℕ
  var_widths = map (λ (v : Var). type_bits d.spec v.ty) d.vars

  abbrev all_processes : List ℕ
  all_processes = range_with_len 0 (length d.processes)

  abbrev place_widths : List ℕ
  place_widths = map (λ p. bits_of_number (end_number d p)) all_processes

  abbrev who : List ℕ
  who = bits_of_number (1 + length d.processes) ∷ []

  top_fits : (ty : Ty) (n : ℕ) → n < type_size d.spec ty → n < 2 ^ type_bits d.spec ty
  top_fits types.Bool n below = omega arith
  top_fits (types.Uint w) n below = below
  top_fits (types.Enum name) n below =
      let enough : type_size d.spec (types.Enum name) ≤ 2 ^ type_bits d.spec (types.Enum name) =
      type_has_bits d.spec (types.Enum name) (small.enums name) in
      omega arith

  value_fits : (v : Var) → VarFits d.spec v → bound_number (value_bound d.spec v) < 2 ^ type_bits d.spec v.ty
  value_fits v fits = top_fits v.ty (type_size d.spec v.ty - 1) (let some = fits.filled in omega (arith, some))

  first_fits : (v : Var) → VarFits d.spec v → bound_number (first_bound d.spec v) < 2 ^ type_bits d.spec v.ty
  first_fits v fits = by v.init fits.init
    where
      by : (o : Option ℕ) → IfSome o (λ n. n < type_size d.spec v.ty) →
          bound_number (option_map_or Exactly o (value_bound d.spec v)) < 2 ^ type_bits d.spec v.ty
      by None is = value_fits v fits
      by (Some k) is = top_fits v.ty k is

  place_fits : (p : ℕ) → ⊤ → bound_number (AtMost (end_number d p)) < 2 ^ bits_of_number (end_number d p)
  place_fits p _ = number_has_bits (end_number d p) (small.locations p)

  all_fit : (vs ps : List Bound) (b : Bound) → length vs ≡ length d.vars → length ps ≡ length d.processes →
      FitAll var_widths vs → FitAll place_widths ps → bound_number b < 2 ^ bits_of_number (1 + length d.processes) →
      FitAll (input_widths d) (vs ++ ps ++ b ∷ [])
  all_fit vs ps b first second these those last =
      let one : length var_widths ≡ length vs = map_long (λ (v : Var). type_bits d.spec v.ty) d.vars ∙ sym first in
      let two : length place_widths ≡ length ps =
      map_long (λ p. bits_of_number (end_number d p)) all_processes ∙ range_long 0 (length d.processes) ∙ sym second in
      let both : length (var_widths ++ place_widths) ≡ length (vs ++ ps) =
      omega (arith, length-append var_widths place_widths, length-append vs ps, one, two) in
      fit_further (state_widths d ++ replicate room 1) (replicate room 1) (vs ++ ps ++ b ∷ [])
      (fit_further (state_widths d) (replicate room 1) (vs ++ ps ++ b ∷ [])
      (fit_both (var_widths ++ place_widths) who (vs ++ ps) (b ∷ []) both
      (fit_both var_widths place_widths vs ps one these those) (last, tt)))

  pub valid_fit : FitAll (input_widths d) (valid_bounds d)
  valid_fit =
      all_fit (map (value_bound d.spec) d.vars) (map (λ p. AtMost (end_number d p)) all_processes)
      (AtMost (1 + length d.processes)) (map_long (value_bound d.spec) d.vars)
      (map_long (λ p. AtMost (end_number d p)) all_processes ∙ range_long 0 (length d.processes))
      (fit_map (λ (v : Var). type_bits d.spec v.ty) (value_bound d.spec) (VarFits d.spec) value_fits d.vars
      has.variables)
      (fit_map (λ p. bits_of_number (end_number d p)) (λ p. AtMost (end_number d p)) (λ p. ⊤) place_fits all_processes
      (no_premise all_processes))
      (number_has_bits (1 + length d.processes) small.processes)

  pub initial_fit : FitAll (input_widths d) (initial_bounds d)
  initial_fit =
      all_fit (map (first_bound d.spec) d.vars) (replicate (length d.processes) (Exactly 0)) (Exactly 0)
      (map_long (first_bound d.spec) d.vars) (replicate_long (length d.processes) (Exactly 0))
      (fit_map (λ (v : Var). type_bits d.spec v.ty) (first_bound d.spec) (VarFits d.spec) first_fits d.vars
      has.variables)
      (fit_starts (λ p. bits_of_number (end_number d p)) 0 (length d.processes))
      (some_power (bits_of_number (1 + length d.processes)))
