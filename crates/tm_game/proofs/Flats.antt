-- What the guarded updates of a design have for the making of a game.
use Rattle.std.proofs.Common.{◌≡◌, ℕ, ◌+◌, ◌^◌, ◌<◌, ◌≤◌, Bool, List, [], ◌∷◌, ◌++◌, Some, length, get_or, map, replicate, sym, ap, ◌∙◌, subst, arith}
use Rattle.std.specs.Prelude.{All, slice_get}
use Rattle.std.specs.List.{AllZip, range_with_len}
use Rattle.std.specs.Option.{option_and_then}
use Rattle.std.proofs.lemmas.List.{get_or_append_left, get_or-append-add, get_or_at, length-append, length-map}
use Rattle.std.proofs.lemmas.List.FromFn.{get_or-map-range_with_len, get_or-range_with_len, length-map-range_with_len, length-range_with_len}
use Rattle.std.proofs.lemmas.Option.{get_or_from_slice_get, slice_get_within}
use Rattle.std.proofs.lemmas.Slice.Zip.{AllZip-long}
use Rattle.tm_game_steps.specs.Changes.{AreNext}
use Rattle.tm_flat.specs.Flat.{FlatTerms, StepTerms}
use Rattle.tm_flat.specs.Inputs.{room, AreSmall, input_widths}
use Rattle.tm_flat.specs.IsFlat.{IsFairTerm, IsFlat, IsGoalTerm, location_numbers, process_numbers}
use Rattle.tm_flat.specs.Steps.{AreTerms, IsProcessStep, IsTaskStep, IsTerm}
use Rattle.tm_flat.proofs.Indices.{zipped_at}
use Rattle.tm_flat.proofs.Widths.{number_has_bits}
use Rattle.tm_game.proofs.Shapes.{length-state_widths}
use Rattle.tm_game_steps.specs.Places.{flag_at}
use Rattle.tm_game_steps.specs.Setting.{AreNumbers, Setting}
use Rattle.tm_game_steps.specs.Telling.{AreStepTerms, HasStep, HasTerms}
use Rattle.tm_sem.specs.Fairness.{conditions}
use Rattle.tm_sem.specs.StateBits.{state_widths}
use Rattle.tm_syntax.specs.declared.design.Var.{Var}
use Rattle.tm_syntax.specs.Design.{DesignTree}
use Rattle.tm_syntax.specs.Design.Locations.{end_number}
use Rattle.tm_syntax.specs.Design.Sizes.{bits_of_number, type_bits}
use Rattle.tm_term.specs.declared.term.TermId.{TermId}
use Rattle.tm_term.specs.Table.{IsKnown, width_of}
use Rattle.tm_game_bits.proofs.Tables.{magic_is}

-- what holds of each of two lists that go along holds of the second
all_second : {X Y : Type 0} → (R : X → Y → Type 0) (P : Y → Type 0) (xs : List X) (ys : List Y) → AllZip R xs ys →
    ((x : X) (y : Y) → R x y → P y) → All P ys
all_second R P xs ys all to i d below =
    let found = zipped_at R xs ys all i (omega (arith, AllZip-long R xs ys all)) in
    subst P (sym (get_or_from_slice_get ys i found.1 d found.3)) (to found.0 found.1 found.4)

-- the numbers of a range, by place
pub number_at : (n k m : ℕ) → slice_get (range_with_len 0 n) k ≡ Some m → m ≡ k
number_at n k m at =
    let below = slice_get_within (range_with_len 0 n) k m at in
    let same : 0 + k ≡ k = omega arith in
    sym (get_or_from_slice_get (range_with_len 0 n) k m 0 at)
    ∙ get_or-range_with_len 0 n k 0 (omega (arith, length-range_with_len 0 n))
    ∙ same

module _ (x : Setting) (f : FlatTerms) (d : DesignTree) (flat : IsFlat x.terms d f)
    (count : length (state_widths d) ≡ x.numbers) where
  next_are : (next : List TermId) → AllZip (IsTerm x.terms) (state_widths d) next → AreNumbers x next
  next_are next all = record { next = each; long = AllZip-long (IsTerm x.terms) (state_widths d) next all ∙ count }
    where
      each : AreNext x.terms next
      each i e below =
          let long = AllZip-long (IsTerm x.terms) (state_widths d) next all in
          let found = zipped_at (IsTerm x.terms) (state_widths d) next all i (omega (arith, long)) in
          let same = get_or_from_slice_get next i found.1 e found.3 in
          let width : get_or x.terms.inputs i 0 ≡ found.0 =
          ap (λ ws. get_or ws i 0) flat.inputs
          ∙ get_or_append_left (state_widths d ++ replicate room 1) (replicate room 1) 0 i
          (omega (arith, long, length-append (state_widths d) (replicate room 1)))
          ∙ get_or_append_left (state_widths d) (replicate room 1) 0 i (omega (arith, long))
          ∙ get_or_from_slice_get (state_widths d) i found.0 0 found.2 in
          subst (λ (id : TermId). IsKnown x.terms id × (width_of x.terms id ≡ get_or x.terms.inputs i 0)) (sym same)
          (found.4.0, found.4.1 ∙ sym width)

  step_terms_are : (terms : StepTerms) → AreTerms x.terms d terms → AreStepTerms x terms
  step_terms_are terms are = record { legal = are.legal; error = are.error; next = next_are terms.next are.next }

  has_step : (p k : ℕ) (magic : Bool) → flag_at f.magic p k ≡ Some magic → HasStep x f p k
  has_step p k magic there =
      let at = magic_is x.terms d f flat p k magic there in
      let row = zipped_at (λ q steps. AllZip (IsProcessStep x.terms d q) (location_numbers d q) steps)
      (process_numbers d) f.processes flat.processes p
      (omega (arith, at.inside, length-range_with_len 0 (length d.processes))) in
      let this = number_at (length d.processes) p row.0 row.2 in
      let cell = zipped_at (IsProcessStep x.terms d row.0) (location_numbers d row.0) row.1 row.4 k
      (omega
      (arith, at.within, length-range_with_len 0 (end_number d row.0 + 1), ap (end_number d) this)) in
      record {
        terms = cell.1;
        there = ap (λ o. option_and_then (λ (ts : List StepTerms). slice_get ts k) o) row.3 ∙ cell.3;
        are = step_terms_are cell.1 cell.4.terms;
      }

  pub has_terms : HasTerms x f
  has_terms = record {
    processes = has_step;
    tasks = all_second (IsTaskStep x.terms d) (AreStepTerms x) (range_with_len 0 (length d.tasks)) f.tasks flat.tasks
        (λ n step is. step_terms_are step is.terms);
    goals = all_second (IsGoalTerm x.terms d) (IsTerm x.terms 1) (range_with_len 0 (length d.goals)) f.goals flat.goals
        (λ n id is. is.term);
    fairs = all_second (IsFairTerm x.terms d) (IsTerm x.terms 1) (range_with_len 0 (length (conditions d))) f.fairs
        flat.fairs (λ n id is. is.term);
    initial = flat.initial.term;
    valid = flat.valid.term;
  }

-- ---- widths
module _ (d : DesignTree) (small : AreSmall d) where
  -- the width of the location of a process
  pub place_width : (p : ℕ) → p < length d.processes →
      get_or (input_widths d) (length d.vars + p) 0 ≡ bits_of_number (end_number d p)
  place_width p inside =
      let all = length-state_widths d in
      let long : length (map (λ (v : Var). type_bits d.spec v.ty) d.vars) ≡ length d.vars =
      length-map d.vars (λ (v : Var). type_bits d.spec v.ty) in
      get_or_append_left (state_widths d ++ replicate room 1) (replicate room 1) 0 (length d.vars + p)
      (omega (arith, all, length-append (state_widths d) (replicate room 1)))
      ∙ get_or_append_left (state_widths d) (replicate room 1) 0 (length d.vars + p) (omega (arith, all))
      ∙ get_or_append_left
      (map (λ (v : Var). type_bits d.spec v.ty) d.vars
      ++ map (λ q. bits_of_number (end_number d q)) (range_with_len 0 (length d.processes)))
      (bits_of_number (1 + length d.processes) ∷ []) 0 (length d.vars + p)
      (omega (
        arith,
        long,
        length-append (map (λ (v : Var). type_bits d.spec v.ty) d.vars)
            (map (λ q. bits_of_number (end_number d q)) (range_with_len 0 (length d.processes))),
        length-map-range_with_len (λ q. bits_of_number (end_number d q)) 0 (length d.processes),
      ))
      ∙ ap (λ n. get_or
      (map (λ (v : Var). type_bits d.spec v.ty) d.vars
      ++ map (λ q. bits_of_number (end_number d q)) (range_with_len 0 (length d.processes))) (n + p) 0) (sym long)
      ∙ get_or-append-add (map (λ (v : Var). type_bits d.spec v.ty) d.vars)
      (map (λ q. bits_of_number (end_number d q)) (range_with_len 0 (length d.processes))) p 0
      ∙ get_or-map-range_with_len (λ q. bits_of_number (end_number d q)) 0 (length d.processes) p p 0 inside
      (omega arith)

  -- a location of a process is written in its width
  pub place_fits : (p k : ℕ) → p < length d.processes → k ≤ end_number d p →
      k < 2 ^ get_or (input_widths d) (length d.vars + p) 0
  place_fits p k inside within =
      let below : end_number d p < 2 ^ bits_of_number (end_number d p) =
      number_has_bits (end_number d p) (small.locations p) in
      let fits : k < 2 ^ bits_of_number (end_number d p) = omega arith in
      subst (λ (w : ℕ). k < 2 ^ w) (sym (place_width p inside)) fits

  -- the width of who moved last
  last_width : get_or (input_widths d) (length d.vars + length d.processes) 0 ≡ bits_of_number (1 + length d.processes)
  last_width =
      let all = length-state_widths d in
      get_or_append_left (state_widths d ++ replicate room 1) (replicate room 1) 0
      (length d.vars + length d.processes) (omega (arith, all, length-append (state_widths d) (replicate room 1)))
      ∙ get_or_append_left (state_widths d) (replicate room 1) 0 (length d.vars + length d.processes)
      (omega (arith, all))
      ∙ get_or_at
      (map (λ (v : Var). type_bits d.spec v.ty) d.vars
      ++ map (λ q. bits_of_number (end_number d q)) (range_with_len 0 (length d.processes)))
      (bits_of_number (1 + length d.processes)) [] 0 (length d.vars + length d.processes)
      (omega (
        arith,
        length-map d.vars (λ (v : Var). type_bits d.spec v.ty),
        length-append (map (λ (v : Var). type_bits d.spec v.ty) d.vars)
            (map (λ q. bits_of_number (end_number d q)) (range_with_len 0 (length d.processes))),
        length-map-range_with_len (λ q. bits_of_number (end_number d q)) 0 (length d.processes),
      ))

  -- whoever moves last is written in its width
  pub last_fits : (last : ℕ) → last ≤ 1 + length d.processes →
      last < 2 ^ get_or (input_widths d) (length d.vars + length d.processes) 0
  last_fits last within =
      let below : 1 + length d.processes < 2 ^ bits_of_number (1 + length d.processes) =
      number_has_bits (1 + length d.processes) small.processes in
      let fits : last < 2 ^ bits_of_number (1 + length d.processes) = omega arith in
      subst (λ (w : ℕ). last < 2 ^ w) (sym last_width) fits
