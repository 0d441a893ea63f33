-- Which input tells what.
use Rattle.std.proofs.Common.{◌≡◌, ℕ, ◌+◌, ◌<◌, ◌≤◌, ◌++◌, List, [], ◌∷◌, length, refl, sym, ap, ◌∙◌, subst, take, drop, get_or, arith, length-append, append_assoc, get_or-append-add}
use Rattle.std.specs.List.{range_with_len}
use Rattle.std.proofs.lemmas.List.{get_or_append_left, take-append-le, drop-append-le}
use Rattle.std.proofs.lemmas.List.FromFn.{length-range_with_len}
use Rattle.std.proofs.lemmas.Slice.Zip.{AllZip-long}
use Rattle.std.proofs.Math.Seq.{get_or-append_seam, take-append_seam}
use Rattle.tm_syntax.specs.declared.design.Var.{Var}
use Rattle.tm_syntax.specs.Design.{DesignTree}
use Rattle.tm_syntax.specs.Design.Locations.{end_number}
use Rattle.tm_syntax.specs.Design.Sizes.{type_size}
use Rattle.tm_sem.specs.State.{StateData}
use Rattle.tm_sem.specs.StateBits.{state_numbers}
use Rattle.tm_sem.specs.Step.{IsState}
use Rattle.tm_flat.specs.Inputs.{room, AreBits, input_values, first_choice, AreInOrder}

drop_seam : (xs ys : List ℕ) → drop (length xs) (xs ++ ys) ≡ ys
drop_seam [] ys = refl
drop_seam (x ∷ xs) ys = drop_seam xs ys

module _ (values places choices arguments : List ℕ) (last : ℕ) where
  -- the numbers of a state
  abbrev state : List ℕ
  state = values ++ (places ++ last ∷ [])

  -- all inputs
  abbrev whole : List ℕ
  whole = state ++ (choices ++ arguments)

  count : length state ≡ length values + (length places + 1)
  count =
      let all : length (values ++ (places ++ last ∷ [])) ≡ length values + (length places + 1) =
      omega (arith, length-append values (places ++ last ∷ []), length-append places (last ∷ [])) in
      all

  behind_values : (i : ℕ) → i < length places + 1 →
      get_or whole (length values + i) 0 ≡ get_or (places ++ last ∷ []) i 0
  behind_values i below =
      get_or_append_left state (choices ++ arguments) 0 (length values + i) (omega (arith, count))
      ∙ get_or-append-add values (places ++ last ∷ []) i 0

  value_there : (v : ℕ) → v < length values → get_or whole v 0 ≡ get_or values v 0
  value_there v below =
      get_or_append_left state (choices ++ arguments) 0 v (omega (arith, count))
      ∙ get_or_append_left values (places ++ last ∷ []) 0 v below

  place_there : (p : ℕ) → p < length places → get_or whole (length values + p) 0 ≡ get_or places p 0
  place_there p below = behind_values p (omega arith) ∙ get_or_append_left places (last ∷ []) 0 p below

  last_there : get_or whole (length values + length places) 0 ≡ last
  last_there = behind_values (length places) (omega arith) ∙ get_or-append_seam places last [] 0

  choice_there : (k : ℕ) → k < length choices → get_or whole (length state + k) 0 ≡ get_or choices k 0
  choice_there k below =
      get_or-append-add state (choices ++ arguments) k 0 ∙ get_or_append_left choices arguments 0 k below

  argument_there : (k : ℕ) → get_or whole (length state + (length choices + k)) 0 ≡ get_or arguments k 0
  argument_there k =
      get_or-append-add state (choices ++ arguments) (length choices + k) 0 ∙ get_or-append-add choices arguments k 0

  values_told : take (length values) whole ≡ values
  values_told =
      take-append-le (length values) state (choices ++ arguments) (omega (arith, count))
      ∙ take-append_seam values (places ++ last ∷ [])

  places_told : take (length places) (drop (length values) whole) ≡ places
  places_told =
      ap (take (length places))
      (drop-append-le (length values) state (choices ++ arguments) (omega (arith, count))
      ∙ ap (λ l. l ++ (choices ++ arguments)) (drop_seam values (places ++ last ∷ [])))
      ∙ take-append-le (length places) (places ++ last ∷ []) (choices ++ arguments)
      (omega (arith, length-append places (last ∷ [])))
      ∙ take-append_seam places (last ∷ [])

ordered : (d : DesignTree) (s : StateData) (choices arguments : List ℕ) → length s.values ≡ length d.vars →
    length s.places ≡ length d.processes → length choices ≡ room →
    AreInOrder d s choices arguments ((s.values ++ (s.places ++ s.last ∷ [])) ++ (choices ++ arguments))
ordered d s choices arguments vars processes bits = record {
  variables = λ v below. value_there s.values s.places choices arguments s.last v (omega arith);
  places = λ p below.
      ap (λ n. get_or ((s.values ++ (s.places ++ s.last ∷ [])) ++ (choices ++ arguments)) (n + p) 0) (sym vars)
      ∙ place_there s.values s.places choices arguments s.last p (omega arith);
  last = (λ i. get_or ((s.values ++ (s.places ++ s.last ∷ [])) ++ (choices ++ arguments))
      (sym vars i + sym processes i) 0)
      ∙ last_there s.values s.places choices arguments s.last;
  choice = λ k below.
      ap (λ n. get_or ((s.values ++ (s.places ++ s.last ∷ [])) ++ (choices ++ arguments)) (n + k) 0) (sym numbers)
      ∙ choice_there s.values s.places choices arguments s.last k (omega arith);
  argument = λ k.
      (λ i. get_or ((s.values ++ (s.places ++ s.last ∷ [])) ++ (choices ++ arguments))
      (sym numbers i + (sym bits i + k)) 0)
      ∙ argument_there s.values s.places choices arguments s.last k;
  state = λ i. record { values = told.0 i; places = told.1 i; last = told.2 i };
}
  where
    numbers : length (s.values ++ (s.places ++ s.last ∷ [])) ≡ first_choice d
    numbers = count s.values s.places choices arguments s.last ∙ (λ i. vars i + (processes i + 1))

    told : (take (length d.vars) ((s.values ++ (s.places ++ s.last ∷ [])) ++ (choices ++ arguments)) ≡ s.values)
        × (take (length d.processes)
        (drop (length d.vars) ((s.values ++ (s.places ++ s.last ∷ [])) ++ (choices ++ arguments))) ≡ s.places)
        × (get_or ((s.values ++ (s.places ++ s.last ∷ [])) ++ (choices ++ arguments))
        (length d.vars + length d.processes) 0 ≡ s.last)
    told = (
      ap (λ n. take n ((s.values ++ (s.places ++ s.last ∷ [])) ++ (choices ++ arguments))) (sym vars)
          ∙ values_told s.values s.places choices arguments s.last,
      (λ i. take (sym processes i)
          (drop (sym vars i) ((s.values ++ (s.places ++ s.last ∷ [])) ++ (choices ++ arguments))))
          ∙ places_told s.values s.places choices arguments s.last,
      (λ i. get_or ((s.values ++ (s.places ++ s.last ∷ [])) ++ (choices ++ arguments))
          (sym vars i + sym processes i) 0)
          ∙ last_there s.values s.places choices arguments s.last,
    )

pub are_in_order : (d : DesignTree) (s : StateData) (choices arguments : List ℕ) → IsState d s → AreBits choices →
    AreInOrder d s choices arguments (input_values s choices arguments)
are_in_order d s choices arguments valid bits =
    let vars : length s.values ≡ length d.vars =
    AllZip-long (λ (v : Var) n. n < type_size d.spec v.ty) d.vars s.values valid.values in
    let processes : length s.places ≡ length d.processes =
    AllZip-long (λ p k. k ≤ end_number d p) (range_with_len 0 (length d.processes)) s.places valid.places
    ∙ length-range_with_len 0 (length d.processes) in
    let whole : input_values s choices arguments
    ≡ (s.values ++ (s.places ++ s.last ∷ [])) ++ (choices ++ arguments) =
    append_assoc (state_numbers s) choices arguments
    ∙ ap (λ l. l ++ (choices ++ arguments)) (append_assoc s.values s.places (s.last ∷ [])) in
    subst (AreInOrder d s choices arguments) (sym whole) (ordered d s choices arguments vars processes bits.count)
