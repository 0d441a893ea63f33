-- Steps put one behind the other.
use Rattle.std.proofs.Common.{◌≡◌, ◌≢◌, ℕ, ◌+◌, ◌<◌, ◌≤◌, Bool, true, false, not, List, [], ◌∷◌, ◌++◌, Some, length, get_or, map, inl, inr, refl, sym, ap, ◌∙◌, subst, arith, append_assoc, length-append}
use mathlib.Core.Bool.{beq}
use Rattle.std.specs.Prelude.{All}
use Rattle.std.proofs.lemmas.Bool.{cases_lt}
use Rattle.std.proofs.lemmas.List.{append-nil, get_or_append_left, get_or-append-add, get_or_default, length-map, map-append}
use Rattle.std.proofs.lemmas.List.Elements.{All-head, All-nil, All-push, All-tail, All-weaker}
use Rattle.tm_dd.specs.Reduced.{Extends}
use Rattle.tm_dd.specs.Table.{Table}
use Rattle.tm_flat.specs.Flat.{FlatTerms}
use Rattle.tm_game_bits.specs.declared.step.StepDiagrams.{StepDiagrams}
use Rattle.tm_game_bits.specs.Diagrams.{KnowsStep, step_of}
use Rattle.tm_game_bits.specs.Functions.{StepFunctions}
use Rattle.tm_game_bits.proofs.Extended.{KnowsStep-Extends, step_of-Extends}
use Rattle.tm_game_steps.specs.declared.places.Place.{Place}
use Rattle.tm_game_steps.specs.Inner.Pushed.{AreProcesses, AreProcessesBelow, AreTaskSteps, MadeFrom, MadeOfTask}
use Rattle.tm_game_steps.specs.Places.{ArePlaces, flag_at}
use Rattle.tm_game_steps.specs.Setting.{Setting}
use Rattle.tm_game_steps.specs.Telling.{AreTasks, HasFrom, IsFrom, IsMovedBy, IsOfTask}

-- truths that are not found to differ
pub same_from_test : (a b : Bool) → not (beq a b) ≡ false → a ≡ b
same_from_test true true h = refl
same_from_test true false h = absurd (cc)
same_from_test false true h = absurd (cc)
same_from_test false false h = refl

-- ---- lists
pub last_of : {X : Type 0} → (xs : List X) (y : X) (i : ℕ) (d : X) → i ≡ length xs → get_or (xs ++ y ∷ []) i d ≡ y
last_of xs y i d is =
    let at : i ≡ length xs + 0 = omega (arith, is) in
    ap (λ k. get_or (xs ++ y ∷ []) k d) at ∙ get_or-append-add xs (y ∷ []) 0 d

module _ (s u : Table) (e : Extends s u) where
  -- steps of known ids do the same when diagrams are added
  pub steps_same : (steps : List StepDiagrams) → All (KnowsStep s) steps → map (step_of u) steps ≡ map (step_of s) steps
  steps_same [] known = refl
  steps_same (step ∷ rest) known =
      let first = step_of-Extends s u e step (All-head (KnowsStep s) step rest known) in
      let others = steps_same rest (All-tail (KnowsStep s) step rest known) in
      λ i. first i ∷ others i

  pub steps_known : (steps : List StepDiagrams) → All (KnowsStep s) steps → All (KnowsStep u) steps
  steps_known steps known =
      All-weaker (KnowsStep s) (KnowsStep u) (λ (step : StepDiagrams) is. KnowsStep-Extends s u e step is) steps known

  -- the functions of known steps, with one more
  pub functions_more : (pushed : List StepDiagrams) (step : StepDiagrams) → All (KnowsStep s) pushed →
      map (step_of u) (pushed ++ step ∷ []) ≡ map (step_of s) pushed ++ step_of u step ∷ []
  functions_more pushed step known =
      map-append (step_of u) pushed (step ∷ []) ∙ (λ i. steps_same pushed known i ++ step_of u step ∷ [])

-- one more behind what was pushed
pushed_more : (old pushed mid new : List StepDiagrams) (step : StepDiagrams) → mid ≡ old ++ pushed →
    new ≡ mid ++ step ∷ [] → new ≡ old ++ (pushed ++ step ∷ [])
pushed_more old pushed mid new step are is =
    is ∙ ap (λ (xs : List StepDiagrams). xs ++ step ∷ []) are ∙ append_assoc old pushed (step ∷ [])

-- ---- tasks
tasks_push : (x : Setting) (f : FlatTerms) (count : ℕ) (ys : List StepFunctions) (y : StepFunctions) →
    AreTasks x f count ys → IsOfTask x f count y → AreTasks x f (count + 1) (ys ++ y ∷ [])
tasks_push x f count ys y are is = record {
  long = omega (arith, length-append ys (y ∷ []), are.long);
  each = each;
}
  where
    each : (n : ℕ) (d : StepFunctions) → n < count + 1 → IsOfTask x f n (get_or (ys ++ y ∷ []) n d)
    each n d below =
        elim (cases_lt n count) as (λ _. IsOfTask x f n (get_or (ys ++ y ∷ []) n d)) [
          | inl before ↦
              subst (IsOfTask x f n) (sym (get_or_append_left ys (y ∷ []) d n (omega (arith, are.long))))
              (are.each n d before)
          | inr behind ↦
              let here : n ≡ count = omega arith in
              subst (IsOfTask x f n) (sym (last_of ys y n d (here ∙ sym are.long)))
              (subst (λ (k : ℕ). IsOfTask x f k y) (sym here) is)
        ]

pub tasks_none : (x : Setting) (f : FlatTerms) (s : Table) (old : List StepDiagrams) → AreTaskSteps x f s old old 0
tasks_none x f s old = record {
  pushed = [];
  are = sym (append-nil old);
  known = All-nil (KnowsStep s);
  from = record { long = refl; each = λ n d below. absurd (omega arith) };
}

pub tasks_more : (x : Setting) (f : FlatTerms) (s u : Table) (old mid new : List StepDiagrams) (count : ℕ)
    (step : StepDiagrams) → Extends s u → AreTaskSteps x f s old mid count → MadeOfTask x f u count step →
    new ≡ mid ++ step ∷ [] → AreTaskSteps x f u old new (count + 1)
tasks_more x f s u old mid new count step e are made is = record {
  pushed = are.pushed ++ step ∷ [];
  are = pushed_more old are.pushed mid new step are.are is;
  known = All-push (KnowsStep u) are.pushed step (steps_known s u e are.pushed are.known) made.known;
  from = subst (AreTasks x f (count + 1)) (sym (functions_more s u e are.pushed step are.known))
      (tasks_push x f count (map (step_of s) are.pushed) (step_of u step) are.from made.is);
}

-- ---- processes
-- a step that is in a list is in a longer one
has_earlier : (x : Setting) (f : FlatTerms) (magic : Bool) (p k : ℕ) (steps : List StepFunctions) (movers : List ℕ)
    (y : StepFunctions) (m : ℕ) → length movers ≡ length steps → HasFrom x f magic p k steps movers →
    HasFrom x f magic p k (steps ++ y ∷ []) (movers ++ m ∷ [])
has_earlier x f magic p k steps movers y m long has = record {
  index = has.index;
  below = omega (arith, has.below, length-append steps (y ∷ []));
  mover = get_or_append_left movers (m ∷ []) 0 has.index (omega (arith, has.below)) ∙ has.mover;
  is = λ d.
      subst (IsFrom x f magic p k) (sym (get_or_append_left steps (y ∷ []) d has.index has.below)) (has.is d);
}

-- the last step of a list is in it
has_last : (x : Setting) (f : FlatTerms) (magic : Bool) (p k : ℕ) (steps : List StepFunctions) (movers : List ℕ)
    (y : StepFunctions) → length movers ≡ length steps → IsFrom x f magic p k y →
    HasFrom x f magic p k (steps ++ y ∷ []) (movers ++ p ∷ [])
has_last x f magic p k steps movers y long is = record {
  index = length steps;
  below = omega (arith, length-append steps (y ∷ []));
  mover = last_of movers p (length steps) 0 (sym long);
  is = λ d. subst (IsFrom x f magic p k) (sym (last_of steps y (length steps) d refl)) is;
}

pub processes_none : (x : Setting) (f : FlatTerms) (magic : Bool) (places : List Place) (s : Table)
    (old : List StepDiagrams) → AreProcessesBelow x f magic places 0 s old old []
processes_none x f magic places s old = record {
  pushed = [];
  are = sym (append-nil old);
  known = All-nil (KnowsStep s);
  long = refl;
  each = λ i d below. absurd (omega arith);
  all = λ i d below. absurd (omega arith);
}

module _ (x : Setting) (f : FlatTerms) (magic : Bool) (places : List Place) (index : ℕ) (place : Place)
    (inside : index < length places) (here : place ≡ get_or places index place) (s : Table)
    (old mid : List StepDiagrams)
    (movers : List ℕ) (below : AreProcessesBelow x f magic places index s old mid movers) where
  -- the place at the index, whatever stands past the end
  place_is : (d : Place) → get_or places index d ≡ place
  place_is d = get_or_default places index d place inside ∙ sym here

  -- a place of the other sort
  pub processes_skip : place.magic ≢ magic → AreProcessesBelow x f magic places (index + 1) s old mid movers
  processes_skip other = record {
    pushed = below.pushed;
    are = below.are;
    known = below.known;
    long = below.long;
    each = below.each;
    all = all;
  }
    where
      all : (i : ℕ) (d : Place) → i < index + 1 → (get_or places i d).magic ≡ magic →
          HasFrom x f magic (get_or places i d).process (get_or places i d).location (map (step_of s) below.pushed)
          movers
      all i d low is =
          elim (cases_lt i index)
          as (λ _. HasFrom x f magic (get_or places i d).process (get_or places i d).location
          (map (step_of s) below.pushed) movers) [
            | inl before ↦ below.all i d before is
            | inr behind ↦
                let at : i ≡ index = omega arith in
                let same : get_or places i d ≡ place = ap (λ k. get_or places k d) at ∙ place_is d in
                absurd (other (ap (λ (p : Place). p.magic) (sym same) ∙ is))
          ]

  module _ (u : Table) (step : StepDiagrams) (e : Extends s u) (sort : place.magic ≡ magic)
      (made : MadeFrom x f u place step) where
    -- the functions of what was pushed
    ys : List StepFunctions
    ys = map (step_of s) below.pushed

    from : IsFrom x f magic place.process place.location (step_of u step)
    from = subst (λ (b : Bool). IsFrom x f b place.process place.location (step_of u step)) sort made.is

    each : (i : ℕ) (d : StepFunctions) → i < length (below.pushed ++ step ∷ []) →
        IsMovedBy x f magic (get_or (movers ++ place.process ∷ []) i 0)
        (get_or (map (step_of s) below.pushed ++ step_of u step ∷ []) i d)
    each i d low =
        let long = length-map below.pushed (step_of s) in
        elim (cases_lt i (length below.pushed))
        as (λ _. IsMovedBy x f magic (get_or (movers ++ place.process ∷ []) i 0)
        (get_or (map (step_of s) below.pushed ++ step_of u step ∷ []) i d)) [
          | inl before ↦
              subst (λ (p : ℕ).
              IsMovedBy x f magic p (get_or (map (step_of s) below.pushed ++ step_of u step ∷ []) i d))
              (sym (get_or_append_left movers (place.process ∷ []) 0 i (omega (arith, below.long))))
              (subst (IsMovedBy x f magic (get_or movers i 0))
              (sym (get_or_append_left (map (step_of s) below.pushed) (step_of u step ∷ []) d i (omega (arith, long))))
              (below.each i d before))
          | inr behind ↦
              let at : i ≡ length below.pushed = omega (arith, length-append below.pushed (step ∷ [])) in
              subst (λ (p : ℕ).
              IsMovedBy x f magic p (get_or (map (step_of s) below.pushed ++ step_of u step ∷ []) i d))
              (sym (last_of movers place.process i 0 (at ∙ sym below.long)))
              (subst (IsMovedBy x f magic place.process)
              (sym (last_of (map (step_of s) below.pushed) (step_of u step) i d (at ∙ sym long)))
              (place.location, from))
        ]

    all : (i : ℕ) (d : Place) → i < index + 1 → (get_or places i d).magic ≡ magic →
        HasFrom x f magic (get_or places i d).process (get_or places i d).location
        (map (step_of s) below.pushed ++ step_of u step ∷ []) (movers ++ place.process ∷ [])
    all i d low is =
        let long : length movers ≡ length (map (step_of s) below.pushed) =
        below.long ∙ sym (length-map below.pushed (step_of s)) in
        elim (cases_lt i index)
        as (λ _. HasFrom x f magic (get_or places i d).process (get_or places i d).location
        (map (step_of s) below.pushed ++ step_of u step ∷ []) (movers ++ place.process ∷ [])) [
          | inl before ↦
              has_earlier x f magic (get_or places i d).process (get_or places i d).location
              (map (step_of s) below.pushed) movers (step_of u step) place.process long (below.all i d before is)
          | inr behind ↦
              let at : i ≡ index = omega arith in
              let same : get_or places i d ≡ place = ap (λ k. get_or places k d) at ∙ place_is d in
              subst (λ (p : Place).
              HasFrom x f magic p.process p.location (map (step_of s) below.pushed ++ step_of u step ∷ [])
              (movers ++ place.process ∷ [])) (sym same)
              (has_last x f magic place.process place.location (map (step_of s) below.pushed) movers (step_of u step)
              long from)
        ]

    -- a place of the sort
    pub processes_more : (new : List StepDiagrams) (nexts : List ℕ) → new ≡ mid ++ step ∷ [] →
        nexts ≡ movers ++ place.process ∷ [] → AreProcessesBelow x f magic places (index + 1) u old new nexts
    processes_more new nexts is next_is =
        let functions = functions_more s u e below.pushed step below.known in
        subst (λ (ms : List ℕ). AreProcessesBelow x f magic places (index + 1) u old new ms) (sym next_is) (record {
          pushed = below.pushed ++ step ∷ [];
          are = pushed_more old below.pushed mid new step below.are is;
          known = All-push (KnowsStep u) below.pushed step (steps_known s u e below.pushed below.known) made.known;
          long = omega
              (arith, below.long, length-append movers (place.process ∷ []), length-append below.pushed (step ∷ []));
          each = λ i d low.
              subst (λ (fs : List StepFunctions).
              IsMovedBy x f magic (get_or (movers ++ place.process ∷ []) i 0) (get_or fs i d)) (sym functions)
              (each i d low);
          all = λ i d low sorted.
              subst (λ (fs : List StepFunctions).
              HasFrom x f magic (get_or places i d).process (get_or places i d).location fs
              (movers ++ place.process ∷ [])) (sym functions) (all i d low sorted);
        })

-- all places
pub processes_all : (x : Setting) (f : FlatTerms) (magic : Bool) (places : List Place) (count : ℕ) (s : Table)
    (old new : List StepDiagrams) (movers : List ℕ) → length places ≤ count →
    ArePlaces x.terms f.magic x.first places → AreProcessesBelow x f magic places count s old new movers →
    AreProcesses x f magic s old new movers
processes_all x f magic places count s old new movers end are below = record {
  pushed = below.pushed;
  are = below.are;
  known = below.known;
  from = record {
    long = below.long ∙ sym (length-map below.pushed (step_of s));
    each = λ i d low. below.each i d (omega (arith, length-map below.pushed (step_of s)));
    all = all;
  };
}
  where
    all : (p k : ℕ) → flag_at f.magic p k ≡ Some magic → HasFrom x f magic p k (map (step_of s) below.pushed) movers
    all p k there =
        let found = are.all p k magic there in
        let at = found.4 in
        let sort : (get_or places found.0 found.1).magic ≡ magic =
        ap (λ (place : Place). place.magic) found.3 ∙ at.block in
        let of_process : (get_or places found.0 found.1).process ≡ p =
        ap (λ (place : Place). place.process) found.3 ∙ at.process in
        let of_location : (get_or places found.0 found.1).location ≡ k =
        ap (λ (place : Place). place.location) found.3 ∙ at.location in
        subst (λ (q : ℕ). HasFrom x f magic q k (map (step_of s) below.pushed) movers) of_process
        (subst (λ (l : ℕ).
        HasFrom x f magic (get_or places found.0 found.1).process l (map (step_of s) below.pushed) movers) of_location
        (below.all found.0 found.1 (omega (arith, found.2)) sort))
