-- The step of a process from a location.
use Rattle.std.proofs.Common.{◌≡◌, ℕ, zero, suc, ◌+◌, ◌<◌, ◌≤◌, Bool, true, false, Option, None, Some, Result, Ok, Err, List, length, take, drop, slice_get, slice_index, slice_set, refl, sym, ap, ◌∙◌, subst, arith}
use Rattle.std.specs.Prelude.{◌&&◌, IfOk, nat_lt, not, unwrap_or, if◌then◌else◌}
use Rattle.std.specs.Bool.{then_some}
use Rattle.std.specs.Option.{option_map_or}
use Rattle.std.proofs.lemmas.Bool.Decides.{nat_tests}
use Rattle.std.proofs.lemmas.Option.{slice_get_past}
use Rattle.tm_syntax.specs.Design.{DesignTree}
use Rattle.tm_syntax.specs.Design.Locations.{Location, end_number, is_magic_at, location_number, locations, rest}
use Rattle.tm_term.specs.Table.{Table}
use Rattle.tm_term.specs.Value.{AreInputs, Extends}
use Rattle.tm_term.proofs.Valued.{Extends-trans}
use Rattle.tm_sem.specs.declared.state.Move.{Move}
use Rattle.tm_sem.specs.declared.state.Move.TheVariants.{Leave, Process}
use Rattle.tm_sem.specs.declared.state.Outcome.{Outcome}
use Rattle.tm_sem.specs.declared.state.Outcome.TheVariants.{Next, Error, NoOutcome}
use Rattle.tm_sem.specs.Run.{Ending, stopped, finished, failed, blocked}
use Rattle.tm_sem.specs.State.{StateData}
use Rattle.tm_sem.specs.Step.{IsState, Work, memory_of, outcome_of, stands_at_magic, work}
use Rattle.tm_sem.specs.Value.{plain_memory}
use Rattle.tm_flat.specs.declared.flat.FlatStep.{FlatStep}
use Rattle.tm_flat.specs.BitRun.{items_ending}
use Rattle.tm_flat.specs.Fitting.{ItemsFit}
use Rattle.tm_flat.specs.Flat.{step_terms}
use Rattle.tm_flat.specs.Inputs.{AreBits, AreInOrder, first_choice, input_values, input_widths, room}
use Rattle.tm_flat.specs.Steps.{IsProcessStep, Tells, move_from, told_outcome}
use Rattle.tm_flat.specs.Writes.{items_write}
use Rattle.tm_flat.proofs.InOrder.{are_in_order}
use Rattle.tm_flat.proofs.Ranges.{are_inputs}
use Rattle.tm_flat_stmts.specs.Flows.{has_failed}
use Rattle.tm_flat_stmts.specs.Choices.{choice_bit}
use Rattle.tm_flat_bodies.specs.declared.course.Course.{Course}
use Rattle.tm_flat_bodies.specs.Walks.{WalkTables}
use Rattle.tm_flat_moves.specs.Arrived.{arrival}
use Rattle.tm_flat_moves.specs.Ended.{MakesNowhere}
use Rattle.tm_flat_moves.specs.Made.{MakesStep}
use Rattle.tm_flat_moves.specs.Movable.{IsMovable}
use Rattle.tm_flat_moves.specs.Next.{Finishes, arrival_outcome}
use Rattle.tm_flat_moves.specs.Run.{HasRun, memory_in, runs_from}
use Rattle.tm_flat_moves.proofs.Finishing.{nowhere_inputs, nowhere_leaves, nowhere_terms, nowhere_told}
use Rattle.tm_flat_moves.proofs.Told.{tells_none, tells_work}

less : (a b : ℕ) → a < b → nat_lt a b ≡ true
less a b below = grind (arith, nat_tests)

not_less : (a b : ℕ) → b ≤ a → nat_lt a b ≡ false
not_less a b above = grind (arith, nat_tests)

module _ (d : DesignTree) (p : ℕ) (inside : p < length d.processes) (s : StateData) (place : ℕ)
    (at : slice_index s.places p ≡ place) where
  -- what a process has to do from where it stands
  abbrev does : ℕ → Work
  does last = record { items = rest d p (slice_index s.places p); memory = memory_of s; mover = Some p; last = last }

  stands : (b : Bool) → is_magic_at d p place ≡ b → stands_at_magic d s p ≡ b
  stands b is = ap (is_magic_at d p) at ∙ is

  move_works : place < end_number d p → (b : Bool) → is_magic_at d p place ≡ b →
      work d s (if b then Leave p else Process p) ≡ Some (does (if b then 1 else 2 + p))
  move_works below true is = λ i. then_some (less p (length d.processes) inside i && stands true is i) (does 1)
  move_works below false is = λ i.
      then_some
      (less p (length d.processes) inside i
      && less (slice_index s.places p) (end_number d p) (omega (arith, at, below)) i
      && not (stands false is i))
      (does (2 + p))

  pub move_is : place < end_number d p → (last : ℕ) → last ≡ (if is_magic_at d p place then 1 else 2 + p) →
      work d s (move_from d p place) ≡ Some (does last)
  move_is below last is =
      move_works below (is_magic_at d p place) refl ∙ ap (λ n. Some (does n)) (sym is)

  -- it has nothing to do at its end
  no_location : (ls : List Location) → option_map_or (λ (l : Location). l.is_magic) (slice_get ls (length ls)) false
      ≡ false
  no_location ls =
      ap (λ o. option_map_or (λ (l : Location). l.is_magic) o false)
      (slice_get_past ls (length ls) (let same : length ls ≤ length ls = omega arith in same))

  no_magic : place ≡ end_number d p → is_magic_at d p place ≡ false
  no_magic is =
      let last : place ≡ suc (length (locations d p)) = omega (arith, is) in
      ap (is_magic_at d p) last ∙ no_location (locations d p)

  pub no_move : place ≡ end_number d p → work d s (move_from d p place) ≡ None
  no_move is =
      ap (λ b. work d s (if b then Leave p else Process p)) (no_magic is)
      ∙ (λ i. then_some
      (less p (length d.processes) inside i
      && not_less (slice_index s.places p) (end_number d p) (omega (arith, at, is)) i
      && not (stands false (no_magic is) i))
      (does (2 + p)))

-- ---- the step
module _ (w : WalkTables) (d : DesignTree) (p place : ℕ) (t n : Table) (movable : IsMovable w d p t)
    (inside : p < length d.processes) (step : FlatStep) where
  -- from a location before the end
  module _ (below : place < end_number d p) (last : ℕ)
      (last_is : last ≡ (if is_magic_at d p place then 1 else 2 + p)) (course : Course)
      (ran : HasRun w d p (runs_from d p place) (λ i. items_write d i (rest d p place) 0) t course)
      (made : MakesStep course.terms n (Finishes w.tables course.terms n d course.ends (Some p) last) step) where
    inputs : n.inputs ≡ input_widths d
    inputs = made.grown.inputs ∙ ran.grown.inputs ∙ movable.inputs

    module _ (s : StateData) (arguments : List ℕ) (valid : IsState d s) (at : slice_index s.places p ≡ place)
        (are : AreBits arguments) (bits : List ℕ) (chosen : AreBits bits) where
      abbrev v : List ℕ
      v = input_values s bits arguments

      order : AreInOrder d s bits arguments v
      order = are_in_order d s bits arguments valid chosen

      -- how the work ends, from the state
      same_run : runs_from d p place v
          ≡ items_ending d (choice_bit (first_choice d) v) (rest d p (slice_index s.places p)) 0 (memory_of s)
      same_run = λ i.
          items_ending d (choice_bit (first_choice d) v) (rest d p (sym at i)) 0
          (plain_memory ((order.state i).values))

      same_outcome : (e : Ending) →
          arrival_outcome d v (Some p) last (arrival d p e) (has_failed e)
          ≡ outcome_of d s (does d p inside s place at last) e
      same_outcome (stopped place_at trail m) = λ i. Next (record {
        values = m.values;
        places = slice_set (order.state i).places p (location_number d p place_at trail);
        last = last;
      })
      same_outcome (finished m) = λ i. Next (record {
        values = m.values;
        places = slice_set (order.state i).places p (end_number d p);
        last = last;
      })
      same_outcome failed = refl
      same_outcome blocked = refl

      pub told : told_outcome n d v (step_terms step)
          ≡ outcome_of d s (does d p inside s place at last)
          (items_ending d (choice_bit (first_choice d) v) (rest d p (slice_index s.places p)) 0 (memory_of s))
      told =
          made.is.tells v (are_inputs d movable.small n s bits arguments inputs valid chosen are)
          (arrival d p (runs_from d p place v)) (has_failed (runs_from d p place v))
          (ran.tells n made.grown v (are_inputs d movable.small n s bits arguments inputs valid chosen are))
          ∙ same_outcome (runs_from d p place v)
          ∙ ap (outcome_of d s (does d p inside s place at last)) same_run

    pub step_made : MakesStep t n (IsProcessStep n d p place) step
    step_made = record {
      grown = Extends-trans t course.terms n ran.grown made.grown;
      sound = made.sound;
      is = record {
        terms = made.is.terms;
        tells = λ s arguments valid at are.
            tells_work n d s valid arguments (step_terms step) (move_from d p place) (does d p inside s place at last)
            (move_is d p inside s place at below last last_is)
            (movable.fits.processes p (slice_index s.places p)) (told s arguments valid at are);
        leaves = made.is.leaves (λ i. items_write d i (rest d p place) 0) ran.leaves;
      };
    }

  -- from the end
  pub end_made : place ≡ end_number d p → MakesNowhere t n (first_choice d) None step →
      MakesStep t n (IsProcessStep n d p place) step
  end_made is made = record {
    grown = Extends-trans t made.mid n made.error.grown made.next.grown;
    sound = made.next.sound;
    is = record {
      terms = nowhere_terms t n d None step made movable.inputs;
      tells = λ s arguments valid at are.
          tells_none n d s valid arguments (step_terms step) (move_from d p place)
          (no_move d p inside s place at is)
          (λ bits chosen.
          nowhere_told t n d None step made movable.inputs (input_values s bits arguments)
          (are_inputs d movable.small n s bits arguments
          (nowhere_inputs t n d None step made movable.inputs) valid chosen are) false refl);
      leaves = nowhere_leaves t n d None step made movable.inputs (λ i. items_write d i (rest d p place) 0) (Some p);
    };
  }

-- what holds of a value holds of it where there is one
pub ok_so : {X E : Type 0} {P Q : X → Type 0} → ((x : X) → P x → Q x) → (r : Result X E) → IfOk r P → IfOk r Q
ok_so so (Ok x) holds = so x holds
ok_so so (Err e) holds = tt
