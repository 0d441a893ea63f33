-- Which moves the turn rule permits, test by test.
use Rattle.std.proofs.Common.{◌≡◌, ℕ, zero, suc, ◌+◌, ◌<◌, ◌≤◌, Bool, true, false, Option, None, Some, List, [], length, refl, sym, ap, ◌∙◌, arith, take}
use Rattle.std.specs.Prelude.{◌&&◌, is_some, nat_le, nat_lt, not, slice_get, slice_index}
use Rattle.std.specs.Bool.{then_some}
use Rattle.std.specs.List.{fold, list_any, range_with_len, zip}
use Rattle.std.specs.Option.{option_and_then}
use Rattle.std.proofs.lemmas.Bool.Decides.{nat_tests}
use Rattle.std.proofs.lemmas.List.{take_all}
use Rattle.std.proofs.lemmas.List.Folds.{list_any_at, list_any_more}
use Rattle.std.proofs.lemmas.List.FromFn.{get_or-range_with_len, length-range_with_len}
use Rattle.std.proofs.lemmas.Option.{slice_get_within}
use Rattle.tm_syntax.specs.declared.design.Item.{Item}
use Rattle.tm_syntax.specs.Design.{DesignTree}
use Rattle.tm_syntax.specs.Design.Cells.{Called}
use Rattle.tm_syntax.specs.Design.Locations.{end_number, is_magic_at}
use Rattle.tm_syntax.specs.Design.Work.{body_items}
use Rattle.tm_sem.specs.State.{StateData}
use Rattle.tm_sem.specs.Step.{Work, arguments_fit, call_work, is_driver_turn, leave_work, memory_of, process_work, stands_at_magic, task_of, work}
use Rattle.tm_sem.specs.declared.state.Move.TheVariants.{Idle}
use Rattle.tm_sem.specs.Value.{put}
use Rattle.tm_plain.specs.Ends.{still, work_from}

-- what a test guards is there where it passes
guarded : {A : Type 0} (test : Bool) (x : A) → is_some (then_some test x) ≡ test
guarded true x = refl
guarded false x = refl

guarded_is : {A : Type 0} (test : Bool) (x : A) → is_some (then_some test x) ≡ true → then_some test x ≡ Some x
guarded_is true x is = refl
guarded_is false x is = absurd (cc)

and_none : (a : Bool) → (a && false) ≡ false
and_none true = refl
and_none false = refl

first_true : (a b : Bool) → (a && b) ≡ true → a ≡ true
first_true true b is = refl
first_true false b is = is

-- where no test below a number passes
module _ (test : ℕ → Bool) (n : ℕ) where
  pub none_yet : list_any test (take 0 (range_with_len 0 n)) ≡ false
  none_yet = refl

  pub one_passes : (k : ℕ) → k < n → test k ≡ true → list_any test (range_with_len 0 n) ≡ true
  one_passes k less passes =
      let there : 0 + k ≡ k = omega arith in
      list_any_at test (range_with_len 0 n) k 0 (rw (length-range_with_len 0 n) less)
      (rw (get_or-range_with_len 0 n k 0 less, there) passes)

  pub none_more : (k : ℕ) → k < n → list_any test (take k (range_with_len 0 n)) ≡ false → test k ≡ false →
      list_any test (take (k + 1) (range_with_len 0 n)) ≡ false
  none_more k less so_far fails =
      let there : 0 + k ≡ k = omega arith in
      list_any_more test (range_with_len 0 n) k 0 (rw (length-range_with_len 0 n) less)
      ∙ (rw (get_or-range_with_len 0 n k 0 less, there, so_far) fails)

  pub none_passes : (k : ℕ) → n ≤ k → list_any test (take k (range_with_len 0 n)) ≡ false →
      list_any test (range_with_len 0 n) ≡ false
  none_passes k all so_far =
      ap (list_any test) (sym (take_all k (range_with_len 0 n) (rw (length-range_with_len 0 n) all))) ∙ so_far

module _ (d : DesignTree) (s : StateData) (p : ℕ) where
  -- a process that a design does not have stands at no magic block
  nowhere : (place : ℕ) → slice_get d.processes p ≡ None → is_magic_at d p place ≡ false
  nowhere zero none = refl
  nowhere (suc k) none = rw none

  pub magic_nowhere : slice_get d.processes p ≡ None → stands_at_magic d s p ≡ false
  magic_nowhere none = nowhere (slice_index s.places p) none

  pub magic_within : stands_at_magic d s p ≡ true → p < length d.processes
  magic_within stands = by (slice_get d.processes p) refl
    where
      by : (o : Option Item) → slice_get d.processes p ≡ o → p < length d.processes
      by None none = absurd (let no = magic_nowhere none in cc)
      by (Some item) there = slice_get_within d.processes p item there

  abbrev running : Bool
  running = nat_lt p (length d.processes) && nat_lt (slice_index s.places p) (end_number d p)

  abbrev runs_where : Bool → Bool
  runs_where below = (below && nat_lt (slice_index s.places p) (end_number d p)) && not (stands_at_magic d s p)

  runs : is_some (process_work d s p) ≡ (running && not (stands_at_magic d s p))
  runs = guarded (running && not (stands_at_magic d s p)) _

  pub waits_at_magic : stands_at_magic d s p ≡ true → false ≡ is_some (process_work d s p)
  waits_at_magic stands = sym (runs ∙ ap (λ b. running && not b) stands ∙ and_none running)

  pub runs_nowhere : length d.processes ≤ p → false ≡ is_some (process_work d s p)
  runs_nowhere past =
      let beyond : nat_lt p (length d.processes) ≡ false = grind (arith, nat_tests) in
      sym (runs ∙ ap runs_where beyond)

  pub runs_before_end : (place count : ℕ) → stands_at_magic d s p ≡ false → p < length d.processes →
      place ≡ slice_index s.places p → count + 1 ≡ end_number d p → nat_le place count ≡ is_some (process_work d s p)
  runs_before_end place count stands below at end =
      let there : nat_lt p (length d.processes) ≡ true = grind (arith, nat_tests) in
      let test : nat_le place count ≡ nat_lt place (count + 1) = grind (arith, nat_tests) in
      test ∙ ap (λ n. nat_lt n (count + 1)) at ∙ ap (nat_lt (slice_index s.places p)) end
      ∙ and_so (nat_lt (slice_index s.places p) (end_number d p))
      ∙ sym (runs ∙ ap runs_where there
      ∙ ap (λ b. (true && nat_lt (slice_index s.places p) (end_number d p)) && not b) stands)
    where
      and_so : (b : Bool) → b ≡ ((true && b) && not false)
      and_so true = refl
      and_so false = refl

  -- a process that may run is one of the design
  pub running_within : is_some (process_work d s p) ≡ true → p < length d.processes
  running_within is =
      let first : nat_lt p (length d.processes) ≡ true =
      first_true (nat_lt p (length d.processes)) (nat_lt (slice_index s.places p) (end_number d p))
      (first_true running (not (stands_at_magic d s p)) (sym runs ∙ is)) in
      grind (arith, nat_tests)

  -- what it has to do
  pub run_is : is_some (process_work d s p) ≡ true →
      process_work d s p ≡ Some (work_from d s p (slice_index s.places p) (2 + p))
  run_is is = guarded_is (running && not (stands_at_magic d s p)) _ is

  pub leaving_within : is_some (leave_work d s p) ≡ true → p < length d.processes
  leaving_within is =
      let first : nat_lt p (length d.processes) ≡ true =
      first_true (nat_lt p (length d.processes)) (stands_at_magic d s p)
      (sym (guarded (nat_lt p (length d.processes) && stands_at_magic d s p) _) ∙ is) in
      grind (arith, nat_tests)

  pub leave_is : is_some (leave_work d s p) ≡ true →
      leave_work d s p ≡ Some (work_from d s p (slice_index s.places p) 1)
  leave_is is = guarded_is (nat_lt p (length d.processes) && stands_at_magic d s p) _ is

  pub leaves : stands_at_magic d s p ≡ is_some (leave_work d s p)
  leaves = by (stands_at_magic d s p) refl
    where
      by : (b : Bool) → stands_at_magic d s p ≡ b → stands_at_magic d s p ≡ is_some (leave_work d s p)
      by true stands =
          let below = magic_within stands in
          let there : nat_lt p (length d.processes) ≡ true = grind (arith, nat_tests) in
          sym (guarded (nat_lt p (length d.processes) && stands_at_magic d s p) _
          ∙ ap (λ b. b && stands_at_magic d s p) there)
      by false stands =
          stands ∙ sym (guarded (nat_lt p (length d.processes) && stands_at_magic d s p) _
          ∙ ap (λ b. nat_lt p (length d.processes) && b) stands ∙ and_none (nat_lt p (length d.processes)))

-- the driver idles
pub idle_is : (d : DesignTree) (s : StateData) → is_some (work d s Idle) ≡ true → work d s Idle ≡ Some (still s 1)
idle_is d s is = guarded_is (is_driver_turn d s) _ is

pub idles : (d : DesignTree) (s : StateData) → is_driver_turn d s ≡ is_some (work d s Idle)
idles d s = sym (guarded (is_driver_turn d s) _)

-- a call by the driver
module _ (d : DesignTree) (s : StateData) (t : ℕ) (args : List ℕ) where
  abbrev fits : Called → Bool
  fits callee = is_driver_turn d s && arguments_fit d callee.params args

  abbrev pub call_of : Called → Work
  call_of callee = record {
    items = body_items callee.scope [] callee.body;
    memory = fold (λ m p. put m p.0 p.1) (memory_of s) (zip callee.params args);
    mover = None;
    last = 1;
  }

  call_is_that : (o : Option Called) → task_of d t ≡ o →
      call_work d s t args ≡ option_and_then (λ callee. then_some (fits callee) (call_of callee)) o
  call_is_that o is = ap (option_and_then (λ callee. then_some (fits callee) (call_of callee))) is

  pub no_call : task_of d t ≡ None → false ≡ is_some (call_work d s t args)
  no_call none = sym (ap is_some (call_is_that None none))

  pub call_fits : (callee : Called) → task_of d t ≡ Some callee →
      (is_driver_turn d s && arguments_fit d callee.params args) ≡ is_some (call_work d s t args)
  call_fits callee is = sym (ap is_some (call_is_that (Some callee) is) ∙ guarded (fits callee) (call_of callee))

  pub call_at_turn : (callee : Called) → task_of d t ≡ Some callee → is_driver_turn d s ≡ true → (b : Bool) →
      b ≡ arguments_fit d callee.params args → b ≡ is_some (call_work d s t args)
  call_at_turn callee is turn b fit =
      fit ∙ ap (λ t. t && arguments_fit d callee.params args) (sym turn) ∙ call_fits callee is

  pub no_turn : is_driver_turn d s ≡ false → false ≡ is_some (call_work d s t args)
  no_turn turn = by (task_of d t) refl
    where
      by : (o : Option Called) → task_of d t ≡ o → false ≡ is_some (call_work d s t args)
      by None is = no_call is
      by (Some callee) is = ap (λ t. t && arguments_fit d callee.params args) (sym turn) ∙ call_fits callee is

  pub call_is : (callee : Called) → task_of d t ≡ Some callee → is_some (call_work d s t args) ≡ true →
      call_work d s t args ≡ Some (call_of callee)
  call_is callee is some =
      call_is_that (Some callee) is
      ∙ guarded_is (fits callee) (call_of callee) (sym (ap is_some (call_is_that (Some callee) is)) ∙ some)
