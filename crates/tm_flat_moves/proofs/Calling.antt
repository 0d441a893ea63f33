-- The step of a call of the driver.
use Rattle.std.proofs.Common.{◌≡◌, ℕ, zero, suc, ◌+◌, ◌<◌, ◌==◌, ◌&&◌, ◌||◌, Bool, true, false, Option, None, Some, List, [], ◌∷◌, length, slice_index, refl, sym, ap, ◌∙◌, subst, arith}
use Rattle.std.specs.Prelude.{nat_eq, nat_lt, if◌then◌else◌}
use Rattle.std.specs.Bool.{then_some}
use Rattle.std.specs.List.{fold, list_all, list_any, range_with_len, zip}
use Rattle.std.specs.Option.{option_and_then}
use Rattle.std.proofs.lemmas.Bool.Decides.{nat_tests}
use Rattle.std.proofs.lemmas.Option.{same_Some}
use Rattle.tm_syntax.specs.Design.{DesignTree}
use Rattle.tm_syntax.specs.Design.Cells.{Called, Cell}
use Rattle.tm_syntax.specs.Design.Locations.{is_magic_at}
use Rattle.tm_syntax.specs.Design.Sizes.{type_size}
use Rattle.tm_term.specs.Table.{Table}
use Rattle.tm_term.specs.Value.{AreInputs}
use Rattle.tm_term.proofs.Valued.{Extends-trans}
use Rattle.tm_sem.specs.declared.state.Move.TheVariants.{Call}
use Rattle.tm_sem.specs.declared.state.Outcome.TheVariants.{Next, NoOutcome}
use Rattle.tm_sem.specs.Run.{Ending, asked_by, blocked, failed, finished, stopped}
use Rattle.tm_sem.specs.State.{StateData}
use Rattle.tm_sem.specs.Step.{IsState, Work, arguments_fit, is_driver_turn, memory_of, outcome_of, stands_at_magic, task_of, work}
use Rattle.tm_sem.specs.Value.{Memory, plain_memory, put}
use Rattle.tm_flat.specs.declared.flat.FlatStep.{FlatStep}
use Rattle.tm_flat.specs.BitRun.{items_ending, number_at}
use Rattle.tm_flat.specs.Fitting.{ItemsFit}
use Rattle.tm_flat.specs.Flat.{step_terms}
use Rattle.tm_flat.specs.Inputs.{AreBits, AreInOrder, AreSmall, arguments_from, arguments_in, bits_in, first_choice, input_values, input_widths, room}
use Rattle.tm_flat.specs.Steps.{IsTaskStep, LeavesInputs, Tells, told_outcome}
use Rattle.tm_flat.proofs.BitSteps.{listed, listed_are_bits}
use Rattle.tm_flat.proofs.InOrder.{are_in_order}
use Rattle.tm_flat.proofs.Ranges.{are_inputs}
use Rattle.tm_flat_exprs.proofs.Later.{Extends-refl}
use Rattle.tm_flat_stmts.specs.Flows.{has_failed}
use Rattle.tm_flat_stmts.specs.Choices.{choice_bit}
use Rattle.tm_flat_bodies.specs.declared.course.Course.{Course}
use Rattle.tm_flat_bodies.specs.Walks.{WalkTables}
use Rattle.tm_flat_moves.specs.Arrived.{arrival}
use Rattle.tm_flat_moves.specs.Ended.{MakesNowhere}
use Rattle.tm_flat_moves.specs.Made.{MakesStep}
use Rattle.tm_flat_moves.specs.Next.{Finishes, arrival_outcome}
use Rattle.tm_flat_moves.specs.Run.{HasRun, memory_in}
use Rattle.tm_flat_moves.proofs.Finishing.{nowhere_inputs, nowhere_leaves, nowhere_terms, nowhere_told}
use Rattle.tm_flat_moves.proofs.Told.{tells_none, tells_work}
use Rattle.tm_flat_moves.specs.Arguments.{are_in_range, argument_bits, param_bits, put_read}
use Rattle.tm_flat_moves.specs.Calls.{call_ending, call_items, call_writes, given_memory, may_call}
use Rattle.tm_flat_moves.specs.Turn.{TellsTurn, is_turn_in}

-- ---- arguments, as lists and as bits
module _ (d : DesignTree) where
  abbrev in_range : Cell × ℕ → Bool
  in_range q = nat_lt q.1 (type_size d.spec (asked_by d (Some q.0)))

  range_same : (cs : List Cell) (bits : ℕ → Bool) (k : ℕ) →
      are_in_range d cs bits k ≡ list_all in_range (zip cs (arguments_from d cs bits k))
  range_same [] bits k = refl
  range_same (c ∷ cs) bits k =
      ap (λ b. in_range (c, number_at bits k (param_bits d c)) && b) (range_same cs bits (k + param_bits d c))

  as_many : (cs : List Cell) (bits : ℕ → Bool) (k : ℕ) → length cs ≡ length (arguments_from d cs bits k)
  as_many [] bits k = refl
  as_many (c ∷ cs) bits k = ap suc (as_many cs bits (k + param_bits d c))

  same_count : (a b : ℕ) → a ≡ b → nat_eq a b ≡ true
  same_count a b is = grind (arith, nat_tests)

  fit_same : (cs : List Cell) (bits : ℕ → Bool) (k : ℕ) →
      are_in_range d cs bits k ≡ arguments_fit d cs (arguments_from d cs bits k)
  fit_same cs bits k =
      range_same cs bits k
      ∙ sym (ap (λ b. b && list_all in_range (zip cs (arguments_from d cs bits k)))
      (same_count (length cs) (length (arguments_from d cs bits k)) (as_many cs bits k)))

  memory_same : (cs : List Cell) (bits : ℕ → Bool) (k : ℕ) (m : Memory) →
      put_read d cs bits k m ≡ fold (λ m q. put m q.0 q.1) m (zip cs (arguments_from d cs bits k))
  memory_same [] bits k m = refl
  memory_same (c ∷ cs) bits k m =
      memory_same cs bits (k + param_bits d c) (put m c (number_at bits k (param_bits d c)))

-- tests that agree on numbers from one on agree on whether some number passes
any_same : (f g : ℕ → Bool) (a n : ℕ) → ((p : ℕ) → p < a + n → f p ≡ g p) →
    list_any f (range_with_len a n) ≡ list_any g (range_with_len a n)
any_same f g a zero same = refl
any_same f g a (suc n) same =
    let first : f a ≡ g a = same a (omega arith) in
    let rest = any_same f g (a + 1) n (λ p below. same p (omega (arith, below))) in
    (λ i. first i || rest i)

-- ---- what values of the inputs tell at a state
module _ (d : DesignTree) (s : StateData) (valid : IsState d s) (bits arguments : List ℕ) (chosen : AreBits bits) where
  abbrev v : List ℕ
  v = input_values s bits arguments

  order : AreInOrder d s bits arguments v
  order = are_in_order d s bits arguments valid chosen

  pub turn_same : is_turn_in d v ≡ is_driver_turn d s
  turn_same =
      any_same (λ p. is_magic_at d p (slice_index v (length d.vars + p))) (stands_at_magic d s) 0 (length d.processes)
      (λ p below. ap (is_magic_at d p) (order.places p (omega (arith, below))))

  bit_same : (k : ℕ) → argument_bits d v k ≡ bits_in arguments k
  bit_same k =
      let at : first_choice d + room + k ≡ first_choice d + (room + k) = omega arith in
      ap (λ j. slice_index v j == 1) at ∙ ap (λ x. x == 1) (order.argument k)

  bits_same : argument_bits d v ≡ bits_in arguments
  bits_same = λ i k. bit_same k i

  pub may_same : (c : Called) →
      may_call d c v ≡ (is_driver_turn d s && arguments_fit d c.params (arguments_in d c.params arguments))
  may_same c =
      let range : are_in_range d c.params (argument_bits d v) 0
      ≡ arguments_fit d c.params (arguments_in d c.params arguments) =
      ap (λ b. are_in_range d c.params b 0) bits_same ∙ fit_same d c.params (bits_in arguments) 0 in
      (λ i. turn_same i && range i)

  pub given_same : (c : Called) →
      given_memory d c v
      ≡ fold (λ m q. put m q.0 q.1) (memory_of s) (zip c.params (arguments_in d c.params arguments))
  given_same c =
      let state : memory_in d v ≡ memory_of s = (λ i. plain_memory ((order.state i).values)) in
      (λ i. put_read d c.params (bits_same i) 0 (state i)) ∙ memory_same d c.params (bits_in arguments) 0 (memory_of s)

-- ---- the step
module _ (d : DesignTree) (s : StateData) (number : ℕ) (args : List ℕ) (c : Called)
    (known : task_of d number ≡ Some c) where
  -- what a call has to do
  abbrev does : Work
  does = record {
    items = call_items c;
    memory = fold (λ m q. put m q.0 q.1) (memory_of s) (zip c.params args);
    mover = None;
    last = 1;
  }

  abbrev does_so : Called → Option Work
  does_so k =
      then_some (is_driver_turn d s && arguments_fit d k.params args)
      (record {
        items = call_items k;
        memory = fold (λ m q. put m q.0 q.1) (memory_of s) (zip k.params args);
        mover = None;
        last = 1;
      })

  work_is : (b : Bool) → (is_driver_turn d s && arguments_fit d c.params args) ≡ b →
      work d s (Call number args) ≡ then_some b does
  work_is b is = ap (option_and_then does_so) known ∙ ap (λ b. then_some b does) is

  no_work : is_driver_turn d s ≡ false → work d s (Call number args) ≡ None
  no_work off = work_is false (ap (λ b. b && arguments_fit d c.params args) off)

module _ (w : WalkTables) (d : DesignTree) (p number : ℕ) (c : Called) (known : task_of d number ≡ Some c) (t n : Table)
    (inputs : t.inputs ≡ input_widths d) (small : AreSmall d) (fits : ItemsFit room d (call_items c) 0)
    (course : Course) (ran : HasRun w d p (call_ending d c) (call_writes d c) t course) (step : FlatStep)
    (made : MakesStep course.terms n (Finishes w.tables course.terms n d course.ends None 1) step) where
  later : n.inputs ≡ input_widths d
  later = made.grown.inputs ∙ ran.grown.inputs ∙ inputs

  module _ (s : StateData) (arguments : List ℕ) (valid : IsState d s) (are : AreBits arguments) where
    abbrev args : List ℕ
    args = arguments_in d c.params arguments

    abbrev here : Work
    here = does d s number args c known

    module _ (bits : List ℕ) (chosen : AreBits bits) where
      abbrev values : List ℕ
      values = input_values s bits arguments

      in_order : AreInOrder d s bits arguments values
      in_order = are_in_order d s bits arguments valid chosen

      has_inputs : AreInputs n values
      has_inputs = are_inputs d small n s bits arguments later valid chosen are

      abbrev leads : Ending → Type 0
      leads e = told_outcome n d values (step_terms step)
          ≡ arrival_outcome d values None 1 (arrival d p e) (has_failed e)

      told_so : leads (call_ending d c values)
      told_so =
          made.is.tells values has_inputs (arrival d p (call_ending d c values)) (has_failed (call_ending d c values))
          (ran.tells n made.grown values has_inputs)

      same_outcome : (e : Ending) →
          arrival_outcome d values None 1 (arrival d p e) (has_failed e) ≡ outcome_of d s here e
      same_outcome (stopped at trail m) = λ i. Next (record {
        values = m.values;
        places = (in_order.state i).places;
        last = 1;
      })
      same_outcome (finished m) = λ i. Next (record {
        values = m.values;
        places = (in_order.state i).places;
        last = 1;
      })
      same_outcome failed = refl
      same_outcome blocked = refl

      abbrev ends_with : Memory → Ending
      ends_with m = items_ending d (choice_bit (first_choice d) values) (call_items c) 0 m

      ends_where : (b : Bool) →
          (is_driver_turn d s && arguments_fit d c.params args) ≡ b →
          leads (if b then ends_with (given_memory d c values) else blocked)
      ends_where b is =
          subst (λ b. leads (if b then ends_with (given_memory d c values) else blocked))
          (may_same d s valid bits arguments chosen c ∙ is) told_so

      called_told : (is_driver_turn d s && arguments_fit d c.params args) ≡ true →
          told_outcome n d values (step_terms step) ≡ outcome_of d s here (ends_with here.memory)
      called_told is =
          ends_where true is ∙ same_outcome (ends_with (given_memory d c values))
          ∙ ap (λ m. outcome_of d s here (ends_with m)) (given_same d s valid bits arguments chosen c)

      uncalled_told : (is_driver_turn d s && arguments_fit d c.params args) ≡ false →
          told_outcome n d values (step_terms step) ≡ NoOutcome
      uncalled_told is = ends_where false is

    tells : Tells n d (step_terms step) s (Call number args) arguments
    tells = by (is_driver_turn d s && arguments_fit d c.params args) refl
      where
        by : (b : Bool) → (is_driver_turn d s && arguments_fit d c.params args) ≡ b →
            Tells n d (step_terms step) s (Call number args) arguments
        by true is =
            tells_work n d s valid arguments (step_terms step) (Call number args) here
            (work_is d s number args c known true is) fits (λ bits chosen. called_told bits chosen is)
        by false is =
            tells_none n d s valid arguments (step_terms step) (Call number args)
            (work_is d s number args c known false is) (λ bits chosen. uncalled_told bits chosen is)

  same_callee : (callee : Called) → task_of d number ≡ Some callee → c ≡ callee
  same_callee callee is = same_Some c callee (sym known ∙ is)

  pub call_made : MakesStep t n (IsTaskStep n d number) step
  call_made = record {
    grown = Extends-trans t course.terms n ran.grown made.grown;
    sound = made.sound;
    is = record {
      terms = made.is.terms;
      tells = λ s callee arguments valid is are.
          subst (λ (k : Called). Tells n d (step_terms step) s (Call number (arguments_in d k.params arguments))
          arguments) (same_callee callee is) (tells s arguments valid are);
      leaves = λ callee is.
          subst (λ (k : Called). LeavesInputs n d (call_writes d k) None (step_terms step)) (same_callee callee is)
          (made.is.leaves (call_writes d c) ran.leaves);
    };
  }

-- ---- a call that is never permitted
module _ (t n : Table) (d : DesignTree) (number : ℕ) (step : FlatStep) (inputs : t.inputs ≡ input_widths d)
    (small : AreSmall d) (made : MakesNowhere t n (first_choice d) None step) where
  pub never_made : ((c : Called) → task_of d number ≡ Some c → (s : StateData) → IsState d s →
      is_driver_turn d s ≡ false) → MakesStep t n (IsTaskStep n d number) step
  never_made never = record {
    grown = Extends-trans t made.mid n made.error.grown made.next.grown;
    sound = made.next.sound;
    is = record {
      terms = nowhere_terms t n d None step made inputs;
      tells = λ s callee arguments valid known are.
          tells_none n d s valid arguments (step_terms step) (Call number (arguments_in d callee.params arguments))
          (no_work d s number (arguments_in d callee.params arguments) callee known (never callee known s valid))
          (λ bits chosen.
          nowhere_told t n d None step made inputs (input_values s bits arguments)
          (are_inputs d small n s bits arguments (nowhere_inputs t n d None step made inputs) valid chosen are) false
          refl);
      leaves = λ callee known. nowhere_leaves t n d None step made inputs (call_writes d callee) None;
    };
  }

  -- there is no such task
  pub none_made : task_of d number ≡ None → MakesStep t n (IsTaskStep n d number) step
  none_made none = never_made (λ c known. absurd (let both : None ≡ Some c = sym none ∙ known in cc))

  -- the driver is never picked
  pub unpicked_made : TellsTurn t d None → MakesStep t n (IsTaskStep n d number) step
  unpicked_made tells = never_made (λ c known s valid.
      let off = listed room (λ p. false) in
      let bits = listed_are_bits (λ p. false) in
      sym (turn_same d s valid off off bits)
      ∙ sym (tells.truth t (Extends-refl t) (input_values s off off)
      (are_inputs d small t s off off inputs valid bits bits)))

  -- there is no process
  pub still_made : length d.processes ≡ 0 → MakesStep t n (IsTaskStep n d number) step
  still_made none = never_made (λ c known s valid.
      ap (λ k. list_any (stands_at_magic d s) (range_with_len 0 k)) none)
