-- The runs of a process from a location, from the start of a step.
use Rattle.std.proofs.Common.{◌≡◌, ℕ, ◌+◌, ◌<◌, Bool, true, false, Option, None, Some, List, length, take, slice_get, refl, sym, ap, ◌∙◌, subst, arith}
use Rattle.std.specs.Prelude.{IfSome, if◌then◌else◌}
use Rattle.tm_base.specs.declared.place.Place.{Place}
use Rattle.tm_base.specs.Arithmetic.{is_nonzero}
use Rattle.tm_syntax.specs.declared.design.Var.{Var}
use Rattle.tm_syntax.specs.Design.{DesignTree}
use Rattle.tm_syntax.specs.Design.Locations.{end_number, location_number, rest}
use Rattle.tm_syntax.specs.Design.Work.{WorkItem}
use Rattle.tm_scope.specs.Cells.{CellTables, HasCells}
use Rattle.tm_term.specs.declared.term.TermId.{TermId}
use Rattle.tm_term.specs.Table.{Table, IsSound}
use Rattle.tm_term.specs.Value.{AreInputs, value_of, Extends}
use Rattle.tm_term.proofs.Valued.{Extends-trans}
use Rattle.tm_locations.specs.Locations.{AreLocations}
use Rattle.tm_sem.specs.Run.{Ending, blocked, finished}
use Rattle.tm_sem.specs.Value.{Memory, plain_memory}
use Rattle.tm_flat.specs.BitRun.{items_ending}
use Rattle.tm_flat.specs.Fitting.{ItemsFit}
use Rattle.tm_flat.specs.Inputs.{first_choice, input_widths, room}
use Rattle.tm_flat.specs.Steps.{IsInput}
use Rattle.tm_flat.specs.Writes.{items_write}
use Rattle.tm_flat_exprs.specs.Kept.{Keeps}
use Rattle.tm_flat_exprs.specs.Made.{IsTruth, Makes, truth_at}
use Rattle.tm_flat_stmts.specs.Flows.{AreEnds, EndTerms, FlowKeeps, FlowTerms, HasTerm, HaveNotEnded, IsFlow, Leads, StopsHave, TellsEnd, has_failed, has_finished, is_on, stop_of}
use Rattle.tm_flat_stmts.specs.Choices.{choice_bit}
use Rattle.tm_flat_bodies.specs.declared.course.Course.{Course}
use Rattle.tm_flat_bodies.specs.Walks.{WalkTables}
use Rattle.tm_plain.proofs.Places.{end_is}
use Rattle.tm_flat_moves.specs.Arrived.{TellsArrival, arrival}
use Rattle.tm_flat_moves.specs.Begun.{Begins}
use Rattle.tm_flat_moves.specs.Ended.{EndsBehind}
use Rattle.tm_flat_moves.specs.Items.{ItemsLead, ItemsWalk, MayBeWalked}
use Rattle.tm_flat_moves.specs.Movable.{IsMovable}
use Rattle.tm_flat_moves.specs.Run.{HasRun, memory_in, runs_from}
use Rattle.tm_flat_moves.proofs.InputTerms.{input_along}
use Rattle.tm_flat_moves.proofs.InputWidths.{bit_width}
use Rattle.tm_flat_moves.proofs.Lists.{get_within}
use Rattle.tm_flat_moves.proofs.Stopped.{Behind, ends_behind, tells_arrival}

-- no run has ended yet, where there are so many locations
pub record NoneEnded (count : ℕ) (ends : EndTerms) : Type 0 where
  pub many : length ends.stops ≡ count
  pub none : (n : ℕ) → stop_of ends n ≡ None
  pub failed : ends.failed ≡ None

pub none_ended : (count : ℕ) (fresh ends : EndTerms) →
    (length fresh.stops ≡ count) × ((n : ℕ) → stop_of fresh n ≡ None) × (fresh.failed ≡ None) → ends ≡ fresh →
    NoneEnded count ends
none_ended count fresh ends are same = record {
  many = (λ j. length ((same j).stops)) ∙ are.0;
  none = λ n. (λ j. stop_of (same j) n) ∙ are.1 n;
  failed = (λ j. (same j).failed) ∙ are.2;
}

-- ---- runs that begin somewhere, and were led through some work
module _ (w : WalkTables) (d : DesignTree) (p : ℕ) (work : List WorkItem) (t : Table) (cells : HasCells w.tables d)
    (located : AreLocations w.locations d p) (first : w.first ≡ first_choice d) (now : Course)
    (none : NoneEnded (length w.locations.rows + 2) now.ends) (f : FlowTerms) (start : Extends t now.terms)
    (position : f.position ≡ 0) (begins : List ℕ → Bool) (from : List ℕ → Memory)
    (on : (u : Table) → Extends now.terms u → (v : List ℕ) → AreInputs u v → is_on u v (Some f) ≡ begins v)
    (keeps : (u : Table) → Extends now.terms u → (v : List ℕ) → AreInputs u v → Keeps w.tables u v f.memory (from v))
    (mid fin : Course) (left : Option FlowTerms) (led : ItemsLead w d p work now mid f left)
    (behind : EndsBehind mid.terms fin.terms (length w.locations.rows + 1) left mid.ends fin.ends) where
  abbrev x : CellTables
  x = w.tables

  abbrev number : Place → List Place → Option ℕ
  number at calls = Some (location_number d p at calls)

  -- how the work ends, where a run begins it
  abbrev work_ends : List ℕ → Ending
  work_ends v = items_ending d (choice_bit (first_choice d) v) work 0 (from v)

  abbrev pub ending : List ℕ → Ending
  ending v = if begins v then work_ends v else blocked

  many : length w.locations.rows + 1 ≡ end_number d p
  many = end_is w.locations d p located

  at_end : Behind x mid.terms fin.terms (end_number d p) left mid.ends fin.ends
  at_end =
      ends_behind x mid.terms fin.terms (end_number d p) left mid.ends fin.ends led.goes.sound led.goes.ends
      led.goes.flow (subst (λ k. EndsBehind mid.terms fin.terms k left mid.ends fin.ends) many behind)

  later : Extends now.terms fin.terms
  later = Extends-trans now.terms mid.terms fin.terms led.goes.grown at_end.grown

  module _ (u : Table) (more : Extends fin.terms u) (v : List ℕ) (are : AreInputs u v) where
    from_now : Extends now.terms u
    from_now = Extends-trans now.terms fin.terms u later more

    abbrev ended_so : Ending
    ended_so = items_ending d (choice_bit w.first v) work f.position (from v)

    same_ending : ended_so ≡ work_ends v
    same_ending = λ i. items_ending d (choice_bit (first i) v) work (position i) (from v)

    leads : Leads x u v number (items_ending d (choice_bit w.first v) work f.position) (Some f) now.ends left mid.ends
    leads = led.goes.leads u (Extends-trans mid.terms fin.terms u at_end.grown more) v are

    quiet : HaveNotEnded u v now.ends
    quiet = record { stops = λ n. ap (is_on u v) (none.none n); fails = ap (truth_at u v) none.failed }

    abbrev Tells : Ending → Type 0
    Tells e = TellsArrival x u v (arrival d p e) (has_failed e) fin.ends

    arrives : (e : Ending) → TellsEnd x u v number e mid.ends → is_on u v left ≡ has_finished e →
        ((m : Memory) → e ≡ finished m → FlowKeeps x u v left m) → Tells e
    arrives e told goes kept =
        tells_arrival d p x mid.terms fin.terms left mid.ends fin.ends (length w.locations.rows) many
        (led.goes.count ∙ none.many) at_end u more v are e told goes kept

    -- where a run begins
    begun_tells : begins v ≡ true → Tells (work_ends v)
    begun_tells is =
        let here : is_on u v (Some f) ≡ true = on u from_now v are ∙ is in
        let kept = keeps u from_now v are in
        arrives (work_ends v)
        (subst (λ e. TellsEnd x u v number e mid.ends) same_ending (leads.ends (from v) here kept quiet))
        (leads.goes (from v) here kept ∙ ap has_finished same_ending)
        (λ m ends. leads.memory (from v) m here kept (same_ending ∙ ends))

    -- where none does
    idle_tells : begins v ≡ false → Tells blocked
    idle_tells is =
        let off : is_on u v (Some f) ≡ false = on u from_now v are ∙ is in
        let same = leads.same off in
        arrives blocked
        (record {
          stops = λ n. same.stops n ∙ ap (is_on u v) (none.none n);
          memory = λ n at trail m stops. absurd (cc);
          fails = same.fails ∙ ap (truth_at u v) none.failed;
        })
        (leads.stays off) (λ m ends. absurd (cc))

    pub tells : Tells (ending v)
    tells = by (begins v) refl
      where
        by : (b : Bool) → begins v ≡ b → Tells (if begins v then work_ends v else blocked)
        by true is = subst (λ c. Tells (if c then work_ends v else blocked)) (sym is) (begun_tells is)
        by false is = subst (λ c. Tells (if c then work_ends v else blocked)) (sym is) (idle_tells is)

  pub has_run : (writes : ℕ → Bool) →
      ((i : ℕ) → i < length d.vars → writes i ≡ false →
      (items_write d i work 0 ≡ false) × (id : TermId) × IsInput now.terms i id × HasTerm i id f) →
      HasRun w d p ending writes t fin
  has_run writes unwritten = record {
    grown = Extends-trans t now.terms fin.terms start later;
    sound = at_end.sound;
    ends = at_end.ends;
    count = at_end.count ∙ led.goes.count ∙ none.many;
    tells = λ u more v are. tells u more v are;
    leaves = λ i below off. by i (unwritten i below off);
  }
    where
      by : (i : ℕ) → (items_write d i work 0 ≡ false) × (id : TermId) × IsInput now.terms i id × HasTerm i id f →
          (id : TermId) × IsInput fin.terms i id × StopsHave i id fin.ends
      by i had =
          let alone = led.leaves i (ap (items_write d i work) position ∙ had.0) in (
            had.1,
            input_along now.terms fin.terms i had.1 later had.2,
            at_end.has i had.1
                (alone.stops had.1 had.3 (λ n. subst (λ o. IfSome o (HasTerm i had.1)) (sym (none.none n)) tt))
                (alone.flow had.1 had.3),
          )

-- ---- the work of a process from a location, from the start of a step
module _ (w : WalkTables) (d : DesignTree) (p : ℕ) (place : ℕ) (t begun_in : Table) (movable : IsMovable w d p t)
    (now : Course) (none : NoneEnded (length w.locations.rows + 2) now.ends) (always : TermId)
    (one : Makes t begun_in 1 always (λ u v. 1)) (f : FlowTerms)
    (begun : Begins w.tables begun_in now.terms always f) where
  abbrev work_left : List WorkItem
  work_left = rest d p place

  start_grown : Extends t now.terms
  start_grown = Extends-trans t begun_in now.terms one.grown begun.grown

  known : AreEnds w.tables now.terms now.ends
  known = record {
    stops = λ n. subst (λ o. IfSome o (IsFlow w.tables now.terms)) (sym (none.none n)) tt;
    failed = subst (λ o. IsTruth now.terms o) (sym none.failed) tt;
  }

  inputs : now.terms.inputs ≡ input_widths d
  inputs = start_grown.inputs ∙ movable.inputs

  -- what is left may be walked from there
  pub work_walks : MayBeWalked w work_left → ItemsWalk w d p work_left now f
  work_walks asked = record {
    walkable = movable.walkable;
    cells = movable.cells;
    are = movable.are;
    typed = asked.typed;
    fits = λ e q has are. subst (λ k. ItemsFit room e work_left k) (sym begun.position) (asked.fits e q has are);
    standing = record {
      sound = begun.sound;
      bits = record {
        small = let few = movable.few in let first = movable.first in omega (arith, few, first);
        bits = λ i below.
            let at : w.first + 0 + i ≡ first_choice d + i = let first = movable.first in omega (arith, first) in
            (λ j. slice_get (inputs j) (at j)) ∙ bit_width d i (omega (arith, below));
      };
      stands = begun.flow;
      ended = known;
      count = none.many;
    };
  }

  always_on : (u : Table) → Extends now.terms u → (v : List ℕ) → AreInputs u v → is_on u v (Some f) ≡ true
  always_on u more v are =
      ap (λ id. is_nonzero (value_of u v id)) begun.stands
      ∙ ap is_nonzero (one.value u (Extends-trans begun_in now.terms u begun.grown more) v are)

  keeps_state : (u : Table) → Extends now.terms u → (v : List ℕ) → AreInputs u v →
      Keeps w.tables u v f.memory (memory_in d v)
  keeps_state u more v are =
      subst (λ (vars : List Var). Keeps w.tables u v f.memory (plain_memory (take (length vars) v)))
      (sym movable.cells.vars) (begun.keeps u more v are)

  input_kept : (i : ℕ) → i < length d.vars → (id : TermId) × IsInput now.terms i id × HasTerm i id f
  input_kept i below =
      let here = get_within f.memory.values i
      (let long = begun.flow.memory.count ∙ sym (ap length movable.cells.vars) in omega (arith, long, below)) in
      (here.0, begun.inputs i here.0 here.1, here.1)

  pub process_has_run : (mid fin : Course) (left : Option FlowTerms) → ItemsLead w d p work_left now mid f left →
      EndsBehind mid.terms fin.terms (length w.locations.rows + 1) left mid.ends fin.ends →
      HasRun w d p (runs_from d p place) (λ i. items_write d i work_left 0) t fin
  process_has_run mid fin left led behind =
      has_run w d p work_left t movable.cells movable.are movable.first now none f start_grown begun.position
      (λ v. true) (memory_in d) always_on keeps_state mid fin left led behind (λ i. items_write d i work_left 0)
      (λ i below off. let kept = input_kept i below in (off, kept.0, kept.1, kept.2))
