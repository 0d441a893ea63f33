-- Where runs stand and how they have ended, as terms: a flow has a truth that says whether a run stands there, and the
-- terms of its memory.
use Rattle.std.specs.Prelude.{◌≡◌, ◌≢◌, ⊤, ℕ, Bool, true, false, ◌||◌, ◌&&◌, Option, None, Some, List, IfSome, length, max, nat_eq, slice_get}
use Rattle.std.specs.Option.{option_and_then, option_map, option_map_or}
use Rattle.tm_base.specs.declared.place.Place.{Place}
use Rattle.tm_base.specs.Arithmetic.{is_nonzero}
use Rattle.tm_syntax.specs.declared.design.Ty.{Ty}
use Rattle.tm_syntax.specs.Tree.View.{spec_tree}
use Rattle.tm_syntax.specs.Design.Cells.{Cell}
use Rattle.tm_syntax.specs.Design.Sizes.{type_bits}
use Rattle.tm_scope.specs.Cells.{CellTables, cell_at}
use Rattle.tm_scope.specs.declared.cells.site_body.CellNumber.{CellNumber}
use Rattle.tm_scope.specs.declared.cells.site_body.SiteBody.{SiteBody}
use Rattle.tm_term.specs.declared.term.TermId.{TermId}
use Rattle.tm_term.specs.Table.{Table, IsSound}
use Rattle.tm_term.specs.Value.{AreInputs, value_of, Extends}
use Rattle.tm_sem.specs.Value.{Memory, put}
use Rattle.tm_sem.specs.Run.{Ending, stopped, finished, failed}
use Rattle.tm_flat.specs.Positions.{later}
use Rattle.tm_flat.specs.Steps.{IsTerm}
use Rattle.tm_flat.specs.Writes.{is_variable}
use Rattle.tm_flat_exprs.specs.Kept.{KeptTerms, Keeps, type_at}
use Rattle.tm_flat_exprs.specs.Made.{IsTruth, truth_at}
use Rattle.tm_design.specs.StepCells.{AreApart}
use Rattle.tm_flat_exprs.specs.Merged.{IsMemory}

-- a flow: whether a run stands there, the terms of its memory, and the position of the choice bits at which it goes on
pub record FlowTerms : Type 0 where
  pub guard : TermId
  pub memory : KeptTerms
  pub position : ℕ

-- how runs have ended: for each location the flow of those that stopped there, and whether one failed
pub record EndTerms : Type 0 where
  pub stops : List (Option FlowTerms)
  pub failed : Option TermId

-- whether over values of the inputs a run stands in a flow, if there is one
abbrev pub is_on : Table → List ℕ → Option FlowTerms → Bool
is_on u v None = false
is_on u v (Some f) = is_nonzero (value_of u v f.guard)

-- the terms of a flow have the values in the cells of a memory
abbrev pub FlowKeeps : CellTables → Table → List ℕ → Option FlowTerms → Memory → Type 0
FlowKeeps x u v None m = ⊤
FlowKeeps x u v (Some f) m = Keeps x u v f.memory m

-- the flow of the runs that stopped at the location of a number
abbrev pub stop_of : EndTerms → ℕ → Option FlowTerms
stop_of ends n = option_and_then (λ f. f) (slice_get ends.stops n)

-- in a flow the state variable of a number has this term
abbrev pub HasTerm : ℕ → TermId → FlowTerms → Type 0
HasTerm i id f = slice_get f.memory.values i ≡ Some id

-- so it has where runs have stopped
abbrev pub StopsHave : ℕ → TermId → EndTerms → Type 0
StopsHave i id ends = (n : ℕ) → IfSome (stop_of ends n) (HasTerm i id)

-- whether a run goes on behind what it did
abbrev pub has_finished : Ending → Bool
has_finished (finished m) = true
has_finished _ = false

-- whether it stopped at the location of a number, given those of places
abbrev pub has_stopped : (Place → List Place → Option ℕ) → ℕ → Ending → Bool
has_stopped number n (stopped at trail m) = option_map_or (nat_eq n) (number at trail) false
has_stopped number n _ = false

-- whether it failed
abbrev pub has_failed : Ending → Bool
has_failed failed = true
has_failed _ = false

-- no run has ended
pub record HaveNotEnded (u : Table) (v : List ℕ) (ends : EndTerms) : Type 0 where
  pub stops : (n : ℕ) → is_on u v (stop_of ends n) ≡ false
  pub fails : truth_at u v ends.failed ≡ false

-- ends tell how a run has ended
pub record TellsEnd (x : CellTables) (u : Table) (v : List ℕ) (number : Place → List Place → Option ℕ) (e : Ending)
    (ends : EndTerms) : Type 0 where
  pub stops : (n : ℕ) → is_on u v (stop_of ends n) ≡ has_stopped number n e
  pub memory : (n : ℕ) (at : Place) (trail : List Place) (m : Memory) → e ≡ stopped at trail m →
      number at trail ≡ Some n → FlowKeeps x u v (stop_of ends n) m
  pub fails : truth_at u v ends.failed ≡ has_failed e

-- ends tell what others told
pub record TellsSame (x : CellTables) (u : Table) (v : List ℕ) (before after : EndTerms) : Type 0 where
  pub stops : (n : ℕ) → is_on u v (stop_of after n) ≡ is_on u v (stop_of before n)
  pub memory : (n : ℕ) (m : Memory) → is_on u v (stop_of before n) ≡ true → FlowKeeps x u v (stop_of before n) m →
      FlowKeeps x u v (stop_of after n) m
  pub fails : truth_at u v after.failed ≡ truth_at u v before.failed

-- two flows are one: a run stands in it that stands in one of them, with the memory of the first where it stands there
pub record Joins (x : CellTables) (u : Table) (v : List ℕ) (f g joined : Option FlowTerms) : Type 0 where
  pub on : is_on u v joined ≡ (is_on u v f || is_on u v g)
  pub first : (m : Memory) → is_on u v f ≡ true → FlowKeeps x u v f m → FlowKeeps x u v joined m
  pub second : (m : Memory) → is_on u v f ≡ false → is_on u v g ≡ true → FlowKeeps x u v g m →
      FlowKeeps x u v joined m

-- a piece of the text leads from where a run stands to where it stands behind the piece, and, if none had ended before,
-- to how it has ended; where no run stands there, all is as it was
pub record Leads (x : CellTables) (u : Table) (v : List ℕ) (number : Place → List Place → Option ℕ)
    (piece : Memory → Ending) (f : Option FlowTerms) (before : EndTerms) (g : Option FlowTerms) (after : EndTerms) :
    Type 0 where
  pub goes : (m : Memory) → is_on u v f ≡ true → FlowKeeps x u v f m → is_on u v g ≡ has_finished (piece m)
  pub memory : (m n : Memory) → is_on u v f ≡ true → FlowKeeps x u v f m → piece m ≡ finished n →
      FlowKeeps x u v g n
  pub ends : (m : Memory) → is_on u v f ≡ true → FlowKeeps x u v f m → HaveNotEnded u v before →
      TellsEnd x u v number (piece m) after
  pub stays : is_on u v f ≡ false → is_on u v g ≡ false
  pub same : is_on u v f ≡ false → TellsSame x u v before after

-- a flow over a table: its truth is known, and so are the terms of its memory
pub record IsFlow (x : CellTables) (t : Table) (f : FlowTerms) : Type 0 where
  pub guard : IsTerm t 1 f.guard
  pub memory : IsMemory x t f.memory

-- so are those of each end
pub record AreEnds (x : CellTables) (t : Table) (ends : EndTerms) : Type 0 where
  pub stops : (n : ℕ) → IfSome (stop_of ends n) (IsFlow x t)
  pub failed : IsTruth t ends.failed

-- from a flow and ends others were made, as a piece of the text leads, whatever it reads of the values of the inputs;
-- where it falls through, a run goes on at a position
pub record Continues (x : CellTables) (number : Place → List Place → Option ℕ) (piece : List ℕ → Memory → Ending)
    (to : Option ℕ) (t n : Table) (f : Option FlowTerms) (before : EndTerms) (g : Option FlowTerms)
    (after : EndTerms) : Type 0 where
  pub grown : Extends t n
  pub sound : IsSound n
  pub flow : IfSome g (IsFlow x n)
  pub ends : AreEnds x n after
  pub count : length after.stops ≡ length before.stops
  pub position : option_map (λ h. h.position) g ≡ to
  pub leads : (u : Table) → Extends n u → (v : List ℕ) → AreInputs u v →
      Leads x u v number (piece v) f before g after

-- what leads from a flow and ends to others leaves the state variable of a number alone: the term that it had in the
-- flow it has in the one behind, and where runs have stopped, if it had it where runs had stopped before
pub record Leaves (i : ℕ) (f : Option FlowTerms) (before : EndTerms) (g : Option FlowTerms) (after : EndTerms) :
    Type 0 where
  pub flow : (id : TermId) → IfSome f (HasTerm i id) → IfSome g (HasTerm i id)
  pub stops : (id : TermId) → IfSome f (HasTerm i id) → StopsHave i id before → StopsHave i id after

-- a piece of the text leads on, and leaves each state variable alone that it does not write
pub record LeadsOn (x : CellTables) (number : Place → List Place → Option ℕ) (piece : List ℕ → Memory → Ending)
    (to : Option ℕ) (writes : ℕ → Bool) (t n : Table) (f : Option FlowTerms) (before : EndTerms)
    (g : Option FlowTerms) (after : EndTerms) : Type 0 where
  pub goes : Continues x number piece to t n f before g after
  pub leaves : (i : ℕ) → writes i ≡ false → Leaves i f before g after

-- a flow was made of another one: a run stands there that stands in that one, and at which a test holds
pub record Narrows (t n : Table) (f g : FlowTerms) (test : Table → List ℕ → Bool) : Type 0 where
  pub grown : Extends t n
  pub sound : IsSound n
  pub guard : IsTerm n 1 g.guard
  pub memory : g.memory ≡ f.memory
  pub position : g.position ≡ f.position
  pub on : (u : Table) → Extends n u → (v : List ℕ) → AreInputs u v →
      is_on u v (Some g) ≡ (is_on u v (Some f) && test u v)

-- two flows over the same cells were made one. A state variable of which both have one term keeps it
pub record MakesJoin (t n : Table) (f g joined : FlowTerms) : Type 0 where
  pub grown : Extends t n
  pub sound : IsSound n
  pub flow : (x : CellTables) → IsFlow x t f → IsFlow x t g → IsFlow x n joined
  pub position : joined.position ≡ max f.position g.position
  pub same : (i : ℕ) (id : TermId) → HasTerm i id f → HasTerm i id g → HasTerm i id joined
  pub joins : (x : CellTables) (u : Table) → Extends n u → (v : List ℕ) → AreInputs u v →
      Joins x u v (Some f) (Some g) (Some joined)

-- so were those of two that are there
pub record MakesJoinIfThere (t n : Table) (f g joined : Option FlowTerms) : Type 0 where
  pub grown : Extends t n
  pub sound : IsSound n
  pub flow : (x : CellTables) → IfSome f (IsFlow x t) → IfSome g (IsFlow x t) → IfSome joined (IsFlow x n)
  pub position : option_map (λ h. h.position) joined
      ≡ later (option_map (λ h. h.position) f) (option_map (λ h. h.position) g)
  pub same : (i : ℕ) (id : TermId) → IfSome f (HasTerm i id) → IfSome g (HasTerm i id) → IfSome joined (HasTerm i id)
  pub joins : (x : CellTables) (u : Table) → Extends n u → (v : List ℕ) → AreInputs u v → Joins x u v f g joined

-- ends tell more: the runs of a flow failed at which a test holds
pub record Fails (t n : Table) (f : FlowTerms) (test : Table → List ℕ → Bool) (before after : EndTerms) :
    Type 0 where
  pub grown : Extends t n
  pub sound : IsSound n
  pub failed : IsTruth n after.failed
  pub stops : after.stops ≡ before.stops
  pub fails : (u : Table) → Extends n u → (v : List ℕ) → AreInputs u v →
      truth_at u v after.failed ≡ (truth_at u v before.failed || is_on u v (Some f) && test u v)

-- ends tell more: the runs of a flow stopped at the location of a number
pub record Stops (t n : Table) (number : ℕ) (f : FlowTerms) (before after : EndTerms) : Type 0 where
  pub grown : Extends t n
  pub sound : IsSound n
  pub failed : after.failed ≡ before.failed
  pub count : length after.stops ≡ length before.stops
  pub others : (k : ℕ) → k ≢ number → stop_of after k ≡ stop_of before k
  pub flow : (x : CellTables) → IfSome (stop_of before number) (IsFlow x t) → IsFlow x t f →
      IfSome (stop_of after number) (IsFlow x n)
  pub same : (i : ℕ) (id : TermId) → IfSome (stop_of before number) (HasTerm i id) → HasTerm i id f →
      IfSome (stop_of after number) (HasTerm i id)
  pub joins : (x : CellTables) (u : Table) → Extends n u → (v : List ℕ) → AreInputs u v →
      Joins x u v (stop_of before number) (Some f) (stop_of after number)

-- a flow was made of another one: a term was put into the cell of a number, as a body of an instance sees it
pub record PutsAt (at : SiteBody) (number : CellNumber) (id : TermId) (f g : FlowTerms) : Type 0 where
  pub guard : g.guard ≡ f.guard
  pub position : g.position ≡ f.position
  pub memory : (x : CellTables) (t : Table) (ty : Ty) → IsMemory x t f.memory → type_at x at number ≡ Some ty →
      IsTerm t (type_bits (spec_tree x.spec) ty) id → IsMemory x t g.memory
  pub keeps : (x : CellTables) → AreApart x → (u : Table) (v : List ℕ) (m : Memory) (c : Cell) →
      Keeps x u v f.memory m → cell_at x at number ≡ Some c → Keeps x u v g.memory (put m c (value_of u v id))
  pub leaves : (x : CellTables) (c : Cell) → cell_at x at number ≡ Some c → (i : ℕ) (had : TermId) →
      is_variable i c ≡ false → HasTerm i had f → HasTerm i had g
