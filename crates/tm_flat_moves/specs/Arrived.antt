-- Where the runs of a step have arrived.
use Rattle.std.specs.Prelude.{◌≡◌, ◌≢◌, ◌<◌, ℕ, Bool, true, false, Option, None, Some, List, IfSome, IsSomeAnd, length, nat_eq}
use Rattle.std.specs.Option.{option_map, option_map_or}
use Rattle.tm_base.specs.Arithmetic.{choice}
use Rattle.tm_syntax.specs.Design.{DesignTree}
use Rattle.tm_syntax.specs.Design.Locations.{end_number, location_number}
use Rattle.tm_scope.specs.Cells.{CellTables}
use Rattle.tm_term.specs.declared.term.TermId.{TermId}
use Rattle.tm_term.specs.Table.{Table, IsSound}
use Rattle.tm_term.specs.Value.{AreInputs, value_of, Extends}
use Rattle.tm_sem.specs.Run.{Ending, stopped, finished, failed, blocked}
use Rattle.tm_sem.specs.Value.{Memory}
use Rattle.tm_flat.specs.Steps.{IsTerm}
use Rattle.tm_flat_exprs.specs.Made.{truth_at, value_at}
use Rattle.tm_flat_stmts.specs.Flows.{EndTerms, FlowKeeps, FlowTerms, HasTerm, IsFlow, MakesJoin, StopsHave, is_on, stop_of}
use Rattle.tm_flat_moves.specs.declared.arrivals.Arrived.{Arrived}

-- the flow of the runs that have arrived
abbrev pub flow_of : Option Arrived → Option FlowTerms
flow_of a = option_map (λ (x : Arrived). x.flow) a

-- a run stands at the location of this number alone
pub record StandsAlone (u : Table) (v : List ℕ) (ends : EndTerms) (k : ℕ) : Type 0 where
  pub here : is_on u v (stop_of ends k) ≡ true
  pub others : (j : ℕ) → j ≢ k → is_on u v (stop_of ends j) ≡ false

-- a run has arrived at the location of a number, with a memory
pub record StandsAt (x : CellTables) (u : Table) (v : List ℕ) (a : Option Arrived) (k : ℕ) (m : Memory) : Type 0 where
  pub on : is_on u v (flow_of a) ≡ true
  pub keeps : FlowKeeps x u v (flow_of a) m
  pub place : value_at u v (option_map (λ (x : Arrived). x.place) a) ≡ k

-- the runs that stand at the locations below a number were made one flow, with the number of the location as a term
pub record Arrives (x : CellTables) (t n : Table) (width : ℕ) (ends : EndTerms) (most : ℕ) (a : Option Arrived) :
    Type 0 where
  pub grown : Extends t n
  pub sound : IsSound n
  pub flow : IfSome a (λ k. IsFlow x n k.flow)
  pub place : IfSome a (λ k. IsTerm n width k.place)
  pub on : (u : Table) → Extends n u → (v : List ℕ) → AreInputs u v → (k : ℕ) → k < most → StandsAlone u v ends k →
      (m : Memory) → FlowKeeps x u v (stop_of ends k) m → StandsAt x u v a k m
  pub off : (u : Table) → Extends n u → (v : List ℕ) → AreInputs u v →
      ((k : ℕ) → k < most → is_on u v (stop_of ends k) ≡ false) → is_on u v (flow_of a) ≡ false
  pub same : (i : ℕ) (id : TermId) → StopsHave i id ends → IfSome a (λ k. HasTerm i id k.flow)

-- the runs of one more location were made one flow with those before
pub record ArrivesMore (t n : Table) (width number : ℕ) (before : Arrived) (stop : FlowTerms) (a : Arrived) : Type 0
  where
    pub mid : Table
    pub join : MakesJoin t mid before.flow stop a.flow
    pub later : Extends mid n
    pub sound : IsSound n
    pub place : IsTerm n width a.place
    pub value : (u : Table) → Extends n u → (v : List ℕ) → AreInputs u v →
        value_of u v a.place ≡ choice (value_of u v before.flow.guard) (value_of u v before.place) number

-- where a run arrives, as a process tells it: at the location of a number, with a memory
abbrev pub arrival : DesignTree → ℕ → Ending → Option (ℕ × Memory)
arrival d p (stopped at trail m) = Some (location_number d p at trail, m)
arrival d p (finished m) = Some (end_number d p, m)
arrival d p failed = None
arrival d p blocked = None

-- ends tell where a run has arrived, and whether it has failed
pub record TellsArrival (x : CellTables) (u : Table) (v : List ℕ) (to : Option (ℕ × Memory)) (fails : Bool)
    (ends : EndTerms) : Type 0 where
  pub stops : (n : ℕ) → is_on u v (stop_of ends n) ≡ option_map_or (λ (a : ℕ × Memory). nat_eq n a.0) to false
  pub memory : (n : ℕ) (m : Memory) → to ≡ Some (n, m) → FlowKeeps x u v (stop_of ends n) m
  pub within : (n : ℕ) (m : Memory) → to ≡ Some (n, m) → n < length ends.stops
  pub failure : truth_at u v ends.failed ≡ fails

-- those of the first location at which a run stands
pub record ArrivesFirst (t n : Table) (width number : ℕ) (stop : FlowTerms) (a : Arrived) : Type 0 where
  pub grown : Extends t n
  pub sound : IsSound n
  pub flow : a.flow ≡ stop
  pub place : IsTerm n width a.place
  pub value : (u : Table) → Extends n u → (v : List ℕ) → AreInputs u v → value_of u v a.place ≡ number

-- those of one more location, if there are some
abbrev pub ArrivesOn : Table → Table → ℕ → ℕ → Option Arrived → Option FlowTerms → Option Arrived → Type 0
ArrivesOn t n width number before None a = (n ≡ t) × (a ≡ before)
ArrivesOn t n width number None (Some stop) a = IsSomeAnd a (ArrivesFirst t n width number stop)
ArrivesOn t n width number (Some before) (Some stop) a = IsSomeAnd a (ArrivesMore t n width number before stop)
