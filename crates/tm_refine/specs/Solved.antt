-- What the solutions of the two sides say of a design. predicates are those whose cells are meant.
use Rattle.std.specs.Prelude.{Bool, true, false, List}
use Rattle.tm_flat_pool.specs.Cells.{AreDriverUnions, AreLevelUnions}
use Rattle.tm_flat_pool.specs.Predicates.{Predicate}
use Rattle.tm_sem.specs.Certificates.{C1, DriverSets, Level, IsIn, MeetsMoveForm, MeetsEnvironment}
use Rattle.tm_sem.specs.State.{StateData}
use Rattle.tm_sem.specs.Step.{IsInitial}
use Rattle.tm_solve.specs.Exact.{LeavesOut}
use Rattle.tm_solve.specs.Sets.{StateSet}
use Rattle.tm_syntax.specs.Design.{DesignTree}

-- the lower side: its ranked sets are a driver's certificate where they hold the initial states, and otherwise there is
-- none over these cells
pub record IsLowerOf (d : DesignTree) (predicates : List Predicate) (c : DriverSets) : Type 0 where
  pub meets : C1 d c → MeetsMoveForm d c
  pub unions : AreDriverUnions d predicates c
  pub none : LeavesOut d c.region → (other : DriverSets) → AreDriverUnions d predicates other → ¬ MeetsMoveForm d other

-- the upper side: its levels are a certificate of the environment where an initial state is outside, and otherwise
-- there is none over these cells
pub record IsUpperOf (d : DesignTree) (predicates : List Predicate) (region : StateSet) (levels : List Level) : Type 0
  where
    pub meets : LeavesOut d region → MeetsEnvironment d levels
    pub unions : AreLevelUnions d predicates levels
    pub none : ((s : StateData) → IsInitial d s → IsIn d region s) → (others : List Level) →
        AreLevelUnions d predicates others → ¬ MeetsEnvironment d others

-- whether a set leaves out an initial state
abbrev pub IsOut : DesignTree → StateSet → Bool → Type 0
IsOut d set true = LeavesOut d set
IsOut d set false = (s : StateData) → IsInitial d s → IsIn d set s
