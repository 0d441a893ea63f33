-- Which blocks fit a design.
use Rattle.std.specs.Prelude.{◌≡◌, ℕ, ◌^◌, ◌<◌, ◌≤◌, List, Option, Some, length, slice_get, All}
use Rattle.std.specs.Option.{option_and_then, option_map}
use Rattle.tm_syntax.specs.declared.design.Item.{Item}
use Rattle.tm_syntax.specs.Tree.{TaskTree}
use Rattle.tm_syntax.specs.Design.{DesignTree}
use Rattle.tm_sem.specs.State.{StateData}
use Rattle.tm_syntax.specs.declared.fault.Quantity.TheVariants as quantity
use Rattle.tm_syntax.specs.Faults.Limits.{limit_of}
use Rattle.tm_cir.specs.Tree.{NumTree, constant, var, location, goal, last, complement, binary, shift, conditional, TruthTree, num, negation, compare, join, BlockTree, test, call, leave, idle}

-- an expression's variables and locations are below these numbers, and its shifts are by less than 64
abbrev mutual
  pub FitsNum : ℕ → ℕ → NumTree → Type 0
  FitsNum vars processes (constant n) = n < 2 ^ 64
  FitsNum vars processes (var k) = k < vars
  FitsNum vars processes (location p) = p < processes
  FitsNum vars processes goal = Unit {0}
  FitsNum vars processes last = Unit {0}
  FitsNum vars processes (complement a) = FitsNum vars processes a
  FitsNum vars processes (binary op a b) = FitsNum vars processes a × FitsNum vars processes b
  FitsNum vars processes (shift op a by) = FitsNum vars processes a × (by < 64)
  FitsNum vars processes (conditional t a b) =
      FitsTruth vars processes t × FitsNum vars processes a × FitsNum vars processes b

  pub FitsTruth : ℕ → ℕ → TruthTree → Type 0
  FitsTruth vars processes (num n) = FitsNum vars processes n
  FitsTruth vars processes (negation t) = FitsTruth vars processes t
  FitsTruth vars processes (compare op a b) = FitsNum vars processes a × FitsNum vars processes b
  FitsTruth vars processes (join op t u) = FitsTruth vars processes t × FitsTruth vars processes u

-- the task that an item of a design stands for, as its template declares it
abbrev pub declared_task : DesignTree → Item → Option TaskTree
declared_task d item =
    option_and_then
    (λ node.
    option_and_then (λ t. option_and_then (slice_get t.tasks) item.index) (slice_get d.spec.templates node.template))
    (slice_get d.instances item.instance)

-- the number of parameters of a controllable task
abbrev pub parameter_count : DesignTree → ℕ → Option ℕ
parameter_count d task = option_map (λ t. length t.params) (option_and_then (declared_task d) (slice_get d.tasks task))

-- a later block than the one of this number
abbrev pub IsLater : ℕ → ℕ → ℕ → Type 0
IsLater at count target = (at < target) × (target < count)

-- a block of this number fits a design, where there are so many
abbrev pub FitsBlock : DesignTree → ℕ → ℕ → BlockTree → Type 0
FitsBlock d count at (test t first second) =
    FitsTruth (length d.vars) (length d.processes) t × IsLater at count first × IsLater at count second
FitsBlock d count at (call task args) =
    (parameter_count d task ≡ Some (length args)) × (length args ≤ limit_of quantity.Arguments)
    × All (FitsNum (length d.vars) (length d.processes)) args
FitsBlock d count at (leave p) = p < length d.processes
FitsBlock d count at idle = Unit {0}

-- the blocks fit a design: there is one, and each fits under its number
pub record FitBlocks (d : DesignTree) (bs : List BlockTree) : Type 0 where
  pub some : 0 < length bs
  pub each : (at : ℕ) (b : BlockTree) → slice_get bs at ≡ Some b → FitsBlock d (length bs) at b

-- a state has a value for each variable of a design, and a location for each process
pub record CoversDesign (d : DesignTree) (s : StateData) : Type 0 where
  pub values : length s.values ≡ length d.vars
  pub places : length s.places ≡ length d.processes

-- some design is the one of both the blocks and the state
pub record AreOfOneDesign (bs : List BlockTree) (s : StateData) : Type 0 where
  pub design : DesignTree
  pub blocks : FitBlocks design bs
  pub state : CoversDesign design s
