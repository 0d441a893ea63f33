-- Which structured drivers are well made over a design: their text is in the grammar. `d` is the design, and `p` the
-- driver.
use Rattle.std.specs.Prelude.{◌≡◌, ℕ, ◌+◌, ◌<◌, ◌≤◌, Some, length, slice_get, All}
use Rattle.tm_syntax.specs.declared.fault.Quantity.TheVariants as quantity
use Rattle.tm_syntax.specs.Faults.Limits.{limit_of}
use Rattle.tm_syntax.specs.Design.{DesignTree}
use Rattle.tm_sem.specs.State.{StateData}
use Rattle.tm_cir.specs.Fit.{FitsNum, FitsTruth, parameter_count, CoversDesign}
use Rattle.tm_struct.specs.Tree.{ActionTree, choose, call, leave, go, idle, ProgramTree}

-- an action names what there is: expressions, tasks and processes of the design, and functions below this number
abbrev pub FitsAction : DesignTree → ℕ → ActionTree → Type 0
FitsAction d below (choose t a b) =
    FitsTruth (length d.vars) (length d.processes) t × FitsAction d below a × FitsAction d below b
FitsAction d below (call task args) =
    (parameter_count d task ≡ Some (length args)) × (length args ≤ limit_of quantity.Arguments)
    × All (FitsNum (length d.vars) (length d.processes)) args
FitsAction d below (leave p) = p < length d.processes
FitsAction d below (go k) = k < below
FitsAction d below idle = Unit {0}

-- the most `if` that may be open at once
abbrev pub most_ifs : ℕ
most_ifs = 128

-- an action may stand where so many `if` are open
abbrev pub MayNest : ℕ → ActionTree → Type 0
MayNest open_ifs (choose t a b) = (open_ifs < most_ifs) × MayNest (open_ifs + 1) a × MayNest (open_ifs + 1) b
MayNest open_ifs a = Unit {0}

-- the driver is well made: each function names earlier functions alone, and no more `if` are open than may be
pub record FitsProgram (d : DesignTree) (p : ProgramTree) : Type 0 where
  pub main : FitsAction d (length p.functions) p.main
  pub functions : (k : ℕ) (a : ActionTree) → slice_get p.functions k ≡ Some a → FitsAction d k a
  pub main_nests : MayNest 0 p.main
  pub functions_nest : All (MayNest 0) p.functions

-- some design is the one of both the driver and the state
pub record AreOfOneDesign (p : ProgramTree) (s : StateData) : Type 0 where
  pub design : DesignTree
  pub program : FitsProgram design p
  pub state : CoversDesign design s
