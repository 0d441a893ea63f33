-- How an answer is found. `s` is the state, `g` the number of the pending goal, and `fs` are the functions.
use Rattle.std.specs.Prelude.{ℕ, ◌<◌, ◌≤◌, List, Option, None, Some, All, length, slice_get}
use Rattle.std.specs.Option.{option_map_or}
use Rattle.tm_syntax.specs.declared.fault.Quantity.TheVariants as quantity
use Rattle.tm_syntax.specs.Faults.Limits.{limit_of}
use Rattle.tm_sem.specs.State.{StateData}
use Rattle.tm_sem.specs.declared.state.Move.{Move}
use Rattle.tm_cir.specs.Fit.{FitsNum, FitsTruth}
use Rattle.tm_struct.specs.Tree.{ActionTree, choose, call, leave, go, idle, ProgramTree}
use Rattle.tm_struct.specs.Answer.{LeadsTo}

-- an action has what evaluation at the state needs, and names functions below this number
abbrev pub FitsAt : StateData → ℕ → ActionTree → Type 0
FitsAt s below (choose t a b) =
    FitsTruth (length s.values) (length s.places) t × FitsAt s below a × FitsAt s below b
FitsAt s below (call task args) =
    (length args ≤ limit_of quantity.Arguments) × All (FitsNum (length s.values) (length s.places)) args
FitsAt s below (leave p) = Unit {0}
FitsAt s below (go k) = k < below
FitsAt s below idle = Unit {0}

-- what the function of this number does, and above all numbers, what `driver_turn` does
abbrev pub body_of : ProgramTree → ℕ → ActionTree
body_of p at = option_map_or (λ a. a) (slice_get p.functions at) p.main

-- an action that is no test
abbrev pub IsNoTest : ActionTree → Type 0
IsNoTest (choose t a b) = ⊥
IsNoTest a = Unit {0}

-- the tests of an action lead to this end
pub record IsEndOf (s : StateData) (g : ℕ) (a end : ActionTree) : Type 0 where
  pub ends : IsNoTest end
  pub fits : (below : ℕ) → FitsAt s below a → FitsAt s below end
  pub leads : (fs : List ActionTree) (m : Move) → LeadsTo fs s g end m → LeadsTo fs s g a m
