-- What the expressions of a driver's blocks are worth where the inputs of a game have values.
use Rattle.std.specs.Prelude.{ℕ, ◌+◌, ◌<◌, ◌≤◌, ◌^◌, All, List, drop, length, slice_index, take}
use Rattle.tm_check.specs.declared.terms.Reading.{Reading}
use Rattle.tm_base.specs.Arithmetic.{bit}
use Rattle.tm_cir.specs.Meaning.{holds, num_value}
use Rattle.tm_cir.specs.Tree.{NumTree, TruthTree}
use Rattle.tm_sem.specs.State.{StateData}

-- the state that the first inputs tell: its variables, the locations of its processes, and who moved last
abbrev pub state_in : Reading → List ℕ → StateData
state_in r values = record {
  values = take r.vars values;
  places = take r.processes (drop r.vars values);
  last = slice_index values (r.vars + r.processes);
}

-- the value of a number
abbrev pub num_at : Reading → NumTree → List ℕ → ℕ
num_at r num values = num_value (state_in r values) r.goal num

-- the value of a test as one bit
abbrev pub truth_at : Reading → TruthTree → List ℕ → ℕ
truth_at r truth values = bit (holds (state_in r values) r.goal truth)

-- the numbers of a state are among the inputs, which are numbered in 32 bits and have at most 64 bits each
pub record CanRead (inputs : List ℕ) (r : Reading) : Type 0 where
  pub there : r.vars + r.processes < length inputs
  pub few : length inputs < 2 ^ 32
  pub wide : All (λ w. w ≤ 64) inputs
