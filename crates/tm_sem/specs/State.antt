-- A state as plain data.
use Rattle.std.specs.Prelude.{ℕ, List}

-- the values of the state variables, the locations of the processes, and who moved last
pub record StateData : Type 0 where
  pub values : List ℕ
  pub places : List ℕ
  pub last : ℕ
