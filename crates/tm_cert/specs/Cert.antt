-- Certificates as plain data.
use Rattle.std.specs.Prelude.{ℕ, List}
use Rattle.tm_cert.specs.declared.cert.Entry.{Entry}
use Rattle.tm_cert.specs.declared.cert.Rank.{Rank}

-- a driver's: the order of the levels, the nodes, the region, and for each goal its ranks
pub record DriverData : Type 0 where
  pub order : List ℕ
  pub nodes : List Entry
  pub region : ℕ
  pub goals : List (List Rank)

-- a level of an environment's: its goal, its set, and for each fairness condition a chain of sets
pub record LevelData : Type 0 where
  pub goal : ℕ
  pub set : ℕ
  pub chains : List (List ℕ)

-- an environment's: the order of the diagrams' levels, the nodes, and the levels of the game
pub record EnvData : Type 0 where
  pub order : List ℕ
  pub nodes : List Entry
  pub levels : List LevelData
