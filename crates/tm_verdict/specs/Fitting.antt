-- Certificates that fit a design: those that can be read for its numbers of state bits, goals and fairness conditions.
use Rattle.std.specs.Prelude.{◌≡◌, ℕ, ◌<◌, List, All, Some, length, slice_get, take}
use Rattle.std.specs.List.Sorted.{IsPermutation}
use Rattle.std.specs.List.{range_with_len}
use Rattle.tm_cert.specs.declared.cert.Entry.{Entry}
use Rattle.tm_cert.specs.declared.cert.Rank.{Rank}
use Rattle.tm_cert.specs.Cert.{DriverData, EnvData, LevelData}
use Rattle.tm_cert.specs.CertValue.{IsNode}
use Rattle.tm_cert.specs.Nodes.{ids_of}

-- the entries are nodes of diagrams over so many levels, each over those before it
abbrev pub AreNodes : ℕ → List Entry → Type 0
AreNodes bits nodes = (k : ℕ) (e : Entry) → slice_get nodes k ≡ Some e → IsNode bits (take k nodes) e

-- a rank waits for one of so many fairness conditions, and its set is one of so many ids
pub record FitsRank (fairs ids : ℕ) (r : Rank) : Type 0 where
  pub fair : r.fair < fairs
  pub set : r.set < ids

-- a level speaks of one of so many goals, and has a chain for each of so many fairness conditions; its sets are some of
-- so many ids
pub record FitsLevel (goals fairs ids : ℕ) (l : LevelData) : Type 0 where
  pub goal : l.goal < goals
  pub set : l.set < ids
  pub count : length l.chains ≡ fairs
  pub chains : All (All (λ set. set < ids)) l.chains

-- a driver's certificate fits: its order has each place once, and it has ranks for each goal
pub record FitsDriver (bits goals fairs : ℕ) (c : DriverData) : Type 0 where
  pub order : IsPermutation (range_with_len 0 bits) c.order
  pub nodes : AreNodes bits c.nodes
  pub region : c.region < ids_of c.nodes
  pub count : length c.goals ≡ goals
  pub ranks : All (All (FitsRank fairs (ids_of c.nodes))) c.goals

-- an environment's certificate fits
pub record FitsEnvironment (bits goals fairs : ℕ) (c : EnvData) : Type 0 where
  pub order : IsPermutation (range_with_len 0 bits) c.order
  pub nodes : AreNodes bits c.nodes
  pub levels : All (FitsLevel goals fairs (ids_of c.nodes)) c.levels
