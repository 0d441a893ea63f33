-- The parts of a certificate, numbered anew. Here `ids` are the diagrams of the old numbers, and `kept` the ids that
-- have new entries.
use Rattle.std.specs.Prelude.{◌≡◌, ℕ, ◌<◌, List, All, Some, length, slice_get}
use Rattle.tm_cert.specs.declared.cert.Entry.{Entry}
use Rattle.tm_cert.specs.declared.cert.Rank.{Rank}
use Rattle.tm_cert.specs.Cert.{LevelData}
use Rattle.tm_dd.specs.declared.node.NodeId.{NodeId}
use Rattle.tm_dd.specs.Table.{Table}
use Rattle.tm_numbering.specs.Numbers.{AreNumbered, HasNumber, IsOver}
use Rattle.tm_numbering.specs.Parts.{ArePairs, Goes}

-- all ids are known
abbrev pub AreIds : Table → List NodeId → Type 0
AreIds s ids = All (IsOver s s.levels) ids

-- the new entries so far
abbrev pub AreEntries : Table → List NodeId → List Entry → Type 0
AreEntries s kept nodes = AreNumbered s s.levels kept nodes

-- new entries were added, and a part stands
abbrev pub Places : Table → List NodeId → List NodeId → List Entry → Type 0 → Type 0
Places s old new nodes Part = Goes s s.levels old new nodes Part

-- n is the new number of the diagram of an old one
abbrev pub Stands : List NodeId → List NodeId → ℕ → ℕ → Type 0
Stands ids kept old n = (id : NodeId) × (slice_get ids old ≡ Some id) × HasNumber kept id n

-- a rank
abbrev pub RankStands : List NodeId → List NodeId → Rank → Rank → Type 0
RankStands ids kept r q = (q.fair ≡ r.fair) × Stands ids kept r.set q.set

-- the ranks of a goal
abbrev pub RanksStand : List NodeId → List NodeId → List Rank → List Rank → Type 0
RanksStand ids kept olds news = ArePairs (RankStands ids kept) olds news (length olds)

-- the ranks of all goals
abbrev pub GoalsStand : List NodeId → List NodeId → List (List Rank) → List (List Rank) → Type 0
GoalsStand ids kept olds news = ArePairs (RanksStand ids kept) olds news (length olds)

-- a chain
abbrev pub ChainStands : List NodeId → List NodeId → List ℕ → List ℕ → Type 0
ChainStands ids kept olds news = ArePairs (Stands ids kept) olds news (length olds)

-- the chains of a level
abbrev pub ChainsStand : List NodeId → List NodeId → List (List ℕ) → List (List ℕ) → Type 0
ChainsStand ids kept olds news = ArePairs (ChainStands ids kept) olds news (length olds)

-- a level
pub record LevelStands (ids kept : List NodeId) (l m : LevelData) : Type 0 where
  pub goal : m.goal ≡ l.goal
  pub set : Stands ids kept l.set m.set
  pub chains : ChainsStand ids kept l.chains m.chains

-- all levels
abbrev pub LevelsStand : List NodeId → List NodeId → List LevelData → List LevelData → Type 0
LevelsStand ids kept olds news = ArePairs (LevelStands ids kept) olds news (length olds)

-- the sets of a level are some of so many ids
pub record AreLevelSets (count : ℕ) (l : LevelData) : Type 0 where
  pub set : l.set < count
  pub chains : All (All (λ set. set < count)) l.chains
