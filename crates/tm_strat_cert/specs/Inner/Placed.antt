-- The iterates of a solution as parts of a certificate. Here `g` is the game, `kept` are the ids that have entries, in
-- the order of these, `nodes` are the entries, and `olds` and `news` are the parts of the iterates and of the
-- certificate.
use Rattle.std.specs.Prelude.{◌≡◌, ℕ, List, length}
use Rattle.tm_cert.specs.declared.cert.Entry.{Entry}
use Rattle.tm_cert.specs.declared.cert.Rank.{Rank}
use Rattle.tm_cert.specs.Cert.{LevelData}
use Rattle.tm_dd.specs.declared.node.NodeId.{NodeId}
use Rattle.tm_game.specs.Game.{GameData}
use Rattle.tm_numbering.specs.Numbers.{AreNumbered, HasNumber}
use Rattle.tm_numbering.specs.Parts.{ArePairs, Goes}
use Rattle.tm_solve.specs.declared.iterates.Chain.{Chain}
use Rattle.tm_solve.specs.declared.iterates.LevelSet.{LevelSet}
use Rattle.tm_solve.specs.declared.iterates.RankSet.{RankSet}
use Rattle.tm_solve.specs.declared.iterates.Ranking.{Ranking}

-- the entries are the nodes of the kept ids, over the levels of a state
abbrev pub IsNumbering : GameData → List NodeId → List Entry → Type 0
IsNumbering g kept nodes = AreNumbered g.diagrams.table (length g.order) kept nodes

-- entries were added, and something holds of a part
abbrev pub Places : GameData → List NodeId → List NodeId → List Entry → Type 0 → Type 0
Places g old new nodes Part = Goes g.diagrams.table (length g.order) old new nodes Part

-- a rank has the number of its set, and waits for the same condition
abbrev pub RankPlaced : List NodeId → RankSet → Rank → Type 0
RankPlaced kept r q = (q.fair ≡ r.fair) × HasNumber kept r.set q.set

-- the ranks of a goal
abbrev pub RanksPlaced : List NodeId → List RankSet → List Rank → Type 0
RanksPlaced kept olds news = ArePairs (RankPlaced kept) olds news (length olds)

-- those of all goals
abbrev pub GoalsPlaced : List NodeId → List Ranking → List (List Rank) → Type 0
GoalsPlaced kept olds news =
    ArePairs (λ (r : Ranking) (ranks : List Rank). RanksPlaced kept r.sets.items ranks) olds news (length olds)

-- the numbers of sets
abbrev pub SetsPlaced : List NodeId → List NodeId → List ℕ → Type 0
SetsPlaced kept olds news = ArePairs (HasNumber kept) olds news (length olds)

-- the chains of a level
abbrev pub ChainsPlaced : List NodeId → List Chain → List (List ℕ) → Type 0
ChainsPlaced kept olds news =
    ArePairs (λ (c : Chain) (sets : List ℕ). SetsPlaced kept c.sets.items sets) olds news (length olds)

-- a level has the numbers of its sets, and speaks of the same goal
pub record LevelPlaced (kept : List NodeId) (l : LevelSet) (m : LevelData) : Type 0 where
  pub goal : m.goal ≡ l.goal
  pub set : HasNumber kept l.set m.set
  pub chains : ChainsPlaced kept l.chains.items m.chains

-- all levels
abbrev pub LevelsPlaced : List NodeId → List LevelSet → List LevelData → Type 0
LevelsPlaced kept olds news = ArePairs (LevelPlaced kept) olds news (length olds)
