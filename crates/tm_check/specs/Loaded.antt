-- The sets of a driver's certificate as diagrams of a game.
use Rattle.std.specs.Prelude.{◌≡◌, ℕ, ◌+◌, ◌≤◌, true, List, [], Some, length, slice_get, sum}
use Rattle.std.specs.Option.{option_map_or}
use Rattle.tm_cert.specs.declared.cert.Entry.{Entry}
use Rattle.tm_cert.specs.Cert.{DriverData}
use Rattle.tm_check.specs.declared.loaded.DriverDiagrams.{DriverDiagrams}
use Rattle.tm_check.specs.declared.loaded.RankedDiagrams.{RankedDiagrams}
use Rattle.tm_dd.specs.declared.node.NodeId.{NodeId}
use Rattle.tm_dd.specs.Table.{Table}
use Rattle.tm_verdict.specs.Found.{within_rank}
use Rattle.tm_game.specs.Game.{GameData, IsOf, IsStates}
use Rattle.tm_game_bits.specs.Order.{IsOrder}
use Rattle.tm_verdict.specs.Loaded.{AreLoaded}
use Rattle.tm_sem.specs.Certificates.{DriverSets, RankedSet}
use Rattle.tm_sem.specs.Fairness.{conditions}
use Rattle.tm_sem.specs.StateBits.{state_widths}
use Rattle.tm_verdict.specs.Fitting.{AreNodes, FitsDriver}
use Rattle.tm_syntax.specs.Design.{DesignTree}

-- the diagrams of a ranked region: its states, those of its rank and lower ones, and those of lower ranks alone
pub record IsRanked (d : DesignTree) (order : List ℕ) (s : Table) (ranked : List RankedSet) (k : ℕ) (r : RankedSet)
    (told : RankedDiagrams) : Type 0 where
  pub fair : told.fair ≡ r.fair
  pub set : IsStates d order s (λ t. r.set t ≡ true) told.set
  pub within : IsStates d order s (λ t. within_rank ranked (1 + k) t ≡ true) told.within
  pub before : IsStates d order s (λ t. within_rank ranked k t ≡ true) told.before

-- the diagrams of the ranked regions of a goal
pub record AreRankedDiagrams (d : DesignTree) (order : List ℕ) (s : Table) (ranked : List RankedSet)
    (told : List RankedDiagrams) : Type 0 where
  pub count : length told ≡ length ranked
  pub each : (k : ℕ) (r : RankedSet) (x : RankedDiagrams) → slice_get ranked k ≡ Some r → slice_get told k ≡ Some x →
      IsRanked d order s ranked k r x

-- the ranked regions of a goal
abbrev pub row_at : DriverDiagrams → ℕ → List RankedDiagrams
row_at told goal = option_map_or (λ ranks. ranks.items) (slice_get told.goals.items goal) []

-- the diagrams of a certificate
pub record AreDiagrams (d : DesignTree) (order : List ℕ) (s : Table) (c : DriverSets) (told : DriverDiagrams) :
    Type 0 where
  pub region : IsStates d order s (λ t. c.region t ≡ true) told.region
  pub count : length told.goals.items ≡ length c.goals
  pub each : (j : ℕ) (ranked : List RankedSet) → slice_get c.goals j ≡ Some ranked →
      AreRankedDiagrams d order s ranked (row_at told j)

-- the ids of some entries are loaded into a game of a design
pub record IsLoadedIn (d : DesignTree) (g : GameData) (nodes : List Entry) (ids : List NodeId) : Type 0 where
  pub of : IsOf d g
  pub order : IsOrder (sum (state_widths d)) g.order
  pub nodes_are : AreNodes (length g.order) nodes
  pub loaded : AreLoaded g.diagrams.table nodes ids

-- a certificate fits a design, and follows the order of its game
pub record CanLoad (d : DesignTree) (g : GameData) (c : DriverData) : Type 0 where
  pub of : IsOf d g
  pub fits : FitsDriver (sum (state_widths d)) (length d.goals) (length (conditions d)) c
  pub order : c.order ≡ g.order
  pub levels : length g.order ≤ g.diagrams.table.levels
