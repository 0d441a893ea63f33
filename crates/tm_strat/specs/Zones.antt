-- From which states moves are to end in which sets while a goal is pending, as functions of values of levels. Here z is
-- what zones are made of, and t are diagrams.
use Rattle.std.specs.Prelude.{◌≡◌, ℕ, zero, suc, ◌&&◌, ◌||◌, false, not, List, Some, length, map, slice_get}
use Rattle.std.specs.Prelude.{slice_index_or, take}
use Rattle.std.specs.List.{list_any}
use Rattle.tm_dd.specs.declared.node.NodeId.{NodeId}
use Rattle.tm_dd.specs.Table.{Table, means}
use Rattle.tm_ddops.specs.Manager.{IsFunction}
use Rattle.tm_game.specs.Game.{GameData}
use Rattle.tm_game_bits.specs.Functions.{Function}
use Rattle.tm_solve.specs.declared.iterates.RankSet.{RankSet}
use Rattle.tm_strat.specs.Choice.{id_in}
use Rattle.tm_strat.specs.declared.good.NewStates.{NewStates}

-- a ranked set, and where the condition that it waits for holds
pub record Rank : Type 0 where
  pub set : Function
  pub fair : Function

-- the region, where the driver can be picked, where the goal holds, and the ranked sets of the goal
pub record Zoning : Type 0 where
  pub region : Function
  pub turn : Function
  pub goal : Function
  pub ranks : List Rank

-- nowhere
abbrev pub nothing : Function
nothing v = false

-- at a turn in the region
abbrev pub here : Zoning → Function
here z v = z.region v && z.turn v

-- there where the goal holds, and where it fails
abbrev pub met : Zoning → Function
met z v = here z v && z.goal v

abbrev pub failing : Zoning → Function
failing z v = here z v && not (z.goal v)

-- the rank of an index; where there is none, nowhere
abbrev pub rank_at : Zoning → ℕ → Rank
rank_at z k = slice_index_or z.ranks k (record { set = nothing; fair = nothing })

-- in one of the first so many ranked sets
abbrev pub before : Zoning → ℕ → Function
before z k v = list_any (λ (r : Rank). r.set v) (take k z.ranks)

-- where the goal fails, in the ranked set of an index and in none before it
abbrev pub added : Zoning → ℕ → Function
added z k v = (failing z v && (rank_at z k).set v) && not (before z k v)

-- there where the condition of the rank fails, and where it holds
abbrev pub waiting : Zoning → ℕ → Function
waiting z k v = added z k v && not ((rank_at z k).fair v)

abbrev pub falling : Zoning → ℕ → Function
falling z k v = added z k v && (rank_at z k).fair v

-- from where moves are to end in the target of an index
abbrev pub zone : Zoning → ℕ → Function
zone z zero v = met z v
zone z (suc k) v = waiting z k v || falling z (suc k) v

-- the region, and behind it for each rank the states of no higher one
abbrev pub target : Zoning → ℕ → Function
target z zero = z.region
target z (suc k) = before z (suc k)

-- ---- as ids
-- what the ids of a ranked set mean
abbrev pub rank_in : GameData → RankSet → Rank
rank_in g r = record {
  set = means g.diagrams.table r.set;
  fair = means g.diagrams.table (id_in g.fairs r.fair);
}

-- what ids of a game mean as a zoning
abbrev pub zoning_of : GameData → NodeId → List RankSet → ℕ → Zoning
zoning_of g region ranks goal = record {
  region = means g.diagrams.table region;
  turn = means g.diagrams.table g.turn;
  goal = means g.diagrams.table (id_in g.goals goal);
  ranks = map (rank_in g) ranks;
}

-- ids of a game mean the parts of a zoning
pub record Tells (g : GameData) (region : NodeId) (ranks : List RankSet) (goal : ℕ) (z : Zoning) : Type 0 where
  pub region_is : IsFunction g.diagrams.table region z.region
  pub turn_is : IsFunction g.diagrams.table g.turn z.turn
  pub goal_is : IsFunction g.diagrams.table (id_in g.goals goal) z.goal
  pub count : length z.ranks ≡ length ranks
  pub set_is : (k : ℕ) (r : RankSet) → slice_get ranks k ≡ Some r →
      IsFunction g.diagrams.table r.set (rank_at z k).set
  pub fair_is : (k : ℕ) (r : RankSet) → slice_get ranks k ≡ Some r →
      IsFunction g.diagrams.table (id_in g.fairs r.fair) (rank_at z k).fair

-- new states of a rank at which its condition fails, and at which it holds
pub record AreNew (t : Table) (added fair : Function) (n : NewStates) : Type 0 where
  pub waiting : IsFunction t n.waiting (λ v. added v && not (fair v))
  pub falling : IsFunction t n.falling (λ v. added v && fair v)

-- the new states of the first so many ranks
pub record AreWaits (t : Table) (z : Zoning) (n : ℕ) (waits : List NewStates) : Type 0 where
  pub count : length waits ≡ n
  pub waiting_is : (k : ℕ) (w : NewStates) → slice_get waits k ≡ Some w → IsFunction t w.waiting (waiting z k)
  pub falling_is : (k : ℕ) (w : NewStates) → slice_get waits k ≡ Some w → IsFunction t w.falling (falling z k)

-- the first so many zones
pub record AreZones (t : Table) (z : Zoning) (n : ℕ) (ids : List NodeId) : Type 0 where
  pub count : length ids ≡ n
  pub each : (k : ℕ) (id : NodeId) → slice_get ids k ≡ Some id → IsFunction t id (zone z k)

-- the first so many targets
pub record AreTargets (t : Table) (z : Zoning) (n : ℕ) (ids : List NodeId) : Type 0 where
  pub count : length ids ≡ n
  pub each : (k : ℕ) (id : NodeId) → slice_get ids k ≡ Some id → IsFunction t id (target z k)
