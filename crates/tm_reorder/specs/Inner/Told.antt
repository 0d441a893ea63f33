-- What a certificate tells once it is moved. Here c is a certificate, `moved` what it becomes, `order` the new order,
-- and `see` gives each old level's value by those of the new ones.
use Rattle.std.specs.Prelude.{◌≡◌, ℕ, ◌<◌, Bool, List, length, slice_index_or}
use Rattle.tm_cert.specs.declared.cert.Entry.{Entry}
use Rattle.tm_cert.specs.declared.cert.Rank.{Rank}
use Rattle.tm_cert.specs.Cert.{DriverData, EnvData, LevelData}
use Rattle.tm_cert.specs.Nodes.{ids_of}
use Rattle.tm_game_bits.specs.Order.{level_in}
use Rattle.tm_numbering.specs.Parts.{ArePairs}
use Rattle.tm_reorder.specs.declared.fields.Field.{Field}
use Rattle.tm_reorder.specs.Inner.Clamped.{AreWithin}
use Rattle.tm_verdict.specs.Fitting.{AreNodes}
use Rattle.tm_verdict.specs.Sets.{id_holds}

-- where each number is within its field, an old level has the value of the new level of its place
abbrev pub SeesRight : List ℕ → List ℕ → List Field → ((ℕ → Bool) → ℕ → Bool) → Type 0
SeesRight order old fields see =
    (v : ℕ → Bool) (level : ℕ) → AreWithin fields (λ place. v (level_in order place)) 0 → level < length order →
    see v level ≡ v (level_in order (slice_index_or old level 0))

-- the number n of the new entries holds where the number k of the old ones does
pub record IsTold (see : (ℕ → Bool) → ℕ → Bool) (old new : List Entry) (k n : ℕ) : Type 0 where
  pub within : n < ids_of new
  pub same : (v : ℕ → Bool) → id_holds new n v ≡ id_holds old k (see v)

-- a rank
abbrev pub RankTold : ((ℕ → Bool) → ℕ → Bool) → List Entry → List Entry → Rank → Rank → Type 0
RankTold see old new r q = (q.fair ≡ r.fair) × IsTold see old new r.set q.set

-- the ranks of a goal
abbrev pub RanksTold : ((ℕ → Bool) → ℕ → Bool) → List Entry → List Entry → List Rank → List Rank → Type 0
RanksTold see old new olds news = ArePairs (RankTold see old new) olds news (length olds)

-- a driver's certificate
pub record DriverTold (new_order : List ℕ) (see : (ℕ → Bool) → ℕ → Bool) (c moved : DriverData) : Type 0 where
  pub order : moved.order ≡ new_order
  pub nodes : AreNodes (length new_order) moved.nodes
  pub region : IsTold see c.nodes moved.nodes c.region moved.region
  pub goals : ArePairs (RanksTold see c.nodes moved.nodes) c.goals moved.goals (length c.goals)

-- a chain
abbrev pub ChainTold : ((ℕ → Bool) → ℕ → Bool) → List Entry → List Entry → List ℕ → List ℕ → Type 0
ChainTold see old new olds news = ArePairs (IsTold see old new) olds news (length olds)

-- a level
pub record LevelTold (see : (ℕ → Bool) → ℕ → Bool) (old new : List Entry) (l m : LevelData) : Type 0 where
  pub goal : m.goal ≡ l.goal
  pub set : IsTold see old new l.set m.set
  pub chains : ArePairs (ChainTold see old new) l.chains m.chains (length l.chains)

-- an environment's certificate
pub record EnvironmentTold (new_order : List ℕ) (see : (ℕ → Bool) → ℕ → Bool) (c moved : EnvData) : Type 0 where
  pub order : moved.order ≡ new_order
  pub nodes : AreNodes (length new_order) moved.nodes
  pub levels : ArePairs (LevelTold see c.nodes moved.nodes) c.levels moved.levels (length c.levels)

-- a driver's certificate was moved, and is told right where each number is within its field
abbrev pub IsDriverMoved : List ℕ → List Field → DriverData → DriverData → Type 0
IsDriverMoved order fields c moved =
    (see : (ℕ → Bool) → ℕ → Bool) × SeesRight order c.order fields see × DriverTold order see c moved

-- so was an environment's
abbrev pub IsEnvironmentMoved : List ℕ → List Field → EnvData → EnvData → Type 0
IsEnvironmentMoved order fields c moved =
    (see : (ℕ → Bool) → ℕ → Bool) × SeesRight order c.order fields see × EnvironmentTold order see c moved
