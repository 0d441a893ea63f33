-- The diagrams of a certificate's levels, where those of all ids are given.
use Rattle.std.specs.Prelude.{◌≡◌, ℕ, zero, suc, List, Some, length, map, slice_get, slice_index_or}
use Rattle.std.specs.Option.{option_map_or}
use Rattle.tm_cert.specs.Cert.{LevelData}
use Rattle.tm_dd.specs.declared.node.NodeId.{NodeId}
use Rattle.tm_dd.specs.declared.node.TheConstants.{FALSE}
use Rattle.tm_envcheck.specs.declared.levels.LevelDiagrams.{LevelDiagrams}
use Rattle.tm_envcheck.specs.Inner.Over.{chains_in}

-- the diagram of an id
abbrev pub id_at : List NodeId → ℕ → NodeId
id_at ids set = slice_index_or ids set FALSE

-- those of a chain
abbrev pub chain_at : List NodeId → List ℕ → List NodeId
chain_at ids chain = map (id_at ids) chain

-- a level's goal, and the diagrams of its sets
pub record IsLoadedLevel (ids : List NodeId) (level : LevelData) (l : LevelDiagrams) : Type 0 where
  pub goal : l.goal ≡ level.goal
  pub set : l.set ≡ id_at ids level.set
  pub chains : chains_in l ≡ map (chain_at ids) level.chains

-- the diagram of the level before one
abbrev pub before_at : List LevelDiagrams → ℕ → NodeId
before_at told zero = FALSE
before_at told (suc k) = option_map_or (λ (l : LevelDiagrams). l.set) (slice_get told k) FALSE

-- so of all levels, each with the diagram of the level before
pub record AreLoadedLevels (ids : List NodeId) (levels : List LevelData) (told : List LevelDiagrams) : Type 0 where
  pub count : length told ≡ length levels
  pub each : (k : ℕ) (level : LevelData) (l : LevelDiagrams) → slice_get levels k ≡ Some level →
      slice_get told k ≡ Some l → IsLoadedLevel ids level l
  pub before : (k : ℕ) (l : LevelDiagrams) → slice_get told k ≡ Some l → l.before ≡ before_at told k
