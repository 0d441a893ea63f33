-- Diagrams of levels that a game knows.
use Rattle.std.specs.Prelude.{◌≡◌, ℕ, ◌<◌, ◌&&◌, List, Some, length, map, not, slice_get}
use Rattle.tm_dd.specs.declared.node.NodeId.{NodeId}
use Rattle.tm_dd.specs.Table.{means}
use Rattle.tm_envcheck.specs.declared.levels.LevelDiagrams.{LevelDiagrams}
use Rattle.tm_game_bits.specs.Functions.{Assignment}
use Rattle.tm_game.specs.Game.{GameData, IsOf, IsSet}
use Rattle.tm_game.specs.Start.{state_bits_in}
use Rattle.tm_game_bits.specs.Order.{IsOrder}
use Rattle.tm_syntax.specs.Design.{DesignTree}

-- a game is that of some design, and its levels follow an order of the bits of a state
pub record IsReady (g : GameData) : Type 0 where
  pub design : (d : DesignTree) × IsOf d g
  pub order : IsOrder (state_bits_in g.flat) g.order

-- each of some ids is a set of states
abbrev pub AreSets : GameData → List NodeId → Type 0
AreSets g ids = (x : ℕ) (id : NodeId) → slice_get ids x ≡ Some id → IsSet g id

-- the chains of a level, as lists of ids
abbrev pub chains_in : LevelDiagrams → List (List NodeId)
chains_in l = map (λ chain. chain.items) l.chains.items

-- the sets of a level are sets of states, it speaks of a goal, and it has a chain for each fairness condition
pub record IsLevelOver (g : GameData) (l : LevelDiagrams) : Type 0 where
  pub goal : l.goal < length g.goals
  pub set : IsSet g l.set
  pub before : IsSet g l.before
  pub added : IsSet g l.added
  pub added_is : (v : Assignment) → means g.diagrams.table l.added v
      ≡ (means g.diagrams.table l.set v && not (means g.diagrams.table l.before v))
  pub fairs : length (chains_in l) ≡ length g.fairs
  pub chains : (i : ℕ) (chain : List NodeId) → slice_get (chains_in l) i ≡ Some chain → AreSets g chain

-- so is each of some levels
abbrev pub AreLevelsOver : GameData → List LevelDiagrams → Type 0
AreLevelsOver g levels = (k : ℕ) (l : LevelDiagrams) → slice_get levels k ≡ Some l → IsLevelOver g l
