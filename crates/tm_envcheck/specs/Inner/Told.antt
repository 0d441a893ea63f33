-- The levels that diagrams tell.
use Rattle.std.specs.Prelude.{◌≡◌, ℕ, Bool, List, Some, length, map, slice_get}
use Rattle.tm_dd.specs.declared.node.NodeId.{NodeId}
use Rattle.tm_envcheck.specs.declared.levels.LevelDiagrams.{LevelDiagrams}
use Rattle.tm_envcheck.specs.Inner.Over.{chains_in}
use Rattle.tm_game.specs.Game.{GameData}
use Rattle.tm_game.specs.Least.{test_of}
use Rattle.tm_sem.specs.Certificates.{Level, level_before, set_before}
use Rattle.tm_sem.specs.State.{StateData}
use Rattle.tm_syntax.specs.Design.{DesignTree}

-- the sets of a chain of diagrams
abbrev pub chain_told : DesignTree → GameData → List NodeId → List (StateData → Bool)
chain_told d g chain = map (test_of d g) chain

-- the level of diagrams
abbrev pub level_told : DesignTree → GameData → LevelDiagrams → Level
level_told d g l = record {
  goal = l.goal;
  set = test_of d g l.set;
  chains = map (chain_told d g) (chains_in l);
}

-- diagrams tell the level of a place, and the level before
pub record TellsLevel (d : DesignTree) (g : GameData) (levels : List Level) (k : ℕ) (l : LevelDiagrams) : Type 0 where
  pub here : slice_get levels k ≡ Some (level_told d g l)
  pub before : level_before levels k ≡ test_of d g l.before

-- diagrams tell all levels
pub record TellLevels (d : DesignTree) (g : GameData) (levels : List Level) (told : List LevelDiagrams) : Type 0 where
  pub count : length told ≡ length levels
  pub each : (k : ℕ) (l : LevelDiagrams) → slice_get told k ≡ Some l → TellsLevel d g levels k l

-- diagrams tell the set of a place in a chain, and the set before
pub record TellsSet (d : DesignTree) (g : GameData) (levels : List Level) (k i x : ℕ) (before set : NodeId) : Type 0
  where
    pub level : Level
    pub chain : List (StateData → Bool)
    pub of_level : slice_get levels k ≡ Some level
    pub of_chain : slice_get level.chains i ≡ Some chain
    pub here : slice_get chain x ≡ Some (test_of d g set)
    pub lower : set_before chain x ≡ test_of d g before
