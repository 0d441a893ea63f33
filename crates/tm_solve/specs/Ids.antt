-- What ids stand for: sets of states.
use Rattle.std.specs.Prelude.{◌≡◌, ℕ, Bool, List}
use Rattle.tm_dd.specs.declared.node.NodeId.{NodeId}
use Rattle.tm_sem.specs.State.{StateData}
use Rattle.tm_solve.specs.Sets.{StateSet, IsSame}
use Rattle.tm_solve.specs.Game.{Game}
use Rattle.tm_syntax.specs.Design.{DesignTree}

-- over the cells of which predicates of a design's pool sets are taken, by their numbers, whether a step operator gives
-- its upper parts there or its lower ones, and the game whose parts they are
pub record Side : Type 0 where
  pub tracked : List ℕ
  pub upper : Bool
  pub game : Game

-- which ids are known, which are kept though they may be no sets of this side, the set that each means, of which
-- designs the sets are, and the side
pub record Ids : Type 1 where
  pub knows : NodeId → Type 0
  pub kept : NodeId → Type 0
  pub means : NodeId → StateSet
  pub of : DesignTree → Type 0
  pub side : Side

-- an id is known and means this set
pub record Is (n : List StateData) (ids : Ids) (id : NodeId) (set : StateSet) : Type 0 where
  pub known : ids.knows id
  pub means : IsSame n (ids.means id) set

-- of known ids, those of one set are one
pub record IsExact (n : List StateData) (ids : Ids) : Type 0 where
  pub equal : (a b : NodeId) → ids.knows a → ids.knows b → IsSame n (ids.means a) (ids.means b) → a ≡ b

-- known ids stay known, kept ids stay kept, each means what it meant, and the designs and the side stay
pub record Extends (old new : Ids) : Type 0 where
  pub known : (id : NodeId) → old.knows id → new.knows id
  pub same : (id : NodeId) → old.knows id → new.means id ≡ old.means id
  pub kept : (id : NodeId) → old.kept id → new.kept id × (new.means id ≡ old.means id)
  pub of : (d : DesignTree) → old.of d → new.of d
  pub side : new.side ≡ old.side

-- known ids stay known and mean what they meant, and the designs stay, whatever the side
pub record Stay (old new : Ids) : Type 0 where
  pub known : (id : NodeId) → old.knows id → new.knows id
  pub same : (id : NodeId) → old.knows id → new.means id ≡ old.means id
  pub of : (d : DesignTree) → old.of d → new.of d

-- the game stays, known ids stay, and ids are equal exactly where their sets are
pub record Follows (g : Game) (old : Ids) (g' : Game) (new : Ids) : Type 0 where
  pub game : g' ≡ g
  pub extends : Extends old new
  pub exact : IsExact g.states new
