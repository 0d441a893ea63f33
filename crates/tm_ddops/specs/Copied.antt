-- Copies of functions from one store into another.
use Rattle.std.specs.Prelude.{◌≡◌, ℕ, ◌<◌, ◌≤◌, ◌⊎◌, Bool, List, length, Contains, Some, slice_index_or}
use Rattle.tm_dd.specs.declared.node.NodeId.{NodeId}
use Rattle.tm_dd.specs.NodeId.{IsConstant, complement}
use Rattle.tm_dd.specs.Table.{Table, Knows, depth_of, means}
use Rattle.tm_ddops.specs.Inner.Found.{Found, found_at}
use Rattle.tm_ddops.specs.Manager.{IsFunction}
use Rattle.tm_ddops.specs.Reached.{Reaches}

-- as many ids as before, and each means in the new store what the one at its place meant in the old store
pub record MeanTheSame (old : Table) (olds : List NodeId) (new : Table) (news : List NodeId) : Type 0 where
  pub as_many : length news ≡ length olds
  pub functions : (i : ℕ) (d : NodeId) → i < length olds
      → IsFunction new (slice_index_or news i d) (means old (slice_index_or olds i d))

-- an id or its complement is reached from another
abbrev pub ReachesUpToMark : Table → NodeId → NodeId → Type 0
ReachesUpToMark s f g = Reaches s f g ⊎ Reaches s f (complement g)

-- each known id is a constant, or it or its complement is reached from one of the roots
abbrev pub AllReached : Table → List NodeId → Type 0
AllReached s roots = (g : NodeId) → Knows s g
    → IsConstant g ⊎ ((root : NodeId) × Contains roots root × ReachesUpToMark s root g)

-- what the new store knows beyond the old one is reached from an id, up to complement
abbrev pub AddsReached : Table → Table → NodeId → Type 0
AddsReached old new id = (g : NodeId) → Knows new g → Knows old g ⊎ ReachesUpToMark new id g

-- an id of the second store means what f means in the first, and reads no level above those of f
pub record IsCopy (from to : Table) (f id : NodeId) : Type 0 where
  pub operand : Knows from f
  pub known : Knows to id
  pub deep : depth_of from f ≤ depth_of to id
  pub meaning : (v : ℕ → Bool) → means to id v ≡ means from f v

-- each id that was found is a copy
abbrev pub AreCopies : Table → Table → Found → Type 0
AreCopies from to m = (f id : NodeId) → found_at m f ≡ Some id → IsCopy from to f id
