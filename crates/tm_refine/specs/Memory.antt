-- The parts of sets that are remembered.
-- g the data of a game, m a memory, c its cells, ks numbers of predicates.
use Rattle.std.specs.Prelude.{◌≡◌, ℕ, Bool, List, Some}
use Rattle.tm_abs.specs.Cells.{AreCells}
use Rattle.tm_abs.specs.declared.cells.Cells.{Cells}
use Rattle.tm_dd.specs.declared.node.NodeId.{NodeId}
use Rattle.tm_ddops.specs.Inner.Found.{Found, found_at}
use Rattle.tm_game.specs.Game.{GameData}
use Rattle.tm_refine.specs.declared.memory.Memory.{Memory}
use Rattle.tm_refine.specs.Pooled.{pool_ids, tests_of}
use Rattle.tm_refine.specs.Sided.{side_part}
use Rattle.tm_solve.specs.Ids.{Is}
use Rattle.tm_solve_exact.specs.Exact.{IsStateSet, exact_game, set_of}

-- a set is known, and an id is that of its upper or its lower part
pub record IsPart (g : GameData) (ks : List ℕ) (upper : Bool) (set part : NodeId) : Type 0 where
  pub known : IsStateSet g set
  pub is : Is (exact_game g).states (pool_ids g) part
      (side_part upper (exact_game g).states (tests_of g ks) (set_of g set))

-- each part is that of its set
abbrev pub ArePartsOver : GameData → List ℕ → Bool → Found → Type 0
ArePartsOver g ks upper parts = (set part : NodeId) → found_at parts set ≡ Some part → IsPart g ks upper set part

-- the cells of a memory are those of the game, and each part that is remembered is that of its set over them
abbrev pub AreParts : GameData → Memory → Type 0
AreParts g m =
    (c : Cells) → m.cells ≡ Some c → AreCells g c × ArePartsOver g c.tracked.items m.upper m.parts

-- the cells and the parts of a memory are those of the game, as a fact
abbrev pub Remembers : GameData → Memory → Type 0
Remembers g m = ∥ AreParts g m ∥₁

-- a memory is of a side, over the cells of predicates of these numbers
abbrev pub IsOver : GameData → Memory → List ℕ → Bool → Type 0
IsOver g m ks upper =
    (c : Cells) × (m.cells ≡ Some c) × (tests_of g c.tracked.items ≡ tests_of g ks) × (m.upper ≡ upper)
