-- Moves with constant arguments that are good at some state of a set. Here pairs are those of one shape, or of each.
use Rattle.std.specs.Prelude.{◌≡◌, ℕ, ◌+◌, ◌<◌, ◌^◌, ◌&&◌, Bool, true, false, List, Option, None, Some, length, map}
use Rattle.std.specs.Prelude.{slice_index_or}
use Rattle.std.specs.List.{range_with_len}
use Rattle.tm_base.specs.Bits.{bits_of}
use Rattle.tm_dd.specs.declared.node.NodeId.{NodeId}
use Rattle.tm_dd.specs.declared.node.TheConstants.{FALSE, TRUE}
use Rattle.tm_dd.specs.Table.{assignment, means}
use Rattle.tm_game.specs.Game.{GameData}
use Rattle.tm_game_bits.specs.Functions.{Assignment}
use Rattle.tm_solve.specs.Sets.{StateSet}
use Rattle.tm_solve_exact.specs.Exact.{exact_game, set_of}
use Rattle.tm_strat.specs.Choice.{constant_set, id_in}
use Rattle.tm_strat_drafts.specs.Sets.{HasState}
use Rattle.tm_strat_drafts.specs.declared.drafts.MoveChoice.{MoveChoice}
use Rattle.tm_strat_drafts.specs.declared.drafts.MoveChoice.TheVariants.{Candidate, Constant}

-- 64 bits are those of a list from one on, false where there is none
pub record AreBitsFrom (values : List Bool) (first bits : ℕ) : Type 0 where
  pub each : (k : ℕ) → k < 64 → slice_index_or (bits_of 64 bits) k false ≡ slice_index_or values (first + k) false

-- a number has so many bits, which are those of a list from one on
pub record AreFirstBits (values : List Bool) (first n bits : ℕ) : Type 0 where
  pub below : bits < 2 ^ n
  pub each : (k : ℕ) → k < n → slice_index_or (bits_of n bits) k false ≡ slice_index_or values (first + k) false

-- a function is true at values of levels that have these bits for the arguments
pub record HasBits (g : GameData) (id : NodeId) (bits : ℕ) : Type 0 where
  pub values : List Bool
  pub holds : means g.diagrams.table id (assignment values) ≡ true
  pub those : AreBitsFrom values (length g.order) bits

-- the states of a set at which pairs hold with the bits of a number
abbrev pub met_by : GameData → NodeId → NodeId → ℕ → StateSet
met_by g pairs set bits s = set_of g set s && constant_set g pairs bits s

-- no values of levels are in both
pub record AreApart (g : GameData) (pairs set : NodeId) : Type 0 where
  pub apart : (v : Assignment) → means g.diagrams.table pairs v ≡ true → means g.diagrams.table set v ≡ true → ⊥

-- pairs hold at some state of a set with these bits, or at none with any
abbrev pub BitsOrNone : GameData → NodeId → NodeId → Option ℕ → Type 0
BitsOrNone g pairs set None = AreApart g pairs set
BitsOrNone g pairs set (Some bits) = HasState (exact_game g).states (met_by g pairs set bits)

-- a move with constant arguments is good at some state of a set
abbrev pub IsConstant : GameData → List NodeId → NodeId → MoveChoice → Type 0
IsConstant g pairs set (Candidate n) = ⊥
IsConstant g pairs set (Constant shape bits) = HasState (exact_game g).states (met_by g (id_in pairs shape) set bits)

-- none of the first so many shapes has a move that is good at some state of a set
pub record NoneBelow (g : GameData) (pairs : List NodeId) (set : NodeId) (n : ℕ) : Type 0 where
  pub none : (k : ℕ) → k < n → AreApart g (id_in pairs k) set

-- a move is, or no move of any shape is
abbrev pub ConstantOrNone : GameData → List NodeId → NodeId → Option MoveChoice → Type 0
ConstantOrNone g pairs set None = NoneBelow g pairs set (length pairs)
ConstantOrNone g pairs set (Some m) = IsConstant g pairs set m

-- a truth value as a diagram
abbrev pub constant_id : Bool → NodeId
constant_id true = TRUE
constant_id false = FALSE

-- the first n of the 64 bits of a number as diagrams, on levels from one on
abbrev pub constant_parts : ℕ → ℕ → ℕ → List (ℕ × NodeId)
constant_parts first bits n =
    map (λ k. (first + k, constant_id (slice_index_or (bits_of 64 bits) k false))) (range_with_len 0 n)
