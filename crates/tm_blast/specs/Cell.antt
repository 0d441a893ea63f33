-- Operations bit by bit, from the least significant bit, as ripple adders and comparers do them. No definition of what
-- a term's bits mean cites these: they stand between the code and the arithmetic of numbers.
use Rattle.std.specs.Prelude.{◌≡◌, ℕ, zero, suc, ◌/◌, ◌%◌, ◌==◌, Bool, false, ◌&&◌, ◌||◌, not, List, [], ◌∷◌, All, if◌then◌else◌}
use Rattle.tm_dd.specs.declared.node.NodeId.{NodeId}
use Rattle.tm_dd.specs.declared.node.TheConstants.{FALSE, TRUE}
use Rattle.tm_dd.specs.Table.{Table, Knows}
use Rattle.tm_ddops.specs.Connective.{xor}
use Rattle.tm_blast.specs.declared.cell.Cell.{Cell}
use Rattle.tm_blast.specs.declared.cell.Cell.TheVariants.{And, Or, Xor, Sum, Choice}
use Rattle.tm_blast.specs.declared.compare.Comparison.{Comparison}
use Rattle.tm_blast.specs.declared.compare.Comparison.TheVariants.{Equal, Less}
use Rattle.tm_blast.specs.Bits.{values_in}

-- the bit that a cell gives for two bits and what came in
abbrev pub cell_bit : Cell → Bool → Bool → Bool → Bool
cell_bit And c x y = x && y
cell_bit Or c x y = x || y
cell_bit Xor c x y = xor x y
cell_bit Sum c x y = xor x (xor y c)
cell_bit Choice c x y = if c then x else y

-- what a cell hands on: the carry of a sum
abbrev pub cell_next : Cell → Bool → Bool → Bool → Bool
cell_next And c x y = c
cell_next Or c x y = c
cell_next Xor c x y = c
cell_next Sum c x y = if xor y c then x else y
cell_next Choice c x y = c

-- what a row of cells gives for two numbers' bits
abbrev pub rippled : Cell → Bool → List Bool → List Bool → List Bool
rippled cell c [] ys = []
rippled cell c (x ∷ xs) [] = []
rippled cell c (x ∷ xs) (y ∷ ys) = cell_bit cell c x y ∷ rippled cell (cell_next cell c x y) xs ys

-- what a comparison of the lower bits becomes by two more bits
abbrev pub compared_bit : Comparison → Bool → Bool → Bool → Bool
compared_bit Equal c x y = c && not (xor x y)
compared_bit Less c x y = if xor x y then y else c

-- what a comparison of two numbers' bits gives
abbrev pub compared : Comparison → Bool → List Bool → List Bool → Bool
compared op c [] ys = c
compared op c (x ∷ xs) [] = c
compared op c (x ∷ xs) (y ∷ ys) = compared op (compared_bit op c x y) xs ys

-- as many bits as asked for: zeros, as many as `low`, then the bits of a number, then zeros
abbrev pub placed : ℕ → ℕ → List Bool → List Bool
placed low zero bits = []
placed zero (suc width) [] = false ∷ placed zero width []
placed zero (suc width) (b ∷ bits) = b ∷ placed zero width bits
placed (suc low) (suc width) bits = false ∷ placed low width bits

-- the lowest bits of a number
abbrev pub bits_of : ℕ → ℕ → List Bool
bits_of zero n = []
bits_of (suc width) n = (n % 2 == 1) ∷ bits_of width (n / 2)

-- the constant function of a value
abbrev pub constant_of : Bool → NodeId
constant_of b = if b then TRUE else FALSE

-- known ids mean bits, which each level's value determines
pub record MeanBits (s : Table) (ids : List NodeId) (bits : (ℕ → Bool) → List Bool) : Type 0 where
  pub known : All (Knows s) ids
  pub meaning : (v : ℕ → Bool) → values_in s ids v ≡ bits v
