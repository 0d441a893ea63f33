-- What a game is made from.
use Rattle.std.specs.Prelude.{ℕ, ◌+◌, ◌-◌, ◌<◌, ◌≤◌, ◌^◌, All, length, sum, take}
use Rattle.tm_flat.specs.BitStep.{HasRoom}
use Rattle.tm_flat.specs.Flat.{FlatTerms}
use Rattle.tm_flat.specs.Inputs.{AreSmall}
use Rattle.tm_flat.specs.IsFlat.{IsFlat}
use Rattle.tm_syntax.specs.Design.{DesignTree, IsDesign}
use Rattle.tm_syntax.specs.Design.Locations.{end_number}
use Rattle.tm_term.specs.Table.{Table}

-- the number of bits of a state: its numbers are all inputs but the bits of choices and of arguments
abbrev pub state_bits_in : FlatTerms → ℕ
state_bits_in f = sum (take (length f.widths - 128) f.widths)

-- the guarded updates of a design that fits into the bits that there are, whose inputs and levels are few, and whose
-- numbers and locations are words
pub record CanStart (d : DesignTree) (t : Table) (f : FlatTerms) : Type 0 where
  pub flat : IsFlat t d f
  pub room : HasRoom d
  pub small : AreSmall d
  pub design : IsDesign d
  pub inputs : length t.inputs < 2 ^ 32
  pub wide : All (λ w. w ≤ 64) f.widths
  pub locations : (p : ℕ) → end_number d p < 2 ^ 32
  pub levels : state_bits_in f + 128 + length f.pool < 2 ^ 32
