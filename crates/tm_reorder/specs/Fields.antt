-- The numbers of a design's states. Here d is the design, and `fields` has a field for each number, in order.
use Rattle.std.specs.Prelude.{◌≡◌, ◌<◌, ◌≤◌, ◌^◌, List, All, map}
use Rattle.std.specs.List.{AllZip}
use Rattle.tm_reorder.specs.declared.fields.Field.{Field}
use Rattle.tm_sem.specs.State.{StateData}
use Rattle.tm_sem.specs.StateBits.{state_numbers, state_widths}
use Rattle.tm_sem.specs.Step.{IsState}
use Rattle.tm_syntax.specs.Design.{DesignTree}

-- a number has at most 64 bits, and its last value is a number of so many bits
pub record IsField (f : Field) : Type 0 where
  pub narrow : f.width ≤ 64
  pub fits : f.last < 2 ^ f.width

-- the fields have the widths of the numbers, and no valid state has a number above the last value of its field
pub record AreFields (d : DesignTree) (fields : List Field) : Type 0 where
  pub each : All IsField fields
  pub widths : map (λ (f : Field). f.width) fields ≡ state_widths d
  pub most : (s : StateData) → IsState d s → AllZip (λ (f : Field) n. n ≤ f.last) fields (state_numbers s)
