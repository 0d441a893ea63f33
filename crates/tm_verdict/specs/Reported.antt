-- The state that a checker reports with a condition that fails.
use Rattle.std.specs.Prelude.{◌≡◌, false}
use Rattle.tm_syntax.specs.Design.{DesignTree}
use Rattle.tm_sem.specs.State.{StateData}
use Rattle.tm_sem.specs.StateBits.{comes_before, state_bits}

-- the first of the states of a set, by the order of their bits
pub record IsFirstOf (d : DesignTree) (set : StateData → Type 0) (s : StateData) : Type 0 where
  pub here : set s
  pub none_before : (t : StateData) → set t → comes_before (state_bits d t) (state_bits d s) ≡ false
