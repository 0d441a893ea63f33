-- The inputs of the terms: the numbers of a state, 64 bits of choices and 64 bits of arguments.
use Rattle.std.specs.Prelude.{◌≡◌, ℕ, ◌+◌, ◌<◌, ◌≤◌, ◌^◌, ◌==◌, Bool, Some, List, [], ◌∷◌, ◌++◌, length, map, replicate, take, drop, slice_index}
use Rattle.tm_syntax.specs.Design.{DesignTree}
use Rattle.tm_syntax.specs.Design.Cells.{Cell}
use Rattle.tm_syntax.specs.Design.Sizes.{type_size, type_bits}
use Rattle.tm_syntax.specs.declared.design.Ty.TheVariants as types
use Rattle.tm_syntax.specs.Design.Locations.{end_number}
use Rattle.tm_sem.specs.State.{StateData}
use Rattle.tm_sem.specs.StateBits.{state_widths, state_numbers}
use Rattle.tm_sem.specs.Run.{asked_by}
use Rattle.tm_flat.specs.BitRun.{number_at}

-- how many bits there are for the choices of a step, and for the arguments of a call
unfoldable pub room : ℕ
room = 64

-- the widths of the inputs
abbrev pub input_widths : DesignTree → List ℕ
input_widths d = state_widths d ++ replicate room 1 ++ replicate room 1

-- the values of the inputs
abbrev pub input_values : StateData → List ℕ → List ℕ → List ℕ
input_values s choices arguments = state_numbers s ++ choices ++ arguments

-- the number of the first input that is a bit of choices: those before it are of a state
abbrev pub first_choice : DesignTree → ℕ
first_choice d = length d.vars + (length d.processes + 1)

-- as many bits as there are for choices or arguments
pub record AreBits (bits : List ℕ) : Type 0 where
  pub count : length bits ≡ room
  pub each : (k : ℕ) → slice_index bits k < 2

-- the bits of a list by position; none is set past its end
abbrev pub bits_in : List ℕ → ℕ → Bool
bits_in bits k = slice_index bits k == 1

-- the arguments that bits hold from a position on: in order, each with its most significant bit first
abbrev pub arguments_from : DesignTree → List Cell → (ℕ → Bool) → ℕ → List ℕ
arguments_from d [] bits k = []
arguments_from d (c ∷ cs) bits k =
    number_at bits k (type_bits d.spec (asked_by d (Some c)))
    ∷ arguments_from d cs bits (k + type_bits d.spec (asked_by d (Some c)))

-- the arguments that bits hold for these parameters
abbrev pub arguments_in : DesignTree → List Cell → List ℕ → List ℕ
arguments_in d params bits = arguments_from d params (bits_in bits) 0

-- how many bits hold each argument
abbrev pub parameter_widths : DesignTree → List Cell → List ℕ
parameter_widths d params = map (λ c. type_bits d.spec (asked_by d (Some c))) params

-- the state that numbers tell, in the order of the inputs
abbrev pub state_from : DesignTree → List ℕ → StateData
state_from d numbers = record {
  values = take (length d.vars) numbers;
  places = take (length d.processes) (drop (length d.vars) numbers);
  last = slice_index numbers (length d.vars + length d.processes);
}

-- which input tells what: the variables of a state, the locations, who moved last, bits of choices and of arguments
pub record AreInOrder (d : DesignTree) (s : StateData) (choices arguments inputs : List ℕ) : Type 0 where
  pub variables : (v : ℕ) → v < length d.vars → slice_index inputs v ≡ slice_index s.values v
  pub places : (p : ℕ) → p < length d.processes → slice_index inputs (length d.vars + p) ≡ slice_index s.places p
  pub last : slice_index inputs (length d.vars + length d.processes) ≡ s.last
  pub choice : (k : ℕ) → k < room → slice_index inputs (first_choice d + k) ≡ slice_index choices k
  pub argument : (k : ℕ) → slice_index inputs (first_choice d + (room + k)) ≡ slice_index arguments k
  pub state : state_from d inputs ≡ s

-- what numbers of a design have in common: each is written in at most 64 bits
pub record AreSmall (d : DesignTree) : Type 0 where
  pub enums : (name : List ℕ) → type_size d.spec (types.Enum name) ≤ 2 ^ 64
  pub locations : (p : ℕ) → end_number d p < 2 ^ 64
  pub processes : 1 + length d.processes < 2 ^ 64
