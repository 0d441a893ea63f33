-- The bits of a state by place, their weights, and the order of states: how certificates tell sets of states.
use Rattle.std.specs.Prelude.{◌≡◌, ℕ, zero, suc, ◌+◌, ◌==◌, Bool, true, false, ◌||◌, ◌&&◌, List, [], ◌∷◌, ◌++◌, map, length, slice_index, if◌then◌else◌}
use Rattle.std.specs.List.{filter, flat_map, zip, range_with_len}
use Rattle.tm_base.specs.Bits.{bits_of}
use Rattle.tm_syntax.specs.declared.design.Var.{Var}
use Rattle.tm_syntax.specs.Design.{DesignTree}
use Rattle.tm_syntax.specs.Design.Sizes.{bits_of_number, type_bits}
use Rattle.tm_syntax.specs.Design.Locations.{end_number}
use Rattle.tm_sem.specs.State.{StateData}
use Rattle.tm_sem.specs.Certificates.{IsIn}

-- the widths of what a state tells: its variables, the locations of its processes, and who moved last
abbrev pub state_widths : DesignTree → List ℕ
state_widths d =
    map (λ (v : Var). type_bits d.spec v.ty) d.vars
    ++ map (λ p. bits_of_number (end_number d p)) (range_with_len 0 (length d.processes))
    ++ bits_of_number (1 + length d.processes) ∷ []

-- the numbers of a state, in the same order
abbrev pub state_numbers : StateData → List ℕ
state_numbers s = s.values ++ s.places ++ s.last ∷ []

-- the bits of numbers of these widths, each with its most significant bit first
abbrev pub bits_of_numbers : List ℕ → List ℕ → List Bool
bits_of_numbers widths numbers = flat_map (λ p. bits_of p.0 p.1) (zip widths numbers)

-- the bits of a state, by place
abbrev pub state_bits : DesignTree → StateData → List Bool
state_bits d s = bits_of_numbers (state_widths d) (state_numbers s)

-- the numbers below one, the greatest first
abbrev pub downwards : ℕ → List ℕ
downwards zero = []
downwards (suc n) = n ∷ downwards n

-- the weights of the bits of numbers of these widths, by place: how far each is from the least significant bit of its
-- number
abbrev pub weights : List ℕ → List ℕ
weights widths = flat_map downwards widths

-- the places of the bits of this weight
abbrev pub places_of_weight : List ℕ → ℕ → List ℕ
places_of_weight by_place weight =
    filter (λ place. slice_index by_place place == weight) (range_with_len 0 (length by_place))

-- the weight order of the bits of numbers of these widths, which have at most 64 bits: greater weights first, and equal
-- ones by place
abbrev pub weight_order : List ℕ → List ℕ
weight_order widths = flat_map (places_of_weight (weights widths)) (downwards 64)

-- whether the first of two lists of bits comes before the second: 0 before 1, the first place that differs decides
abbrev pub comes_before : List Bool → List Bool → Bool
comes_before (true ∷ xs) (y ∷ ys) = y && comes_before xs ys
comes_before (false ∷ xs) (y ∷ ys) = y || comes_before xs ys
comes_before _ _ = false

-- the least valid state of a set, by place
pub record IsLeast (d : DesignTree) (set : StateData → Bool) (s : StateData) : Type 0 where
  pub here : IsIn d set s
  pub none_before : (t : StateData) → IsIn d set t → comes_before (state_bits d t) (state_bits d s) ≡ false
