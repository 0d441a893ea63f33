-- The ids of Boolean functions, with complement marks in their lowest bits (Brace, Rudell and Bryant 1990).
use Rattle.std.specs.Prelude.{ℕ, ◌/◌, ◌%◌, ◌<◌, ◌==◌, Bool, bit_xor}
use Rattle.tm_dd.specs.declared.node.NodeId.{NodeId}

-- the number of an id
abbrev pub number_of : NodeId → ℕ
number_of id = id.0

-- the position of the kept function that an id stands for, or for whose complement it stands
abbrev pub position_of : NodeId → ℕ
position_of id = number_of id / 2

-- an id is marked where it stands for the complement of the kept function
abbrev pub is_marked : NodeId → Bool
is_marked id = number_of id % 2 == 1

-- the id with its lowest bit flipped
unfoldable pub complement : NodeId → NodeId
complement id = record { 0 = bit_xor (number_of id) 1 }

-- an id is `FALSE` or `TRUE`
abbrev pub IsConstant : NodeId → Type 0
IsConstant id = number_of id < 2
