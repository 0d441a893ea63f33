-- The fields of the numbers of a design's states. Here d is the design.
use Rattle.std.specs.Prelude.{ℕ, ◌+◌, ◌-◌, List, [], ◌∷◌, ◌++◌, length, map}
use Rattle.std.specs.List.{range_with_len}
use Rattle.tm_reorder.specs.declared.fields.Field.{Field}
use Rattle.tm_syntax.specs.declared.design.Var.{Var}
use Rattle.tm_syntax.specs.Tree.{SpecTree}
use Rattle.tm_syntax.specs.Design.{DesignTree}
use Rattle.tm_syntax.specs.Design.Locations.{end_number}
use Rattle.tm_syntax.specs.Design.Sizes.{bits_of_number, type_bits, type_size}

-- a number up to this one
abbrev pub field_to : ℕ → Field
field_to last = record { width = bits_of_number last; last = last }

-- the value of a variable: one of its type
abbrev pub value_field : SpecTree → Var → Field
value_field spec v = record { width = type_bits spec v.ty; last = type_size spec v.ty - 1 }

-- the numbers of a state
abbrev pub state_fields : DesignTree → List Field
state_fields d =
    map (value_field d.spec) d.vars
    ++ map (λ p. field_to (end_number d p)) (range_with_len 0 (length d.processes))
    ++ field_to (1 + length d.processes) ∷ []
