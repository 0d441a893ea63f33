-- The parameters and locals of a body, by their numbers.
use Rattle.std.specs.Prelude.{ℕ, Option, List, position, slice_get}
use Rattle.std.specs.Option.{option_map, option_or}
use Rattle.tm_syntax.specs.declared.tree.TypeName.{TypeName}
use Rattle.tm_syntax.specs.Scopes.Names.{is_spelled}
use Rattle.tm_scope.specs.Inner.Tables.{BodySlots}
use Rattle.tm_scope.specs.declared.members.SlotNumber.{SlotNumber}
use Rattle.tm_scope.specs.declared.members.SlotNumber.TheVariants.{Param, Local}

-- the number of the parameter or local of a name: a parameter before a local
abbrev pub slot_number : BodySlots → List ℕ → Option SlotNumber
slot_number body name =
    option_or (option_map (λ k. Param k) (position (λ p. is_spelled name p.name) body.params))
    (option_map (λ k. Local k) (position (λ l. is_spelled name l.name) body.locals))

-- the type of a parameter or local, as it stands in the text
abbrev pub written_type : BodySlots → SlotNumber → Option TypeName
written_type body (Param k) = option_map (λ p. p.ty) (slice_get body.params k)
written_type body (Local k) = option_map (λ l. l.ty) (slice_get body.locals k)
