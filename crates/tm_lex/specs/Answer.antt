-- What an error of the lexer says of its text.
use Rattle.std.specs.Prelude.{◌≡◌, ℕ, List, ⊤, ◌⊎◌}
use Rattle.tm_base.specs.declared.place.Place.{Place}
use Rattle.tm_syntax.specs.declared.fault.FrontError.{FrontError}
use Rattle.tm_syntax.specs.declared.fault.FrontError.TheVariants.{Faulty, Memory}
use Rattle.tm_syntax.specs.declared.fault.FaultKind.TheVariants.{Byte}
use Rattle.tm_syntax.specs.declared.fault.Detail.TheVariants.{Nothing}
use Rattle.tm_syntax.specs.Tokens.{HasByteFault}

-- F1 at a place
abbrev pub byte_fault : Place → FrontError
byte_fault place = Faulty (record { kind = Byte; place = place; detail = Nothing })

-- F1, at the first byte of the text that begins no token and no gap; of want of memory nothing is said
abbrev pub IsByteFaultOf : List ℕ → FrontError → Type 0
IsByteFaultOf text (Faulty fault) = (fault.kind ≡ Byte) × HasByteFault text fault.place × (fault.detail ≡ Nothing)
IsByteFaultOf text Memory = ⊤

-- want of memory, or this error
abbrev pub IsMemoryOr : FrontError → FrontError → Type 0
IsMemoryOr fault e = (e ≡ Memory) ⊎ (e ≡ fault)
