-- The first limit of a text that is not kept, apart from that on atoms.
use Rattle.std.specs.Prelude.{◌≡◌, Option, None, Some, []}
use Rattle.tm_syntax.specs.declared.fault.FaultKind.TheVariants as kind
use Rattle.tm_syntax.specs.declared.fault.Faulty.{Faulty}
use Rattle.tm_syntax.specs.Tree.{SpecTree}
use Rattle.tm_syntax.specs.Faults.{fault}
use Rattle.tm_syntax.specs.Faults.Limits.{IsAboveLimit, first_above, long_names}
use Rattle.tm_syntax.specs.Faults.Marks.{Mark}

-- the fault of a limit that is not kept, or none where no name is too long and each quantity is within its limit
abbrev pub IsFirstLimit : SpecTree → Option Faulty → Type 0
IsFirstLimit spec None = (long_names spec ≡ []) × (first_above spec ≡ None)
IsFirstLimit spec (Some f) = (m : Mark) × IsAboveLimit spec m × (f ≡ fault kind.Limit m)
