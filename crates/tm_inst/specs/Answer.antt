-- What is told of a checked specification: its design, or a fault.
use Rattle.std.specs.Prelude.{◌≡◌, ⊤, None, []}
use Rattle.tm_syntax.specs.declared.fault.Faulty.{Faulty}
use Rattle.tm_syntax.specs.declared.fault.FrontError.{FrontError}
use Rattle.tm_syntax.specs.declared.fault.FrontError.TheVariants as front
use Rattle.tm_syntax.specs.Tree.{SpecTree}
use Rattle.tm_syntax.specs.Faults.Limits.{first_above, long_names}

-- a text is within each limit that is counted over it: all but that on atoms, which is counted over its design
pub record IsWithinCounts (spec : SpecTree) : Type 0 where
  pub names : long_names spec ≡ []
  pub counts : first_above spec ≡ None

-- want of memory, or a fault of which this holds
abbrev pub IsMemoryOr : (Faulty → Type 0) → FrontError → Type 0
IsMemoryOr Holds (front.Faulty f) = Holds f
IsMemoryOr Holds front.Memory = ⊤
