-- What an error of the reader says of its text.
use Rattle.std.specs.Prelude.{◌≡◌, ◌⊎◌, ℕ, List}
use Rattle.tm_syntax.specs.Design.{DesignTree}
use Rattle.tm_struct_parse.specs.declared.bad.BadStructured.{BadStructured}
use Rattle.tm_struct_parse.specs.declared.bad.ReadStructuredError.{ReadStructuredError}
use Rattle.tm_struct_parse.specs.declared.bad.ReadStructuredError.TheVariants.{Bad, Memory}
use Rattle.tm_struct_parse.specs.Faults.{HasFault}

-- the fault of the text; of want of memory nothing is said
abbrev pub IsFaultOf : DesignTree → List ℕ → ReadStructuredError → Type 0
IsFaultOf d text (Bad bad) = HasFault d text bad
IsFaultOf d text Memory = Unit {0}

-- want of memory, or this fault
abbrev pub IsMemoryOr : BadStructured → ReadStructuredError → Type 0
IsMemoryOr bad e = (e ≡ Memory) ⊎ (e ≡ Bad bad)
