-- Faults of calls, given the task that is called.
use Rattle.std.specs.Prelude.{ℕ, Option, List, []}
use Rattle.std.specs.Option.{option_map_or}
use Rattle.tm_base.specs.declared.place.Place.{Place}
use Rattle.tm_syntax.specs.declared.tree.Ident.{Ident}
use Rattle.tm_syntax.specs.declared.design.Ty.{Ty}
use Rattle.tm_syntax.specs.Tree.{TaskTree}
use Rattle.tm_syntax.specs.Faults.Marks.{place_unless}
use Rattle.tm_syntax.specs.Faults.Mismatches.{call_fits, called_faults}
use Rattle.tm_syntax.specs.Faults.Operands.{path_place}

-- the fault of so many arguments
abbrev pub count_faults : Option TaskTree → List Ident → ℕ → List Place
count_faults task names count =
    option_map_or (λ (k : TaskTree). place_unless (call_fits k count) (path_place names)) task []

-- the fault of the result, where the call stands as a value
abbrev pub result_faults : Option Ty → List Ident → Option TaskTree → List Place
result_faults asked names task = option_map_or (λ (k : TaskTree). called_faults asked names k.kind) task []
