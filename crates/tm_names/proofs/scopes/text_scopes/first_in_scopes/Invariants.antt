use Rattle.std.proofs.Common.{◌≡◌, take}
use Rattle.std.specs.List.{flat_map}
use Rattle.std.specs.Option.{option_map}
use Rattle.tm_syntax.specs.Faults.Marks.{first_mark}
use Rattle.tm_names.specs.ScopeNames.{mark_of}
use Rattle.tm_names.specs.Inner.Repeats.{repeat_of}
use Rattle.tm_names.proofs.scopes.text_scopes.first_in_scopes.Given as goal

abbrev pub invariant-loop-scope : goal.invariant-loop-scope
invariant-loop-scope l =
    option_map mark_of l.first ≡ first_mark (flat_map repeat_of (take l.scope-index l.scopes))
