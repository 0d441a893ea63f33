use Rattle.std.proofs.Common.{◌≡◌, take}
use Rattle.std.specs.List.{flat_map}
use Rattle.std.specs.Option.{option_map}
use Rattle.tm_syntax.specs.Faults.Marks.{first_mark}
use Rattle.tm_names.specs.ScopeNames.{mark_of}
use Rattle.tm_names.specs.Inner.Repeats.{member_repeat}
use Rattle.tm_names.proofs.scopes.text_scopes.TextScopes.first_of_members.Given as goal

abbrev pub invariant-loop-scopes : goal.invariant-loop-scopes
invariant-loop-scopes l =
    option_map mark_of l.first ≡ first_mark (flat_map member_repeat (take l.scopes-index l.self.templates.items))
