-- The first repeats that the scopes of a text keep.
use Rattle.std.specs.Prelude.{List, ◌++◌}
use Rattle.std.specs.List.{flat_map}
use Rattle.std.specs.Option.{option_map, option_to_list}
use Rattle.tm_syntax.specs.Faults.Marks.{Mark}
use Rattle.tm_names.specs.ScopeNames.{mark_of}
use Rattle.tm_names.specs.declared.scopes.scope.Scope.{Scope}
use Rattle.tm_names.specs.declared.scopes.text_scopes.TemplateScopes.{TemplateScopes}

-- the first repeat of a scope, if it has one
abbrev pub repeat_of : Scope → List Mark
repeat_of s = option_to_list (option_map mark_of s.repeat)

-- that of the members of a template
abbrev pub member_repeat : TemplateScopes → List Mark
member_repeat t = repeat_of t.members

-- those of the bodies of a template
abbrev pub body_repeats : TemplateScopes → List Mark
body_repeats t = flat_map repeat_of t.processes.items ++ flat_map repeat_of t.tasks.items
