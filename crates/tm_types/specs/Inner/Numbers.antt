-- Numbers that do not fit, in the declarations of a template.
use Rattle.std.specs.Prelude.{List, ◌++◌}
use Rattle.std.specs.List.{flat_map}
use Rattle.tm_base.specs.declared.place.Place.{Place}
use Rattle.tm_syntax.specs.Tree.{TemplateTree}
use Rattle.tm_syntax.specs.Scopes.Parts.{template_types}
use Rattle.tm_syntax.specs.Faults.Literals.{type_numbers, var_numbers}

-- in the types and variables of a template
abbrev pub declared_numbers : TemplateTree → List Place
declared_numbers t = flat_map type_numbers (template_types t) ++ flat_map var_numbers t.vars
