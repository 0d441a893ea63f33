-- What does not fit in the head of a template.
use Rattle.std.specs.Prelude.{List, ◌||◌, codes, length, nat_eq, not}
use Rattle.tm_base.specs.declared.place.Place.{Place}
use Rattle.tm_syntax.specs.Tree.{TemplateTree}
use Rattle.tm_syntax.specs.Scopes.Names.{is_spelled}
use Rattle.tm_syntax.specs.Faults.Marks.{place_unless}

-- the name of a template that stands for the whole and has ports
abbrev pub main_faults : TemplateTree → List Place
main_faults t =
    place_unless (not (is_spelled (codes "main") t.name) || nat_eq (length t.ports) 0) t.name.place
