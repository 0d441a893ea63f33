-- The templates of the code with the faults that they are if they reach themselves.
use Rattle.std.specs.Prelude.{◌≡◌, ℕ, Bool, true, false, Option, None, Some, List, map, get_or}
use Rattle.std.specs.List.{enumerate_from}
use Rattle.tm_syntax.specs.declared.tree.Ident.{Ident}
use Rattle.tm_syntax.specs.declared.tree.Template.{Template}
use Rattle.tm_syntax.specs.Places.{is_before}
use Rattle.tm_syntax.specs.Faults.Cycles.{TemplateMark}
use Rattle.tm_syntax.specs.Faults.Marks.{named}

-- templates, with the faults that they are if they reach themselves
abbrev pub marks_of : List Template → List TemplateMark
marks_of templates =
    map (λ (t : ℕ × Template). record { number = t.0; mark = named t.1.name }) (enumerate_from 0 templates)

-- the node of a number is marked
abbrev pub IsMarked : List Bool → ℕ → Type 0
IsMarked marks n = get_or marks n false ≡ true

-- whether a name stands before another one, if there is one
abbrev pub stands_before : Ident → Option Ident → Bool
stands_before name None = true
stands_before name (Some other) = is_before name.place other.place
