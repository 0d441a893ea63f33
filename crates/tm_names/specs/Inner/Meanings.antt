-- What a path means, step by step.
use Rattle.std.specs.Prelude.{ℕ, Option, Result, Ok, Err, List, [], ◌∷◌, slice_get}
use Rattle.std.specs.Option.{option_map_or}
use Rattle.tm_syntax.specs.declared.tree.Ident.{Ident}
use Rattle.tm_syntax.specs.Tree.{TemplateTree, SpecTree}
use Rattle.tm_syntax.specs.Scopes.Declared as text
use Rattle.tm_names.specs.Meanings.{meaning_of}
use Rattle.tm_names.specs.declared.names.meaning.Meaning.{Meaning}

-- what a path means whose first name is of this sort
abbrev pub meaning_from : SpecTree → Option text.Sort → List Ident → text.Meaning
meaning_from spec sort [] = text.unclear
meaning_from spec sort (name ∷ []) = text.last_meaning name sort
meaning_from spec sort (name ∷ next ∷ names) =
    text.leading_on spec (λ t. text.path_meaning spec (text.sort_in (text.members t)) (next ∷ names)) name sort

-- what a path means that leads on into the template of this number, or ends so
abbrev pub step_meaning : SpecTree → (TemplateTree → text.Meaning) → Result ℕ Meaning → text.Meaning
step_meaning spec onward (Ok number) = option_map_or onward (slice_get spec.templates number) text.unclear
step_meaning spec onward (Err meaning) = meaning_of meaning
