-- The numbers of templates by their names.
use Rattle.std.specs.Prelude.{◌≡◌, ℕ, Bool, false, not, ◌&&◌, List, position}
use Rattle.std.specs.Option.{option_map_or}
use Rattle.tm_base.specs.declared.place.Place.{Place}
use Rattle.tm_syntax.specs.declared.tree.Ident.{Ident}
use Rattle.tm_syntax.specs.declared.tree.Spec.{Spec}
use Rattle.tm_syntax.specs.Places.{is_before}
use Rattle.tm_syntax.specs.Tree.{SpecTree}
use Rattle.tm_syntax.specs.Tree.View.{spec_tree}
use Rattle.tm_syntax.specs.Scopes.Names.{is_spelled}
use Rattle.tm_syntax.specs.Scopes.Declared.{Declared, text_names}
use Rattle.tm_scope.specs.Directory.{index_of}
use Rattle.tm_names.specs.Sorts.{first_declared}
use Rattle.tm_names.specs.TextScopes.{AreTextScopes}
use Rattle.tm_names.specs.declared.scopes.text_scopes.TextScopes.{TextScopes}

-- whether two places are one
abbrev pub is_same_place : Place → Place → Bool
is_same_place a b = not (is_before a b) && not (is_before b a)

-- whether a name stands where it is first declared in a text
abbrev pub stands_first : SpecTree → Ident → Bool
stands_first spec name =
    option_map_or (λ (d : Declared). is_same_place d.name.place name.place) (first_declared (text_names spec) name.text)
    false

-- of each name the number of the first template that stands where the name is first declared
abbrev pub AreFirstTemplates : Spec → List (List ℕ × ℕ) → Type 0
AreFirstTemplates spec numbers = (name : List ℕ) →
    index_of numbers name
    ≡ position (λ t. is_spelled name t.name && stands_first (spec_tree spec) t.name) spec.templates.items

-- the names of a text: its tables, its scopes and the numbers of its templates
pub record AreTextNames (spec tables : Spec) (scopes : TextScopes) (numbers : List (List ℕ × ℕ)) : Type 0 where
  pub same : tables ≡ spec
  pub found : AreTextScopes (spec_tree spec) scopes
  pub numbered : AreFirstTemplates spec numbers
