-- What the tables of a scope say.
use Rattle.std.specs.Prelude.{◌≡◌, ℕ, Option, List, map, nat_eq}
use Rattle.std.specs.List.{filter}
use Rattle.std.specs.Map.{lookup}
use Rattle.std.specs.Option.{option_map, option_or}
use Rattle.std.specs.Cmp.Lexicographic.{pointwise}
use Rattle.tm_syntax.specs.declared.fault.Detail.TheVariants as detail
use Rattle.tm_syntax.specs.Scopes.Names.{is_spelled}
use Rattle.tm_syntax.specs.Scopes.Declared as text
use Rattle.tm_syntax.specs.Faults.Marks.{Mark, named, first_mark}
use Rattle.tm_syntax.specs.Faults.Names.{later_name, repeats}
use Rattle.tm_scope.specs.declared.names.name_key.NameKey.{NameKey}
use Rattle.tm_scope.specs.Directory.{key_bytes}
use Rattle.tm_names.specs.declared.sorts.sort.Declared.{Declared}
use Rattle.tm_names.specs.declared.scopes.mark.NameMark.{NameMark}
use Rattle.tm_names.specs.declared.scopes.names.Names.{Names}
use Rattle.tm_names.specs.declared.scopes.scope.Scope.{Scope}
use Rattle.tm_names.specs.Sorts.{declared_of, first_declared}

-- the declaration that stands beside the first entry of this name
abbrev pub found : List (NameKey × Declared) → List ℕ → Option text.Declared
found entries name = option_map declared_of (lookup (λ key. pointwise nat_eq name (key_bytes key)) entries)

-- a fault at a name
abbrev pub mark_of : NameMark → Mark
mark_of m = record { place = m.place; detail = detail.Named m.name.now }

-- the fault of two declarations of one name: the later one
abbrev pub later_mark : text.Declared → text.Declared → Mark
later_mark d e = record { place = (later_name d.name e.name).place; detail = detail.Named d.name.text }

-- the faults of a declaration with those behind it
abbrev pub repeats_of : text.Declared → List text.Declared → List Mark
repeats_of d ds =
    map (λ (e : text.Declared). named (later_name d.name e.name))
    (filter (λ (e : text.Declared). is_spelled d.name.text e.name) ds)

-- two tables, one within the other, find the declaration of each name that stands first among these
abbrev pub FindsWithin : Names → Names → List text.Declared → Type 0
FindsWithin inner outer ds =
    (name : List ℕ) → option_or (found inner.first.entries name) (found outer.first.entries name)
    ≡ first_declared ds name

-- the scope of these declarations
pub record IsScope (s : Scope) (ds : List text.Declared) : Type 0 where
  pub finds : (name : List ℕ) → found s.names.first.entries name ≡ first_declared ds name
  pub repeat : option_map mark_of s.repeat ≡ first_mark (repeats ds)

-- the scope of these declarations, the last of which are those of the scope around
pub record IsScopeWithin (s outer : Scope) (ds : List text.Declared) : Type 0 where
  pub finds : FindsWithin s.names outer.names ds
  pub repeat : option_map mark_of s.repeat ≡ first_mark (repeats ds)
