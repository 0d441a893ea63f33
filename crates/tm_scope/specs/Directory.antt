-- What a directory finds.
use Rattle.std.specs.Prelude.{ℕ, List, Option, nat_eq}
use Rattle.std.specs.Cmp.Lexicographic.{pointwise}
use Rattle.std.specs.Map.{lookup}
use Rattle.tm_scope.specs.declared.names.name_key.NameKey.{NameKey}

-- the bytes of a name that is a key
abbrev pub key_bytes : NameKey → List ℕ
key_bytes key = key.bytes.now

-- the index that stands beside the first entry of this name
abbrev pub index_of : List (List ℕ × ℕ) → List ℕ → Option ℕ
index_of entries name = lookup (pointwise nat_eq name) entries
