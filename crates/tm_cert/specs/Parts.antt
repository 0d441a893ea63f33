-- What a value is: relations of lists and objects to their parts.
use Rattle.std.specs.Prelude.{◌≡◌, ℕ, ◌<◌, List, [], ◌∷◌, ◌++◌, Some, None, ⊤}
use Rattle.serde_json.specs.Data.{Data, array, Items, no_items, item, Members}
use Rattle.serde_json.specs.Find.{get_member}
use Rattle.tm_cert.specs.Part.{other_key}
use Rattle.tm_cert.specs.Written.{number_data}

-- one by one, the values are these parts, each beside those before it
abbrev pub AreParts : {A : Type 0} → (List A → Data → A → Type 0) → List A → Items → List A → Type 0
AreParts IsPart earlier no_items [] = ⊤
AreParts IsPart earlier no_items (x ∷ xs) = ⊥
AreParts IsPart earlier (item d ds) [] = ⊥
AreParts IsPart earlier (item d ds) (x ∷ xs) = IsPart earlier d x × AreParts IsPart (earlier ++ x ∷ []) ds xs

-- a list of these parts
abbrev pub IsList : {A : Type 0} → (List A → Data → A → Type 0) → Data → List A → Type 0
IsList IsPart d xs = (ds : Items) × (d ≡ array ds) × AreParts IsPart [] ds xs

-- an object has the key, with a value of which P holds
abbrev pub Has : Members → List ℕ → (Data → Type 0) → Type 0
Has ms key P = (d : Data) × (get_member key ms ≡ Some d) × P d

-- an object has no keys but these
abbrev pub HasOnly : List (List ℕ) → Members → Type 0
HasOnly keys ms = other_key keys ms ≡ None

-- a number below the limit
abbrev pub IsNumber : ℕ → Data → ℕ → Type 0
IsNumber limit d n = (d ≡ number_data n) × (n < limit)
