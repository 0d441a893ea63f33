-- The levels of an environment's certificate: for each its chains, its goal and its set.
use Rattle.std.specs.Prelude.{ℕ, List, [], ◌∷◌, codes, Ok}
use Rattle.serde_json.specs.Data.{Data, Members}
use Rattle.tm_cert.specs.Cert.{LevelData}
use Rattle.tm_cert.specs.Judged.{Judged, and_then, each_at}
use Rattle.tm_cert.specs.Part.{number_below_at, items_at, counted_items_at, members_at, value_at, only_keys}
use Rattle.tm_cert.specs.Path.{member_path}

-- an id
abbrev pub id_at : ℕ → List ℕ → Data → Judged ℕ
id_at ids path d = number_below_at path ids d

-- a chain of ids
unfoldable pub chain_at : ℕ → List ℕ → Data → Judged (List ℕ)
chain_at ids path d = and_then (items_at path d) (each_at (id_at ids) path)

-- the list of chains, one for each fairness condition
unfoldable pub chains_at : ℕ → ℕ → List ℕ → Data → Judged (List (List ℕ))
chains_at fairs ids path d = and_then (counted_items_at path fairs d) (each_at (chain_at ids) path)

-- the keys of a level
abbrev pub level_keys : List (List ℕ)
level_keys = codes "chains" ∷ codes "goal" ∷ codes "set" ∷ []

-- the value of a key below a limit
abbrev pub number_of_key : ℕ → List ℕ → List ℕ → Members → Judged ℕ
number_of_key limit path key ms = and_then (value_at path key ms) (number_below_at path limit)

-- an object with the keys `chains`, `goal` and `set` alone
abbrev pub level_members : ℕ → ℕ → ℕ → List ℕ → Members → Judged LevelData
level_members goals fairs ids path ms =
    let chains_path = member_path path (codes "chains") in
    and_then (and_then (value_at chains_path (codes "chains") ms) (chains_at fairs ids chains_path))
    (λ chains. and_then (number_of_key goals (member_path path (codes "goal")) (codes "goal") ms)
    (λ goal. and_then (number_of_key ids (member_path path (codes "set")) (codes "set") ms)
    (λ set. and_then (only_keys (member_path path) level_keys ms)
    (λ _. Ok (record { goal = goal; set = set; chains = chains })))))

-- one level
unfoldable pub level_at : ℕ → ℕ → ℕ → List ℕ → Data → Judged LevelData
level_at goals fairs ids path d = and_then (members_at path d) (level_members goals fairs ids path)

-- the list of levels
unfoldable pub levels_at : ℕ → ℕ → ℕ → List ℕ → Data → Judged (List LevelData)
levels_at goals fairs ids path d = and_then (items_at path d) (each_at (level_at goals fairs ids) path)
