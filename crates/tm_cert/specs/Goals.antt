-- The goals of a driver's certificate: for each goal its ranks.
use Rattle.std.specs.Prelude.{ℕ, List, [], ◌∷◌, codes, Ok, Err}
use Rattle.serde_json.specs.Data.{Data, Items, no_items, item, Members}
use Rattle.tm_cert.specs.declared.cert.Rank.{Rank}
use Rattle.tm_cert.specs.declared.refusal.BadCert.TheVariants.{Shape}
use Rattle.tm_cert.specs.Judged.{Judged, and_then, each_at}
use Rattle.tm_cert.specs.Part.{number_below_at, items_at, counted_items_at, members_at, value_at, only_keys}
use Rattle.tm_cert.specs.Path.{index_path, member_path}

-- the two numbers of a rank: of a fairness condition, and of a set
abbrev pub pair_numbers : ℕ → ℕ → List ℕ → Data → Data → Judged Rank
pair_numbers fairs ids path fair set =
    and_then (number_below_at (index_path path 0) fairs fair)
    (λ fair. and_then (number_below_at (index_path path 1) ids set)
    (λ set. Ok (record { fair = fair; set = set })))

-- another number of parts than two is the wrong kind of value
abbrev pub pair_at : ℕ → ℕ → List ℕ → Items → Judged Rank
pair_at fairs ids path (item fair (item set no_items)) = pair_numbers fairs ids path fair set
pair_at fairs ids path _ = Err (Shape path)

-- one rank
abbrev pub rank_at : ℕ → ℕ → List ℕ → Data → Judged Rank
rank_at fairs ids path d = and_then (items_at path d) (pair_at fairs ids path)

-- the ranks of a goal
unfoldable pub ranks_at : ℕ → ℕ → List ℕ → Data → Judged (List Rank)
ranks_at fairs ids path d = and_then (items_at path d) (each_at (rank_at fairs ids) path)

-- the key of a goal
abbrev pub goal_keys : List (List ℕ)
goal_keys = codes "ranks" ∷ []

-- an object with the key `ranks` alone
abbrev pub goal_members : ℕ → ℕ → List ℕ → Members → Judged (List Rank)
goal_members fairs ids path ms =
    let ranks_path = member_path path (codes "ranks") in
    and_then (value_at ranks_path (codes "ranks") ms)
    (λ d. and_then (ranks_at fairs ids ranks_path d)
    (λ ranks. and_then (only_keys (member_path path) goal_keys ms)
    (λ _. Ok ranks)))

-- one goal
unfoldable pub goal_at : ℕ → ℕ → List ℕ → Data → Judged (List Rank)
goal_at fairs ids path d = and_then (members_at path d) (goal_members fairs ids path)

-- the list, of as many goals as there are
unfoldable pub goals_at : ℕ → ℕ → ℕ → List ℕ → Data → Judged (List (List Rank))
goals_at goals fairs ids path d = and_then (counted_items_at path goals d) (each_at (goal_at fairs ids) path)
