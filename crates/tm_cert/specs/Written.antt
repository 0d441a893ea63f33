-- The JSON value that is written for a certificate: format 2, its keys in byte order.
use Rattle.std.specs.Prelude.{ℕ, List, [], ◌∷◌, ◌++◌, map, codes}
use Rattle.serde_json.specs.Data.{Data, number, unsigned, string, array, object, no_members, member}
use Rattle.serde_json.specs.View.{items_of}
use Rattle.serde_json.specs.Written.{compact_text}
use Rattle.tm_cert.specs.declared.cert.Cert.{Cert}
use Rattle.tm_cert.specs.declared.cert.Cert.TheVariants.{Driver, Environment}
use Rattle.tm_cert.specs.declared.cert.Entry.{Entry}
use Rattle.tm_cert.specs.declared.cert.Rank.{Rank}
use Rattle.tm_cert.specs.Cert.{DriverData, EnvData, LevelData}

-- a number
abbrev pub number_data : ℕ → Data
number_data n = number (unsigned n)

-- a list, part by part
abbrev pub list_data : {A : Type 0} → (A → Data) → List A → Data
list_data f xs = array (items_of (map f xs))

-- an entry, as `[level,lo,hi]`
abbrev pub entry_data : Entry → Data
entry_data e = list_data number_data (e.level ∷ e.lo ∷ e.hi ∷ [])

-- a rank, as `[fair,id]`
abbrev pub rank_data : Rank → Data
rank_data r = list_data number_data (r.fair ∷ r.set ∷ [])

-- a goal, as `{"ranks":[..]}`
abbrev pub goal_data : List Rank → Data
goal_data ranks = object (member (codes "ranks") (list_data rank_data ranks) no_members)

-- a level, as `{"chains":[[id,..],..],"goal":j,"set":id}`
abbrev pub level_data : LevelData → Data
level_data l =
    object (member (codes "chains") (list_data (list_data number_data) l.chains)
    (member (codes "goal") (number_data l.goal)
    (member (codes "set") (number_data l.set) no_members)))

-- a driver's certificate
unfoldable pub driver_data : ℕ → DriverData → Data
driver_data bits c =
    object (member (codes "bits") (number_data bits)
    (member (codes "format") (number_data 2)
    (member (codes "goals") (list_data goal_data c.goals)
    (member (codes "kind") (string (codes "driver"))
    (member (codes "nodes") (list_data entry_data c.nodes)
    (member (codes "order") (list_data number_data c.order)
    (member (codes "region") (number_data c.region) no_members)))))))

-- an environment's
unfoldable pub environment_data : ℕ → EnvData → Data
environment_data bits c =
    object (member (codes "bits") (number_data bits)
    (member (codes "format") (number_data 2)
    (member (codes "kind") (string (codes "environment"))
    (member (codes "levels") (list_data level_data c.levels)
    (member (codes "nodes") (list_data entry_data c.nodes)
    (member (codes "order") (list_data number_data c.order) no_members))))))

-- a certificate
abbrev pub cert_data : ℕ → Cert → Data
cert_data bits (Driver c) = driver_data bits c
cert_data bits (Environment c) = environment_data bits c

-- its text, with a line feed at the end
abbrev pub cert_text : ℕ → Cert → List ℕ
cert_text bits cert = compact_text (cert_data bits cert) ++ 10 ∷ []
