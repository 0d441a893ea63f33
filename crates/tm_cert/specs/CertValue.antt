-- Which JSON values are certificates: those of the table of keys, in format 1 or 2, with each number in its range.
use Rattle.std.specs.Prelude.{◌≡◌, ◌≢◌, ℕ, ◌-◌, ◌<◌, ◌≤◌, List, length, codes, IsUtf8, IsTrue, Some, Contains, slice_get}
use Rattle.std.specs.List.{range_with_len}
use Rattle.serde_json.specs.Data.{Data, string, object, Members}
use Rattle.serde_json.specs.Read.{read}
use Rattle.tm_cert.specs.declared.cert.Cert.{Cert}
use Rattle.tm_cert.specs.declared.cert.Cert.TheVariants as cert
use Rattle.tm_cert.specs.declared.cert.Entry.{Entry}
use Rattle.tm_cert.specs.declared.cert.Rank.{Rank}
use Rattle.tm_cert.specs.declared.head.Format.{Format}
use Rattle.tm_cert.specs.declared.head.Format.TheVariants.{First, Second}
use Rattle.tm_cert.specs.declared.head.Side.{Side}
use Rattle.tm_cert.specs.declared.head.Side.TheVariants.{Driver, Environment}
use Rattle.tm_cert.specs.declared.shape.CertShape.{CertShape}
use Rattle.tm_cert.specs.Cert.{DriverData, EnvData, LevelData}
use Rattle.tm_cert.specs.Goals.{goal_keys}
use Rattle.tm_cert.specs.Judge.{keys_of, wants}
use Rattle.tm_cert.specs.Levels.{level_keys}
use Rattle.tm_cert.specs.Nodes.{ids_of}
use Rattle.tm_cert.specs.Parts.{Has, HasOnly, IsList, IsNumber}
use Rattle.tm_cert.specs.Written.{entry_data, number_data, rank_data}

-- a place of a state bit that did not stand earlier
abbrev pub IsPlace : ℕ → List ℕ → Data → ℕ → Type 0
IsPlace bits earlier d place = IsNumber bits d place × ¬ Contains earlier place

-- an order of the levels: each place once
abbrev pub IsOrder : ℕ → Data → List ℕ → Type 0
IsOrder bits d order = IsList (IsPlace bits) d order × (length order ≡ bits)

-- a child that is no constant has a greater level
abbrev pub IsAboveChild : List Entry → ℕ → ℕ → Type 0
IsAboveChild earlier level id = (child : Entry) → 2 ≤ id → slice_get earlier (id - 2) ≡ Some child → level < child.level

-- a node of a reduced ordered diagram behind the earlier ones
pub record IsNode (bits : ℕ) (earlier : List Entry) (e : Entry) : Type 0 where
  pub level_below : e.level < bits
  pub lo_before : e.lo < ids_of earlier
  pub hi_before : e.hi < ids_of earlier
  pub children_differ : e.lo ≢ e.hi
  pub lo_deeper : IsAboveChild earlier e.level e.lo
  pub hi_deeper : IsAboveChild earlier e.level e.hi
  pub is_new : ¬ Contains earlier e

-- an entry of such a node
abbrev pub IsEntry : ℕ → List Entry → Data → Entry → Type 0
IsEntry bits earlier d e = (d ≡ entry_data e) × IsNode bits earlier e

-- a rank: a fairness condition, and a set
abbrev pub IsRank : ℕ → ℕ → Data → Rank → Type 0
IsRank fairs ids d r = (d ≡ rank_data r) × (r.fair < fairs) × (r.set < ids)

-- a goal: an object with the key `ranks` alone
abbrev pub IsGoal : ℕ → ℕ → Data → List Rank → Type 0
IsGoal fairs ids d ranks =
    (ms : Members) × (d ≡ object ms) × HasOnly goal_keys ms
    × Has ms (codes "ranks") (λ v. IsList (λ _. IsRank fairs ids) v ranks)

-- one goal for each of the design
abbrev pub IsGoals : ℕ → ℕ → ℕ → Data → List (List Rank) → Type 0
IsGoals goals fairs ids d found = IsList (λ _. IsGoal fairs ids) d found × (length found ≡ goals)

-- a chain of sets
abbrev pub IsChain : ℕ → Data → List ℕ → Type 0
IsChain ids d chain = IsList (λ _. IsNumber ids) d chain

-- one chain for each fairness condition
abbrev pub IsChains : ℕ → ℕ → Data → List (List ℕ) → Type 0
IsChains fairs ids d chains = IsList (λ _. IsChain ids) d chains × (length chains ≡ fairs)

-- the members of a level
pub record HasLevel (goals fairs ids : ℕ) (ms : Members) (l : LevelData) : Type 0 where
  pub chains_are : Has ms (codes "chains") (λ d. IsChains fairs ids d l.chains)
  pub goal_is : Has ms (codes "goal") (λ d. IsNumber goals d l.goal)
  pub set_is : Has ms (codes "set") (λ d. IsNumber ids d l.set)
  pub no_other : HasOnly level_keys ms

-- a level
abbrev pub IsLevel : ℕ → ℕ → ℕ → Data → LevelData → Type 0
IsLevel goals fairs ids d l = (ms : Members) × (d ≡ object ms) × HasLevel goals fairs ids ms l

-- the number of a format
abbrev pub format_number : Format → ℕ
format_number First = 1
format_number Second = 2

-- the order; format 1 has none, and its levels are in the order of the places
abbrev pub HasOrder : Format → ℕ → Members → List ℕ → Type 0
HasOrder First bits ms order = order ≡ range_with_len 0 bits
HasOrder Second bits ms order = Has ms (codes "order") (λ d. IsOrder bits d order)

-- the name of a side
abbrev pub side_name : Side → List ℕ
side_name Driver = codes "driver"
side_name Environment = codes "environment"

-- what both kinds of certificate have
pub record HasHead (shape : CertShape) (format : Format) (side : Side) (ms : Members) (order : List ℕ)
    (nodes : List Entry) : Type 0 where
  pub format_is : Has ms (codes "format") (λ d. d ≡ number_data (format_number format))
  pub kind_is : Has ms (codes "kind") (λ d. d ≡ string (side_name side))
  pub is_wanted : IsTrue (wants shape.wanted side)
  pub bits_are : Has ms (codes "bits") (λ d. d ≡ number_data shape.bits)
  pub order_is : HasOrder format shape.bits ms order
  pub nodes_are : Has ms (codes "nodes") (λ d. IsList (IsEntry shape.bits) d nodes)
  pub no_other : HasOnly (keys_of format side) ms

-- the members of a driver's certificate
pub record HasDriver (shape : CertShape) (format : Format) (ms : Members) (c : DriverData) : Type 0 where
  pub head : HasHead shape format Driver ms c.order c.nodes
  pub region_is : Has ms (codes "region") (λ d. IsNumber (ids_of c.nodes) d c.region)
  pub goals_are : Has ms (codes "goals") (λ d. IsGoals shape.goals shape.fairs (ids_of c.nodes) d c.goals)

-- the members of an environment's certificate
pub record HasEnvironment (shape : CertShape) (format : Format) (ms : Members) (c : EnvData) : Type 0 where
  pub head : HasHead shape format Environment ms c.order c.nodes
  pub levels_are : Has ms (codes "levels")
      (λ d. IsList (λ _. IsLevel shape.goals shape.fairs (ids_of c.nodes)) d c.levels)

-- the members of a certificate
abbrev pub HasCert : CertShape → Format → Members → Cert → Type 0
HasCert shape format ms (cert.Driver c) = HasDriver shape format ms c
HasCert shape format ms (cert.Environment c) = HasEnvironment shape format ms c

-- the value is this certificate for the shape
abbrev pub IsCert : CertShape → Data → Cert → Type 0
IsCert shape d cert = (format : Format) × (ms : Members) × (d ≡ object ms) × HasCert shape format ms cert

-- the text is this certificate for the shape
abbrev pub IsCertText : CertShape → List ℕ → Cert → Type 0
IsCertText shape text cert = IsUtf8 text × ((d : Data) × (read text ≡ Some d) × IsCert shape d cert)
