-- If-then-else of three functions (Brace, Rudell and Bryant 1990): what it means, and which choices a walk meets.
use Rattle.std.specs.Prelude.{◌≡◌, ℕ, ◌==◌, ◌≤◌, Bool, min, nat_le, if◌then◌else◌}
use Rattle.tm_dd.specs.declared.node.NodeId.{NodeId}
use Rattle.tm_dd.specs.NodeId.{IsConstant}
use Rattle.tm_dd.specs.Table.{Table, Knows, depth_of, level_of, node_of, means, rank_of}
use Rattle.tm_ddops.specs.declared.choice.Choice.{Choice}

-- of two levels the one that stands higher
abbrev pub upper : Table → ℕ → ℕ → ℕ
upper s j k = if nat_le (rank_of s j) (rank_of s k) then j else k

-- the level of the three functions that stands highest
abbrev pub choice_level : Table → Choice → ℕ
choice_level s k = upper s (level_of s k.test) (upper s (level_of s k.if_true) (level_of s k.if_false))

-- its rank
abbrev pub choice_depth : Table → Choice → ℕ
choice_depth s k = min (depth_of s k.test) (min (depth_of s k.if_true) (depth_of s k.if_false))

-- what a function is where the level has the value b, if it reads no level above this one
abbrev pub cofactor : Table → NodeId → ℕ → Bool → NodeId
cofactor s f level b = if level_of s f == level then (if b then (node_of s f).hi else (node_of s f).lo) else f

-- the choice where its highest level has the value b
abbrev pub cofactor_choice : Table → Choice → Bool → Choice
cofactor_choice s k b = record {
  test = cofactor s k.test (choice_level s k) b;
  if_true = cofactor s k.if_true (choice_level s k) b;
  if_false = cofactor s k.if_false (choice_level s k) b;
}

-- the store knows the three ids of a choice
pub record KnowsChoice (s : Table) (k : Choice) : Type 0 where
  pub test : Knows s k.test
  pub if_true : Knows s k.if_true
  pub if_false : Knows s k.if_false

-- the value of a choice
abbrev pub choice_value : Table → Choice → (ℕ → Bool) → Bool
choice_value s k v = if means s k.test v then means s k.if_true v else means s k.if_false v

-- an id is the function of a choice, and reads no level above those of the choice
pub record IsChoice (s : Table) (k : Choice) (id : NodeId) : Type 0 where
  pub operands : KnowsChoice s k
  pub known : Knows s id
  pub deep : choice_depth s k ≤ depth_of s id
  pub meaning : (v : ℕ → Bool) → means s id v ≡ choice_value s k v

-- two functions are the same where a third has the value b
abbrev pub MeansWhere : Table → NodeId → Bool → NodeId → NodeId → Type 0
MeansWhere s test b f g = (v : ℕ → Bool) → means s test v ≡ b → means s f v ≡ means s g v

-- a choice whose nodes have to be looked at: its test is no constant, and one of its branches is none
abbrev pub IsOpen : Choice → Type 0
IsOpen k = (¬ IsConstant k.test) × (IsConstant k.if_true → ¬ IsConstant k.if_false)

-- the choices that are met on the way down from one, through open ones
pub data Met (s : Table) : Choice → Choice → Type 0 where
  here : (k : Choice) → Met s k k
  below : (k : Choice) → IsOpen k → (b : Bool) (m : Choice) → Met s (cofactor_choice s k b) m → Met s k m
