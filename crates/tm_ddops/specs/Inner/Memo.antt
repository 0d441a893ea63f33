-- The choices that a walk has met, with their ids.
use Rattle.std.specs.Prelude.{◌≡◌, ℕ, ◌+◌, ◌≤◌, ◌⊎◌, Bool, ◌&&◌, ◌==◌, Option, Some, None, IsSome, List, Contains}
use Rattle.std.specs.declared.hash.BuildHasherDefault.{BuildHasherDefault}
use Rattle.std.specs.HashMap.{get, HashMap, hash_map_len}
use Rattle.tm_dd.specs.declared.hasher.NumberHasher.{NumberHasher}
use Rattle.tm_dd.specs.declared.node.NodeId.{NodeId}
use Rattle.tm_dd.specs.NodeId.{number_of}
use Rattle.tm_dd.specs.Table.{Table}
use Rattle.tm_ddops.specs.declared.choice.Choice.{Choice}
use Rattle.tm_ddops.specs.Choice.{IsChoice, IsOpen, Met}

-- the choices that are noted, with their ids
abbrev pub Memo : Type 0
Memo = HashMap Choice NodeId (BuildHasherDefault NumberHasher)

-- whether two choices are one
abbrev pub choice_eq : Choice → Choice → Bool
choice_eq a b = (number_of a.test == number_of b.test)
    && ((number_of a.if_true == number_of b.if_true) && (number_of a.if_false == number_of b.if_false))

-- the id that is noted for a choice
abbrev pub noted : Memo → Choice → Option NodeId
noted m k = get choice_eq m k

-- each noted id is the function of its choice
abbrev pub AreChoices : Table → Memo → Type 0
AreChoices s m = (k : Choice) (id : NodeId) → noted m k ≡ Some id → IsChoice s k id

-- what is noted in the new memo was so in the old one, or is open and met on the way down from k
abbrev pub NotesOnlyMet : Table → Choice → Memo → Memo → Type 0
NotesOnlyMet s k old new = (m : Choice) → IsSome (noted new m) → IsSome (noted old m) ⊎ (Met s k m × IsOpen m)

-- a number rose by no more than the notes, and by `more` beyond that
abbrev pub RisesByNotes : Memo → Memo → ℕ → ℕ → ℕ → Type 0
RisesByNotes old new more before after = after + hash_map_len old ≤ before + hash_map_len new + more

-- a choice that is open, met on the way down from k, and not noted
pub record IsUnnoted (s : Table) (k : Choice) (m : Memo) : Type 0 where
  pub choice : Choice
  pub met : Met s k choice
  pub open_ : IsOpen choice
  pub absent : noted m choice ≡ None

-- a list has each open choice that is met on the way down from k
abbrev pub HasOpen : Table → Choice → List Choice → Type 0
HasOpen s k choices = (m : Choice) → Met s k m → IsOpen m → Contains choices m
