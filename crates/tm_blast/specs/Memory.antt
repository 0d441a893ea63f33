-- The bits that were made, term by term.
use Rattle.std.specs.Prelude.{◌≡◌, ℕ, List, Option, None, Some, Vec, IsSome, map, reverse, slice_index_or}
use Rattle.std.specs.Option.{option_map}
use Rattle.std.specs.declared.alloc.Global.{Global}
use Rattle.tm_dd.specs.declared.node.NodeId.{NodeId}
use Rattle.tm_dd.specs.Table.{Table}
use Rattle.tm_term.specs.declared.term.TermId.{TermId}
use Rattle.tm_term.specs.declared.term.Parts.{Parts}
use Rattle.tm_term.specs.declared.term.Parts.TheVariants as parts
use Rattle.tm_term.specs.Table.{Table as Terms, IsKnown}
use Rattle.tm_blast.specs.Bits.{AreBits}

-- for each id of a term its bits, the least significant first, where they were made
abbrev pub Made : Type 0
Made = List (Option (List NodeId))

-- vectors of ids as lists
abbrev pub made_of : List (Option (Vec NodeId Global)) → Made
made_of entries = map (option_map (λ bits. bits.items)) entries

-- what was made of a term
abbrev pub made_at : Made → TermId → Option (List NodeId)
made_at made id = slice_index_or made id.0 None

-- the bits of a term were made
abbrev pub IsMade : Made → TermId → Type 0
IsMade made id = IsSome (made_at made id)

-- the bits of all parts of a term were made
abbrev pub ArePartsMade : Made → Parts → Type 0
ArePartsMade made parts.None = Unit {0}
ArePartsMade made (parts.One a) = IsMade made a
ArePartsMade made (parts.Two a b) = IsMade made a × IsMade made b
ArePartsMade made (parts.Three c a b) = IsMade made c × IsMade made a × IsMade made b

-- what was made are the bits of known terms
abbrev pub AreMade : Terms → List (List ℕ) → Table → Made → Type 0
AreMade t levels s made = (id : TermId) (ids : List NodeId) → made_at made id ≡ Some ids →
    IsKnown t id × AreBits t levels s id (reverse ids)
