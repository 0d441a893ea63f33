-- Entries whose levels may stand in any order. Here `old` and `new` are entries, v gives each level's value, and `keys`
-- are the ids of sets.
use Rattle.std.specs.Prelude.{◌≡◌, ℕ, ◌+◌, ◌<◌, ◌≤◌, Bool, List, Option, None, Some, length, slice_get, if◌then◌else◌}
use Rattle.tm_cert.specs.declared.cert.Entry.{Entry}
use Rattle.tm_cert.specs.Nodes.{ids_of}
use Rattle.tm_numbering.specs.Parts.{ArePairs}
use Rattle.tm_reorder.specs.declared.graph.Graph.{Graph}
use Rattle.tm_reorder.specs.Inner.Told.{IsTold}
use Rattle.tm_verdict.specs.Sets.{id_holds}

-- the entry k stands over ids before it, and holds where the one holds that the bit of its level chooses
pub record IsBranch (nodes : List Entry) (k : ℕ) (e : Entry) : Type 0 where
  pub lo_before : e.lo < k + 2
  pub hi_before : e.hi < k + 2
  pub holds : (v : ℕ → Bool) →
      id_holds nodes (k + 2) v ≡ (if v e.level then id_holds nodes e.hi v else id_holds nodes e.lo v)

-- so do all entries
abbrev pub AreBranches : List Entry → Type 0
AreBranches nodes = (k : ℕ) (e : Entry) → slice_get nodes k ≡ Some e → IsBranch nodes k e

-- the ids of the old entries hold among the new ones where they did
pub record Keeps (old new : List Entry) : Type 0 where
  pub rises : length old ≤ length new
  pub same : (id : ℕ) → id < ids_of old → (v : ℕ → Bool) → id_holds new id v ≡ id_holds old id v

-- an id holds where the one of the old ids holds that the bit of a level chooses
pub record IsBranchOf (old new : List Entry) (level lo hi id : ℕ) : Type 0 where
  pub within : id < ids_of new
  pub holds : (v : ℕ → Bool) → id_holds new id v ≡ (if v level then id_holds old hi v else id_holds old lo v)

-- both are some of so many ids
abbrev pub AreBelow : ℕ → ℕ × ℕ → Type 0
AreBelow count part = (part.0 < count) × (part.1 < count)

-- two ids are branches of a level, one over the first ids of two pairs and one over the second ones
pub record AreBranchesOf (old new : List Entry) (level : ℕ) (lo hi part : ℕ × ℕ) : Type 0 where
  pub off : IsBranchOf old new level lo.0 hi.0 part.0
  pub on : IsBranchOf old new level lo.1 hi.1 part.1

-- the parts of an old id: it holds where the one does that the bit of a level chooses
pub record ArePart (old new : List Entry) (level id : ℕ) (part : ℕ × ℕ) : Type 0 where
  pub off_within : part.0 < ids_of new
  pub on_within : part.1 < ids_of new
  pub holds : (v : ℕ → Bool) →
      id_holds old id v ≡ (if v level then id_holds new part.1 v else id_holds new part.0 v)

-- these are the parts of each old entry that is e, where lo and hi are those of its children
abbrev pub IsPartOver : List Entry → List Entry → ℕ → Entry → ℕ × ℕ → ℕ × ℕ → ℕ × ℕ → Type 0
IsPartOver one two level e lo hi part =
    (old : List Entry) (k : ℕ) → IsBranch old k e → ArePart old one level e.lo lo → ArePart old one level e.hi hi →
    ArePart old two level (k + 2) part

-- these are the parts of the constants and of the first so many entries
pub record AreParts (old new : List Entry) (level done : ℕ) (parts : List (ℕ × ℕ)) : Type 0 where
  pub count : length parts ≡ done + 2
  pub each : (id : ℕ) (part : ℕ × ℕ) → slice_get parts id ≡ Some part → ArePart old new level id part

-- the new ids hold among the new entries where the old ones do among the old
pub record AreRaised (old : List Entry) (olds : List ℕ) (new : List Entry) (news : List ℕ) : Type 0 where
  pub branches : AreBranches new
  pub told : ArePairs (IsTold (λ v. v) old new) olds news (length olds)

-- the entries of a graph where there is one, and those that were given where there is none
abbrev pub entries_of : Option Graph → List Entry → List Entry
entries_of None given = given
entries_of (Some graph) given = graph.entries.keys
