-- Blocks while they are made, from the leaves upwards: each leads on to earlier ones. In all files ds and es are
-- drafts, and bs and cs blocks.
use Rattle.std.specs.Prelude.{◌≡◌, ℕ, ◌<◌, ◌≤◌, ◌-◌, List, Option, None, Some, length, map, slice_get}
use Rattle.tm_dd.specs.declared.node.NodeId.{NodeId}
use Rattle.tm_solve.specs.Ids.{Ids}
use Rattle.tm_solve.specs.Sets.{StateSet}
use Rattle.tm_strat_drafts.specs.Blocks.{AreGood}
use Rattle.tm_strat_drafts.specs.Moves.{Game, all_tests, turned}
use Rattle.tm_strat_drafts.specs.declared.drafts.Draft.{Draft}
use Rattle.tm_strat_drafts.specs.declared.drafts.DraftBlock.{DraftBlock}
use Rattle.tm_strat_drafts.specs.declared.drafts.DraftBlock.TheVariants.{Test, Move}

-- the blocks of drafts
abbrev pub blocks_of : List Draft → List DraftBlock
blocks_of ds = map (λ (d : Draft). d.block) ds

-- a block's test is one of those that there are, and leads on to earlier blocks alone
abbrev pub FitsEarlier : ℕ → ℕ → DraftBlock → Type 0
FitsEarlier tests at (Test test first second) = (test < tests) × (first < at) × (second < at)
FitsEarlier tests at (Move m) = Unit {0}

-- each draft leads on to earlier ones
pub record AreEarlier (tests : ℕ) (ds : List Draft) : Type 0 where
  pub each : (at : ℕ) (d : Draft) → slice_get ds at ≡ Some d → FitsEarlier tests at d.block

-- each draft does so, they are numbered in 32 bits, and each ends well at the states of its set, which is known
pub record AreDrafts (g : Game) (ids : Ids) (ds : List Draft) : Type 0 where
  pub few : length ds ≤ 4294967295
  pub earlier : AreEarlier (all_tests g) ds
  pub known : (at : ℕ) (d : Draft) → slice_get ds at ≡ Some d → ids.knows d.good
  pub good : (at : ℕ) (d : Draft) → slice_get ds at ≡ Some d → AreGood g (blocks_of ds) at (ids.means d.good)

-- the first blocks stay as they are
pub record Stay (old new : List DraftBlock) : Type 0 where
  pub stay : (at : ℕ) (b : DraftBlock) → slice_get old at ≡ Some b → slice_get new at ≡ Some b

-- one of the drafts ends well at each state of a set
pub record IsMade (g : Game) (ds : List Draft) (at : ℕ) (set : StateSet) : Type 0 where
  pub below : at < length ds
  pub good : AreGood g (blocks_of ds) at set

-- drafts went on, and one of them ends well at each state of a set
pub record Makes (g : Game) (ids : Ids) (old new : List Draft) (at : ℕ) (set : StateSet) : Type 0 where
  pub drafts : AreDrafts g ids new
  pub stay : Stay (blocks_of old) (blocks_of new)
  pub made : IsMade g new at set

-- drafts went on, and one of them ends well at each state of a set; or none of them was found for it, and they stay
abbrev pub MakesOrNot : Game → Ids → List Draft → List Draft → StateSet → Option ℕ → Type 0
MakesOrNot g ids old new set None = new ≡ old
MakesOrNot g ids old new set (Some at) = Makes g ids old new at set

-- a draft that ends well at each state of the set, or none was found
abbrev pub FoundOrNot : Game → List Draft → StateSet → Option ℕ → Type 0
FoundOrNot g ds set None = Unit {0}
FoundOrNot g ds set (Some at) = IsMade g ds at set

-- a draft of a block
abbrev pub drafted : DraftBlock → NodeId → Draft
drafted block good = record { block = block; good = good }

-- while any of the first so many goals is pending, one of the drafts ends well at each state of that goal's region
pub record HasRoots (g : Game) (ds : List Draft) (root n : ℕ) : Type 0 where
  pub earlier : AreEarlier (all_tests g) ds
  pub below : root < length ds
  pub each : (i : ℕ) → i < n → AreGood (turned g i) (blocks_of ds) root (g.region i)

-- a block leads on to blocks up to this number
abbrev pub FitsBelow : ℕ → DraftBlock → Type 0
FitsBelow root (Test test first second) = (first ≤ root) × (second ≤ root)
FitsBelow root (Move m) = Unit {0}

-- a block whose numbers count down from the root
abbrev pub turned_block : ℕ → DraftBlock → DraftBlock
turned_block root (Test test first second) = Test test (root - first) (root - second)
turned_block root (Move m) = Move m

-- blocks are those of the drafts from the root down, so many of them
pub record AreTurned (ds : List Draft) (root : ℕ) (bs : List DraftBlock) (n : ℕ) : Type 0 where
  pub count : length bs ≡ n
  pub each : (k : ℕ) (d : Draft) → k < n → slice_get ds (root - k) ≡ Some d →
      slice_get bs k ≡ Some (turned_block root d.block)
