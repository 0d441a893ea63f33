-- Blocks that are laid from the last one to the first. `bs` are the blocks, and `starts` has for each function the
-- block with which it begins.
use Rattle.std.specs.Prelude.{◌≡◌, ℕ, ◌+◌, ◌-◌, ◌<◌, ◌≤◌, List, [], ◌∷◌, Some, ◌++◌, All, map, length, reverse, slice_get, take}
use Rattle.tm_syntax.specs.Design.{DesignTree}
use Rattle.tm_cir.specs.Tree.{NumTree, TruthTree, BlockTree, test}
use Rattle.tm_cir.specs.Tree as blocks
use Rattle.tm_cir.specs.Fit.{FitsTruth, FitsBlock}
use Rattle.tm_struct.specs.Tree.{ActionTree, choose, call, leave, go, idle}
use Rattle.tm_struct.specs.Fit.{FitsAction}

-- the functions that an action names are below this number
abbrev pub NamesBelow : ℕ → ActionTree → Type 0
NamesBelow below (choose t a b) = NamesBelow below a × NamesBelow below b
NamesBelow below (go k) = k < below
NamesBelow below a = Unit {0}

-- an action does what the block of this number does
pub data Does (bs : List BlockTree) (starts : List ℕ) : ℕ → ActionTree → Type 0 where
  tests : {at first second : ℕ} {t : TruthTree} {a b : ActionTree} → slice_get bs at ≡ Some (test t first second) →
      Does bs starts first a → Does bs starts second b → Does bs starts at (choose t a b)
  calls : {at task : ℕ} {args : List NumTree} → slice_get bs at ≡ Some (blocks.call task args) →
      Does bs starts at (call task args)
  leaves : {at process : ℕ} → slice_get bs at ≡ Some (blocks.leave process) → Does bs starts at (leave process)
  goes : {at k : ℕ} → slice_get starts k ≡ Some at → Does bs starts at (go k)
  idles : {at : ℕ} → slice_get bs at ≡ Some blocks.idle → Does bs starts at idle

-- some blocks stand behind others
pub record Grows (before after : List BlockTree) : Type 0 where
  pub more : List BlockTree
  pub are : after ≡ before ++ more

-- a block was put behind others, and has this number
pub record IsPut (before after : List BlockTree) (number : ℕ) (b : BlockTree) : Type 0 where
  pub number_is : number ≡ length before
  pub are : after ≡ before ++ b ∷ []

-- tests lead to blocks that were laid before
pub record LeadBack (bs : List BlockTree) : Type 0 where
  pub earlier : (at first second : ℕ) (t : TruthTree) → slice_get bs at ≡ Some (test t first second) →
      (first < at) × (second < at)

-- a laid block fits a design, whatever blocks it leads to
abbrev pub FitsLaid : DesignTree → BlockTree → Type 0
FitsLaid d (test t first second) = FitsTruth (length d.vars) (length d.processes) t
FitsLaid d b = FitsBlock d 0 0 b

-- all blocks do
pub record FitAllLaid (d : DesignTree) (bs : List BlockTree) : Type 0 where
  pub each : (at : ℕ) (b : BlockTree) → slice_get bs at ≡ Some b → FitsLaid d b

-- each function does what the block does with which it begins
pub record AreStarts (bs : List BlockTree) (starts : List ℕ) (functions : List ActionTree) : Type 0 where
  pub many : length starts ≡ length functions
  pub each : (k at : ℕ) (a : ActionTree) → slice_get starts k ≡ Some at → slice_get functions k ≡ Some a →
      Does bs starts at a

-- what was laid for an action that begins with the block `start`, behind the blocks `before`
pub record IsLaid (before after : List BlockTree) (starts : List ℕ) (start : ℕ) (a : ActionTree) : Type 0 where
  pub grows : Grows before after
  pub does : Does after starts start a
  pub within : start < length after
  pub back : LeadBack before → LeadBack after
  pub fit : (d : DesignTree) → FitsAction d (length starts) a → FitAllLaid d before → FitAllLaid d after

-- what was laid for functions
pub record AreLaid (bs : List BlockTree) (starts : List ℕ) (functions : List ActionTree) : Type 0 where
  pub begins : AreStarts bs starts functions
  pub within : All (λ s. s < length bs) starts
  pub back : LeadBack bs
  pub fit : (d : DesignTree) →
      ((k : ℕ) (a : ActionTree) → slice_get functions k ≡ Some a → FitsAction d k a) → FitAllLaid d bs

-- a block leads to none behind this one
abbrev pub LeadsUpTo : ℕ → BlockTree → Type 0
LeadsUpTo last (test t first second) = (first ≤ last) × (second ≤ last)
LeadsUpTo last b = Unit {0}

-- a block with its targets numbered from the other end
abbrev pub turned : ℕ → BlockTree → BlockTree
turned last (test t first second) = test t (last - first) (last - second)
turned last b = b

-- the blocks up to this one, turned over
abbrev pub turned_over : ℕ → List BlockTree → List BlockTree
turned_over last bs = reverse (map (turned last) (take (last + 1) bs))
