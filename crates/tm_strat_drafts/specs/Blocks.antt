-- What blocks whose tests and moves are numbers answer: the tests are followed from a block to a move. bs are blocks.
use Rattle.std.specs.Prelude.{◌≡◌, ℕ, ◌<◌, true, false, List, Some, length, slice_get}
use Rattle.tm_sem.specs.State.{StateData}
use Rattle.tm_solve.specs.Sets.{StateSet, IsAmong}
use Rattle.tm_strat_drafts.specs.Moves.{Game, good_now, passes}
use Rattle.tm_strat_drafts.specs.declared.drafts.DraftBlock.{DraftBlock}
use Rattle.tm_strat_drafts.specs.declared.drafts.DraftBlock.TheVariants.{Test, Move}
use Rattle.tm_strat_drafts.specs.declared.drafts.MoveChoice.{MoveChoice}

-- the move to which the tests lead from a block on
pub data Leads (g : Game) (bs : List DraftBlock) (s : StateData) : ℕ → MoveChoice → Type 0 where
  goes_first : {at test first second : ℕ} {m : MoveChoice} → slice_get bs at ≡ Some (Test test first second) →
      passes g test s ≡ true → Leads g bs s first m → Leads g bs s at m
  goes_second : {at test first second : ℕ} {m : MoveChoice} → slice_get bs at ≡ Some (Test test first second) →
      passes g test s ≡ false → Leads g bs s second m → Leads g bs s at m
  moves : {at : ℕ} {m : MoveChoice} → slice_get bs at ≡ Some (Move m) → Leads g bs s at m

-- from a block on the tests lead to a good move
pub record EndsWell (g : Game) (bs : List DraftBlock) (at : ℕ) (s : StateData) : Type 0 where
  pub move : MoveChoice
  pub leads : Leads g bs s at move
  pub good : good_now g move s ≡ true

-- so they do at each state of a set
pub record AreGood (g : Game) (bs : List DraftBlock) (at : ℕ) (set : StateSet) : Type 0 where
  pub ends : (s : StateData) → IsAmong s g.states → set s ≡ true → EndsWell g bs at s

-- a block's test is one of those that there are, and leads on to later blocks of so many alone
abbrev pub FitsLater : ℕ → ℕ → ℕ → DraftBlock → Type 0
FitsLater tests count at (Test test first second) =
    (test < tests) × (at < first) × (first < count) × (at < second) × (second < count)
FitsLater tests count at (Move m) = Unit {0}

-- there is a block, and all blocks do so
pub record AreLater (tests : ℕ) (bs : List DraftBlock) : Type 0 where
  pub some : 0 < length bs
  pub each : (at : ℕ) (b : DraftBlock) → slice_get bs at ≡ Some b → FitsLater tests (length bs) at b
