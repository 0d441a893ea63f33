-- The answers of a driver, the states from which not every step stays within some ranks, and those at which ranks do
-- not descend as a certificate asks.
use Rattle.std.specs.Prelude.{◌≡◌, ℕ, ◌+◌, ◌<◌, List, Some, length, slice_get}
use Rattle.tm_check.specs.declared.replies.Replies.{Replies}
use Rattle.tm_check.specs.Reads.{IsSized}
use Rattle.tm_check.specs.Replies.{AreReplies}
use Rattle.tm_check.specs.declared.leaving.Leaving.{Leaving}
use Rattle.tm_check.specs.declared.loaded.DriverDiagrams.{DriverDiagrams}
use Rattle.tm_check.specs.declared.steps.Descent.{Descent}
use Rattle.tm_check.specs.declared.steps.Descent.TheVariants.{FallsWhenFair, NeverRises}
use Rattle.tm_check.specs.Told.{IsTold}
use Rattle.tm_cir.specs.Answer.{Answers}
use Rattle.tm_cir.specs.Fit.{FitBlocks}
use Rattle.tm_cir.specs.Tree.{BlockTree}
use Rattle.tm_dd.specs.declared.node.NodeId.{NodeId}
use Rattle.tm_verdict.specs.Driver.{DriverPart, falls_when_fair, never_rises}
use Rattle.tm_verdict.specs.Found.{Awaits, IsOfRank, MayLeave, within_rank}
use Rattle.tm_verdict.specs.Regular.{IsRegular}
use Rattle.tm_game.specs.Game.{GameData, IsOf, IsStates}
use Rattle.tm_sem.specs.Certificates.{AreRanked, DriverSets, RankedSet}
use Rattle.tm_sem.specs.Fairness.{IsFair}
use Rattle.tm_sem.specs.State.{StateData}
use Rattle.tm_syntax.specs.Design.{DesignTree}

-- what blocks do while each goal is pending
pub record AreAnswers (d : DesignTree) (bs : List BlockTree) (g : GameData) (answers : List Replies) : Type 0 where
  pub count : length answers ≡ length d.goals
  pub each : (goal : ℕ) (r : Replies) → slice_get answers goal ≡ Some r → AreReplies d g goal bs r

-- so it is for some driver with such a certificate
abbrev pub HasAnswers : GameData → DriverDiagrams → List Replies → Type 0
HasAnswers g told answers =
    (d : DesignTree) × (bs : List BlockTree) × (c : DriverSets) × IsTold d bs c g told × AreAnswers d bs g answers

-- what is known of a driver while a goal is pending
pub record Plays (d : DesignTree) (bs : List BlockTree) (goal : ℕ) (g : GameData) (r : Replies) : Type 0 where
  pub of : IsOf d g
  pub sized : IsSized g
  pub regular : IsRegular d
  pub blocks : FitBlocks d bs
  pub replies : AreReplies d g goal bs r

-- for each number of ranks of a goal, the states from which not every step stays within these
pub record AreLeavingRanks (d : DesignTree) (bs : List BlockTree) (c : DriverSets) (g : GameData) (goal : ℕ)
    (leaving : Leaving) : Type 0 where
  pub count : (ranked : List RankedSet) → AreRanked c goal ranked → length leaving.sets.items ≡ 1 + length ranked
  pub each : (ranked : List RankedSet) (k : ℕ) (id : NodeId) → AreRanked c goal ranked →
      slice_get leaving.sets.items k ≡ Some id →
      IsStates d g.order g.diagrams.table (MayLeave d (Answers bs) (within_rank ranked k) goal) id

-- these for each goal
pub record AreLeaving (d : DesignTree) (bs : List BlockTree) (c : DriverSets) (g : GameData) (all : List Leaving) :
    Type 0 where
  pub count : length all ≡ length c.goals
  pub each : (goal : ℕ) (leaving : Leaving) → slice_get all goal ≡ Some leaving →
      AreLeavingRanks d bs c g goal leaving

-- so it is for some driver
abbrev pub HasLeaving : GameData → DriverDiagrams → List Leaving → Type 0
HasLeaving g told all =
    (d : DesignTree) × (bs : List BlockTree) × (c : DriverSets) × IsTold d bs c g told × AreLeaving d bs c g all

-- the states that have a rank for a goal
pub record HasRank (c : DriverSets) (goal index : ℕ) (s : StateData) : Type 0 where
  pub ranked : List RankedSet
  pub are : AreRanked c goal ranked
  pub of : IsOfRank ranked index s

-- the part of a certificate that asks for a descent of the ranks of a goal
abbrev pub part_of : Descent → ℕ → DriverPart
part_of NeverRises = never_rises
part_of FallsWhenFair = falls_when_fair

-- in how many ranks, the first ones, a descent lets steps from the rank of an index end
abbrev pub allowed_ranks : Descent → ℕ → ℕ
allowed_ranks NeverRises index = 1 + index
allowed_ranks FallsWhenFair index = index

-- a fairness condition holds, where a descent asks for one
abbrev pub IsFairFor : DesignTree → Descent → ℕ → StateData → Type 0
IsFairFor d NeverRises fair s = Unit {0}
IsFairFor d FallsWhenFair fair s = IsFair d s fair

-- the states of a rank of which a descent asks something: the goal fails, and the rank's fairness condition holds where
-- it is asked for
pub record IsAsked (d : DesignTree) (c : DriverSets) (descent : Descent) (goal index : ℕ) (s : StateData) : Type 0 where
  pub ranked : List RankedSet
  pub own : RankedSet
  pub are : AreRanked c goal ranked
  pub at : slice_get ranked index ≡ Some own
  pub of : IsOfRank ranked index s
  pub awaits : Awaits d c goal s
  pub fair : IsFairFor d descent own.fair s

-- those from which nevertheless not every step stays within the ranks that are allowed
abbrev pub IsBreaking : DesignTree → List BlockTree → DriverSets → Descent → ℕ → ℕ → StateData → Type 0
IsBreaking d bs c descent goal index s =
    (asked : IsAsked d c descent goal index s)
    × MayLeave d (Answers bs) (within_rank asked.ranked (allowed_ranks descent index)) goal s

-- these for the first ranks
abbrev pub IsBreakingBelow : DesignTree → List BlockTree → DriverSets → Descent → ℕ → ℕ → StateData → Type 0
IsBreakingBelow d bs c descent goal count s =
    (index : ℕ) × (index < count) × IsBreaking d bs c descent goal index s
