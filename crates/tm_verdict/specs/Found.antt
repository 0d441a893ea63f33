-- Where the parts of a driver's certificate are found to fail, in terms of predecessors of sets.
use Rattle.std.specs.Prelude.{◌≡◌, ℕ, ◌+◌, ◌<◌, ◌⊎◌, Bool, true, false, Some, List, length, take, slice_get}
use Rattle.std.specs.List.{list_any}
use Rattle.tm_syntax.specs.Design.{DesignTree}
use Rattle.tm_sem.specs.declared.state.Move.{Move}
use Rattle.tm_sem.specs.State.{StateData}
use Rattle.tm_sem.specs.Step.{IsAllowed, IsInitial, is_driver_turn}
use Rattle.tm_sem.specs.Play.{goal_holds}
use Rattle.tm_sem.specs.Fairness.{IsFair}
use Rattle.tm_sem.specs.Forcing.{IsCalm, Keeps}
use Rattle.tm_sem.specs.Certificates.{AreRanked, DriverSets, RankedSet}
use Rattle.tm_verdict.specs.Driver.{DriverPart, Passes, adds_state, begins_within, falls_when_fair, is_answered, is_calm, is_ranked, lies_within, never_rises}

-- a state is in one of the first ranked regions
abbrev pub within_rank : List RankedSet → ℕ → StateData → Bool
within_rank ranked k s = list_any (λ (r : RankedSet). r.set s) (take k ranked)

-- it is in the region of an index, and in none before
pub record IsOfRank (ranked : List RankedSet) (k : ℕ) (s : StateData) : Type 0 where
  pub within : within_rank ranked (1 + k) s ≡ true
  pub not_before : within_rank ranked k s ≡ false

-- the answer is allowed, errs for no choices, and ends in a set
abbrev pub AnswerKeeps : DesignTree → (StateData → ℕ → Move → Type 0) → (StateData → Bool) → ℕ → StateData → Type 0
AnswerKeeps d answers set goal s =
    (move : Move) → answers s goal move → IsAllowed d s move × Keeps d (λ t. set t ≡ true) s move

-- not every step from here stays in a set: one of the environment's, or at the driver's turn the answer
abbrev pub MayLeave : DesignTree → (StateData → ℕ → Move → Type 0) → (StateData → Bool) → ℕ → StateData → Type 0
MayLeave d answers set goal s =
    (¬ IsCalm d (λ t. set t ≡ true) s) ⊎ ((is_driver_turn d s ≡ true) × (¬ AnswerKeeps d answers set goal s))

-- a state of the region at which a goal fails
pub record Awaits (d : DesignTree) (c : DriverSets) (goal : ℕ) (s : StateData) : Type 0 where
  pub here : c.region s ≡ true
  pub fails : goal_holds d s goal ≡ false

-- a valid state at which a part is found to fail; a ranked region that adds no state fails at none
abbrev pub IsFound : DesignTree → (StateData → ℕ → Move → Type 0) → DriverSets → DriverPart → StateData → Type 0
IsFound d answers c (lies_within goal k) s =
    (ranked : List RankedSet) × (r : RankedSet) × AreRanked c goal ranked × (slice_get ranked k ≡ Some r)
    × (r.set s ≡ true) × (c.region s ≡ false)
IsFound d answers c (adds_state goal k) s = ⊥
IsFound d answers c begins_within s = IsInitial d s × (c.region s ≡ false)
IsFound d answers c (is_ranked goal) s =
    (ranked : List RankedSet) × AreRanked c goal ranked × (c.region s ≡ true)
    × (within_rank ranked (length ranked) s ≡ false)
IsFound d answers c is_calm s = (c.region s ≡ true) × (¬ IsCalm d (λ t. c.region t ≡ true) s)
IsFound d answers c (is_answered goal) s =
    (c.region s ≡ true) × (is_driver_turn d s ≡ true) × (¬ AnswerKeeps d answers c.region goal s)
IsFound d answers c (never_rises goal) s =
    (ranked : List RankedSet) × (k : ℕ) × AreRanked c goal ranked × (k < length ranked) × Awaits d c goal s
    × IsOfRank ranked k s × MayLeave d answers (within_rank ranked (1 + k)) goal s
IsFound d answers c (falls_when_fair goal) s =
    (ranked : List RankedSet) × (k : ℕ) × (r : RankedSet) × AreRanked c goal ranked × (slice_get ranked k ≡ Some r)
    × Awaits d c goal s × IsOfRank ranked k s × IsFair d s r.fair × MayLeave d answers (within_rank ranked k) goal s

-- the parts that have to pass before this one is tried
abbrev pub RestsOn : DesignTree → (StateData → ℕ → Move → Type 0) → DriverSets → DriverPart → Type 0
RestsOn d answers c (lies_within goal k) = Unit {0}
RestsOn d answers c (adds_state goal k) = Unit {0}
RestsOn d answers c begins_within = Unit {0}
RestsOn d answers c (is_ranked goal) = Unit {0}
RestsOn d answers c is_calm = Unit {0}
RestsOn d answers c (is_answered goal) = Unit {0}
RestsOn d answers c (never_rises goal) =
    Passes d answers c is_calm × Passes d answers c (is_answered goal) × Passes d answers c (is_ranked goal)
RestsOn d answers c (falls_when_fair goal) = Passes d answers c is_calm × Passes d answers c (is_answered goal)

-- a part names the states at which it fails
abbrev pub NamesStates : DriverPart → Type 0
NamesStates (adds_state goal k) = ⊥
NamesStates _ = Unit {0}
