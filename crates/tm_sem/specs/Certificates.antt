-- What a certificate shows, over the steps of a design alone: sets of valid states by which a driver never loses, or by
-- which the environment always wins (ranks as in Piterman, Pnueli and Sa'ar 2006).
use Rattle.std.specs.Prelude.{◌≡◌, ℕ, zero, suc, ◌+◌, ◌<◌, ◌≤◌, Bool, true, false, ◌||◌, ◌⊎◌, Some, List, [], ◌∷◌, length, max, slice_get}
use Rattle.std.specs.Option.{option_map_or}
use Rattle.std.specs.List.{list_any, position_or_len}
use Rattle.tm_syntax.specs.Design.{DesignTree}
use Rattle.tm_sem.specs.declared.state.Move.{Move}
use Rattle.tm_sem.specs.declared.state.Outcome.TheVariants.{Next}
use Rattle.tm_sem.specs.State.{StateData}
use Rattle.tm_sem.specs.Step.{Step, IsState, IsInitial, IsAllowed, is_driver_move, is_driver_turn}
use Rattle.tm_sem.specs.Play.{goal_holds}
use Rattle.tm_sem.specs.Fairness.{conditions, IsFair}
use Rattle.tm_sem.specs.Forcing.{Forced, Keeps, IsCalm}

-- a ranked region, with the number of the fairness condition that is waited for in it
pub record RankedSet : Type 0 where
  pub fair : ℕ
  pub set : StateData → Bool

-- a driver's certificate: the region in which it stays, and for each goal its ranked regions, rank 1 first
pub record DriverSets : Type 0 where
  pub region : StateData → Bool
  pub goals : List (List RankedSet)

-- a valid state of a set
abbrev pub IsIn : DesignTree → (StateData → Bool) → StateData → Type 0
IsIn d set s = IsState d s × (set s ≡ true)

-- the rank of a state: the least one whose region holds it, or one more than there are
abbrev pub rank : List RankedSet → StateData → ℕ
rank ranked s = 1 + position_or_len (λ (r : RankedSet). r.set s) ranked

-- the fairness condition of the rank of a state holds there
abbrev pub IsFairAtRank : DesignTree → List RankedSet → StateData → Type 0
IsFairAtRank d ranked s =
    (k : ℕ) × (r : RankedSet) × (rank ranked s ≡ 1 + k) × (slice_get ranked k ≡ Some r) × IsFair d s r.fair

-- a move that is made at a state while this goal is pending: any of the environment's, or the strategy's answer
abbrev pub IsMade : (StateData → ℕ → Move → Type 0) → ℕ → StateData → Move → Type 0
IsMade answers goal s move = (is_driver_move move ≡ false) ⊎ answers s goal move

-- the ranked regions of this goal
abbrev pub AreRanked : DriverSets → ℕ → List RankedSet → Type 0
AreRanked c goal ranked = slice_get c.goals goal ≡ Some ranked

-- some state of a ranked region is in no earlier one of its goal
abbrev pub AddsState : DesignTree → List RankedSet → ℕ → Type 0
AddsState d ranked k = (s : StateData) × IsState d s × (rank ranked s ≡ 1 + k)

-- each ranked region waits for one of the fairness conditions
abbrev pub WaitForConditions : DesignTree → DriverSets → Type 0
WaitForConditions d c =
    (goal k : ℕ) (ranked : List RankedSet) (r : RankedSet) → AreRanked c goal ranked → slice_get ranked k ≡ Some r →
    r.fair < length (conditions d)

-- every ranked region lies in the region, and adds a state
abbrev pub C0 : DesignTree → DriverSets → Type 0
C0 d c =
    (goal k : ℕ) (ranked : List RankedSet) (r : RankedSet) → AreRanked c goal ranked → slice_get ranked k ≡ Some r →
    ((s : StateData) → IsIn d r.set s → IsIn d c.region s) × AddsState d ranked k

-- every initial state is in the region
abbrev pub C1 : DesignTree → DriverSets → Type 0
C1 d c = (s : StateData) → IsInitial d s → IsIn d c.region s

-- every state of the region has a rank for each goal
abbrev pub C2 : DesignTree → DriverSets → Type 0
C2 d c =
    (s : StateData) (goal : ℕ) (ranked : List RankedSet) → IsIn d c.region s → AreRanked c goal ranked →
    rank ranked s ≤ length ranked

-- from a state of the region no stutter or process step errs, and each ends in the region
abbrev pub C3 : DesignTree → DriverSets → Type 0
C3 d c = (s : StateData) → IsIn d c.region s → IsCalm d (IsIn d c.region) s

-- at the driver's turn in the region, whatever goal is pending, the answer is allowed, does not err, and ends in the
-- region
abbrev pub C4 : DesignTree → (StateData → ℕ → Move → Type 0) → DriverSets → Type 0
C4 d answers c =
    (s : StateData) (goal : ℕ) (move : Move) → IsIn d c.region s → goal < length d.goals →
    is_driver_turn d s ≡ true → answers s goal move → IsAllowed d s move × Keeps d (IsIn d c.region) s move

-- where a goal fails no step of the region ends at a higher rank for it
abbrev pub C5 : DesignTree → (StateData → ℕ → Move → Type 0) → DriverSets → Type 0
C5 d answers c =
    (s t : StateData) (goal : ℕ) (ranked : List RankedSet) (move : Move) (choices : List ℕ) →
    IsIn d c.region s → AreRanked c goal ranked → goal_holds d s goal ≡ false → IsMade answers goal s move →
    Step d s move choices (Next t) → rank ranked t ≤ rank ranked s

-- where a goal fails and the condition of the rank holds, each step of the region ends at a lower rank for the goal
abbrev pub C6 : DesignTree → (StateData → ℕ → Move → Type 0) → DriverSets → Type 0
C6 d answers c =
    (s t : StateData) (goal : ℕ) (ranked : List RankedSet) (move : Move) (choices : List ℕ) →
    IsIn d c.region s → AreRanked c goal ranked → goal_holds d s goal ≡ false → IsFairAtRank d ranked s →
    IsMade answers goal s move → Step d s move choices (Next t) → rank ranked t < rank ranked s

-- the sets are a certificate of the strategy
pub record MeetsDriver (d : DesignTree) (answers : StateData → ℕ → Move → Type 0) (c : DriverSets) : Type 0 where
  pub goals : length c.goals ≡ length d.goals
  pub fairs : WaitForConditions d c
  pub c0 : C0 d c
  pub c1 : C1 d c
  pub c2 : C2 d c
  pub c3 : C3 d c
  pub c4 : C4 d answers c
  pub c5 : C5 d answers c
  pub c6 : C6 d answers c

-- a good move at a state of the region while this goal is pending: what a certificate asks of the answer there
pub record IsGoodMove (d : DesignTree) (c : DriverSets) (goal : ℕ) (s : StateData) (move : Move) : Type 0 where
  pub allowed : IsAllowed d s move
  pub keeps : Keeps d (IsIn d c.region) s move
  pub no_higher : (ranked : List RankedSet) → AreRanked c goal ranked → goal_holds d s goal ≡ false →
      Keeps d (λ t. rank ranked t ≤ rank ranked s) s move
  pub lower : (ranked : List RankedSet) → AreRanked c goal ranked → goal_holds d s goal ≡ false →
      IsFairAtRank d ranked s → Keeps d (λ t. rank ranked t < rank ranked s) s move

-- no move is the driver's: what the steps of the others are asked for alone
abbrev pub no_answer : StateData → ℕ → Move → Type 0
no_answer s goal move = ⊥

-- the sets are a certificate of some strategy: at each turn in the region there is a good move for each goal
pub record MeetsMoveForm (d : DesignTree) (c : DriverSets) : Type 0 where
  pub goals : length c.goals ≡ length d.goals
  pub fairs : WaitForConditions d c
  pub c0 : C0 d c
  pub c1 : C1 d c
  pub c2 : C2 d c
  pub c3 : C3 d c
  pub c4 : (s : StateData) (goal : ℕ) → IsIn d c.region s → goal < length d.goals → is_driver_turn d s ≡ true →
      (move : Move) × IsGoodMove d c goal s move
  pub c5 : C5 d no_answer c
  pub c6 : C6 d no_answer c

-- a level of an environment's certificate: its goal, and a chain of sets for each fairness condition
pub record Level : Type 0 where
  pub goal : ℕ
  pub set : StateData → Bool
  pub chains : List (List (StateData → Bool))

-- the empty set of states, which is the level before the first
abbrev pub nowhere : StateData → Bool
nowhere s = false

-- the level before the one of this number
abbrev pub level_before : List Level → ℕ → StateData → Bool
level_before levels zero = nowhere
level_before levels (suc k) = option_map_or (λ (l : Level). l.set) (slice_get levels k) nowhere

-- the last level
abbrev pub last_level : List Level → StateData → Bool
last_level levels = level_before levels (length levels)

-- a state of a level that is not in the level before
abbrev pub IsNew : DesignTree → List Level → ℕ → Level → StateData → Type 0
IsNew d levels k l s = IsIn d l.set s × (level_before levels k s ≡ false)

-- the states of one set or another
abbrev pub either : (StateData → Bool) → (StateData → Bool) → StateData → Bool
either a b s = a s || b s

-- the set of a chain before the one of this index
abbrev pub set_before : List (StateData → Bool) → ℕ → StateData → Bool
set_before chain zero = nowhere
set_before chain (suc x) = option_map_or (λ set. set) (slice_get chain x) nowhere

-- each set of a chain holds the one before it, and lies in a set
abbrev pub Grows : DesignTree → List (StateData → Bool) → (StateData → Bool) → Type 0
Grows d chain within =
    (x : ℕ) (set : StateData → Bool) → slice_get chain x ≡ Some set →
    ((s : StateData) → IsIn d (set_before chain x) s → IsIn d set s)
    × ((s : StateData) → IsIn d set s → IsIn d within s)

-- each level holds the one before it and a new state; each chain is not empty, grows, and lies in its level
abbrev pub E0 : DesignTree → List Level → Type 0
E0 d levels =
    (k : ℕ) (l : Level) → slice_get levels k ≡ Some l →
    ((s : StateData) → IsIn d (level_before levels k) s → IsIn d l.set s) × ((s : StateData) × IsNew d levels k l s)
    × ((i : ℕ) (chain : List (StateData → Bool)) → slice_get l.chains i ≡ Some chain →
    (0 < length chain) × Grows d chain l.set)

-- some initial state is in the last level
abbrev pub E1 : DesignTree → List Level → Type 0
E1 d levels = (s : StateData) × IsInitial d s × IsIn d (last_level levels) s

-- a new state at which the level's goal holds can be forced into the level before
abbrev pub E2 : DesignTree → List Level → Type 0
E2 d levels =
    (k : ℕ) (l : Level) (s : StateData) → slice_get levels k ≡ Some l → IsNew d levels k l s →
    goal_holds d s l.goal ≡ true → Forced d (IsIn d (level_before levels k)) s

-- every new state is in every chain of its level
abbrev pub E3 : DesignTree → List Level → Type 0
E3 d levels =
    (k i : ℕ) (l : Level) (chain : List (StateData → Bool)) (s : StateData) → slice_get levels k ≡ Some l →
    slice_get l.chains i ≡ Some chain → IsNew d levels k l s → list_any (λ set. set s) chain ≡ true

-- every new state can be forced into its level
abbrev pub E4 : DesignTree → List Level → Type 0
E4 d levels =
    (k : ℕ) (l : Level) (s : StateData) → slice_get levels k ≡ Some l → IsNew d levels k l s →
    Forced d (IsIn d l.set) s

-- at a new state the condition of a chain holds, or the state can be forced into the set before the first of the chain
-- that holds it, or the level before
abbrev pub E5 : DesignTree → List Level → Type 0
E5 d levels =
    (k i : ℕ) (l : Level) (chain : List (StateData → Bool)) (s : StateData) → slice_get levels k ≡ Some l →
    slice_get l.chains i ≡ Some chain → IsNew d levels k l s →
    IsFair d s i ⊎ Forced d (IsIn d (either (set_before chain (position_or_len (λ set. set s) chain))
    (level_before levels k))) s

-- the levels are a certificate of the environment
pub record MeetsEnvironment (d : DesignTree) (levels : List Level) : Type 0 where
  pub goals : (k : ℕ) (l : Level) → slice_get levels k ≡ Some l → l.goal < length d.goals
  pub chains : (k : ℕ) (l : Level) → slice_get levels k ≡ Some l → length l.chains ≡ length (conditions d)
  pub e0 : E0 d levels
  pub e1 : E1 d levels
  pub e2 : E2 d levels
  pub e3 : E3 d levels
  pub e4 : E4 d levels
  pub e5 : E5 d levels

-- the sets of the longest of these chains
abbrev pub longest_of : List (List (StateData → Bool)) → ℕ
longest_of [] = 0
longest_of (chain ∷ chains) = max (length chain) (longest_of chains)

-- the sets of the longest chain of all levels
abbrev pub longest_chain : List Level → ℕ
longest_chain [] = 0
longest_chain (l ∷ ls) = max (longest_of l.chains) (longest_chain ls)
