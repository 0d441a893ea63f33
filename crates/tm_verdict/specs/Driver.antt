-- What the checker of a driver's certificate answers: that every condition holds, or the first that does not.
use Rattle.std.specs.Prelude.{◌≡◌, ℕ, ◌<◌, ◌≤◌, ◌⊎◌, true, false, Some, List, [], ◌∷◌, map, length, slice_get}
use Rattle.std.specs.Option.{option_map_or}
use Rattle.std.specs.List.{flat_map, range_with_len}
use Rattle.tm_syntax.specs.Design.{DesignTree}
use Rattle.tm_sem.specs.declared.state.Move.{Move}
use Rattle.tm_sem.specs.declared.state.Outcome.TheVariants.{Next}
use Rattle.tm_sem.specs.State.{StateData}
use Rattle.tm_sem.specs.Step.{IsAllowed, IsInitial, Step, is_driver_move, is_driver_turn}
use Rattle.tm_sem.specs.Play.{goal_holds}
use Rattle.tm_sem.specs.Forcing.{IsCalm, Keeps, Leads}
use Rattle.tm_sem.specs.Certificates.{AddsState, AreRanked, DriverSets, IsFairAtRank, IsIn, IsMade, RankedSet, rank}
use Rattle.tm_verdict.specs.Reported.{IsFirstOf}
use Rattle.tm_verdict.specs.Tried.{IsRefusedAmong, Meaning}

-- a part of a condition, with the goal, and the place of the ranked region, of which it speaks
pub data DriverPart : Type 0 where
  lies_within : ℕ → ℕ → DriverPart
  adds_state : ℕ → ℕ → DriverPart
  begins_within : DriverPart
  is_ranked : ℕ → DriverPart
  is_calm : DriverPart
  is_answered : ℕ → DriverPart
  never_rises : ℕ → DriverPart
  falls_when_fair : ℕ → DriverPart

-- the number of the condition of a part
abbrev pub driver_condition : DriverPart → ℕ
driver_condition (lies_within goal k) = 0
driver_condition (adds_state goal k) = 0
driver_condition begins_within = 1
driver_condition (is_ranked goal) = 2
driver_condition is_calm = 3
driver_condition (is_answered goal) = 4
driver_condition (never_rises goal) = 5
driver_condition (falls_when_fair goal) = 6

-- the goal that is reported with a part, 0 where it speaks of none
abbrev pub driver_goal : DriverPart → ℕ
driver_goal (lies_within goal k) = goal
driver_goal (adds_state goal k) = goal
driver_goal begins_within = 0
driver_goal (is_ranked goal) = goal
driver_goal is_calm = 0
driver_goal (is_answered goal) = goal
driver_goal (never_rises goal) = goal
driver_goal (falls_when_fair goal) = goal

-- the parts that speak of a ranked region
abbrev pub region_parts : ℕ → ℕ → List DriverPart
region_parts goal k = lies_within goal k ∷ adds_state goal k ∷ []

-- the parts that speak of the ranked regions of a goal, rank by rank
abbrev pub goal_parts : DriverSets → ℕ → List DriverPart
goal_parts c goal =
    flat_map (region_parts goal)
    (range_with_len 0 (option_map_or (λ (ranked : List RankedSet). length ranked) (slice_get c.goals goal) 0))

-- the goals of a certificate, by number
abbrev pub goals_of : DriverSets → List ℕ
goals_of c = range_with_len 0 (length c.goals)

-- the parts of each condition, in the order in which they are tried
abbrev pub driver_parts_by_condition : DriverSets → List (List DriverPart)
driver_parts_by_condition c =
    flat_map (goal_parts c) (goals_of c)
    ∷ (begins_within ∷ [])
    ∷ map is_ranked (goals_of c)
    ∷ (is_calm ∷ [])
    ∷ map is_answered (goals_of c)
    ∷ map never_rises (goals_of c)
    ∷ map falls_when_fair (goals_of c)
    ∷ []

-- the parts of all conditions
abbrev pub driver_parts : DriverSets → List DriverPart
driver_parts c = flat_map (λ parts. parts) (driver_parts_by_condition c)

-- a state is outside a region
abbrev pub IsOut : DriverSets → StateData → Type 0
IsOut c s = c.region s ≡ false

-- what a part asks
abbrev pub Passes : DesignTree → (StateData → ℕ → Move → Type 0) → DriverSets → DriverPart → Type 0
Passes d answers c (lies_within goal k) =
    (ranked : List RankedSet) (r : RankedSet) → AreRanked c goal ranked → slice_get ranked k ≡ Some r →
    (s : StateData) → IsIn d r.set s → IsIn d c.region s
Passes d answers c (adds_state goal k) =
    (ranked : List RankedSet) → AreRanked c goal ranked → AddsState d ranked k
Passes d answers c begins_within = (s : StateData) → IsInitial d s → IsIn d c.region s
Passes d answers c (is_ranked goal) =
    (s : StateData) (ranked : List RankedSet) → IsIn d c.region s → AreRanked c goal ranked →
    rank ranked s ≤ length ranked
Passes d answers c is_calm = (s : StateData) → IsIn d c.region s → IsCalm d (IsIn d c.region) s
Passes d answers c (is_answered goal) =
    (s : StateData) (move : Move) → IsIn d c.region s → is_driver_turn d s ≡ true → answers s goal move →
    IsAllowed d s move × Keeps d (IsIn d c.region) s move
Passes d answers c (never_rises goal) =
    (s t : StateData) (ranked : List RankedSet) (move : Move) (choices : List ℕ) → IsIn d c.region s →
    AreRanked c goal ranked → goal_holds d s goal ≡ false → IsMade answers goal s move →
    Step d s move choices (Next t) → rank ranked t ≤ rank ranked s
Passes d answers c (falls_when_fair goal) =
    (s t : StateData) (ranked : List RankedSet) (move : Move) (choices : List ℕ) → IsIn d c.region s →
    AreRanked c goal ranked → goal_holds d s goal ≡ false → IsFairAtRank d ranked s → IsMade answers goal s move →
    Step d s move choices (Next t) → rank ranked t < rank ranked s

-- a state at which a part fails; a ranked region that adds no state fails at none
abbrev pub FailsAt : DesignTree → (StateData → ℕ → Move → Type 0) → DriverSets → DriverPart → StateData → Type 0
FailsAt d answers c (lies_within goal k) s =
    (ranked : List RankedSet) × (r : RankedSet) × AreRanked c goal ranked × (slice_get ranked k ≡ Some r)
    × IsIn d r.set s × IsOut c s
FailsAt d answers c (adds_state goal k) s = ⊥
FailsAt d answers c begins_within s = IsInitial d s × IsOut c s
FailsAt d answers c (is_ranked goal) s =
    (ranked : List RankedSet) × IsIn d c.region s × AreRanked c goal ranked × (length ranked < rank ranked s)
FailsAt d answers c is_calm s =
    (move : Move) × IsIn d c.region s × (is_driver_move move ≡ false) × Leads d (IsOut c) s move
FailsAt d answers c (is_answered goal) s =
    (move : Move) × IsIn d c.region s × (is_driver_turn d s ≡ true) × answers s goal move
    × ((¬ IsAllowed d s move) ⊎ Leads d (IsOut c) s move)
FailsAt d answers c (never_rises goal) s =
    (t : StateData) × (ranked : List RankedSet) × (move : Move) × (choices : List ℕ) × IsIn d c.region s
    × AreRanked c goal ranked × (goal_holds d s goal ≡ false) × IsMade answers goal s move
    × Step d s move choices (Next t) × (rank ranked s < rank ranked t)
FailsAt d answers c (falls_when_fair goal) s =
    (t : StateData) × (ranked : List RankedSet) × (move : Move) × (choices : List ℕ) × IsIn d c.region s
    × AreRanked c goal ranked × (goal_holds d s goal ≡ false) × IsFairAtRank d ranked s
    × IsMade answers goal s move × Step d s move choices (Next t) × (rank ranked s ≤ rank ranked t)

-- a part fails, and this state is reported: the first at which it fails, or the first initial one where it names none
abbrev pub IsReported : DesignTree → (StateData → ℕ → Move → Type 0) → DriverSets → DriverPart → StateData → Type 0
IsReported d answers c (adds_state goal k) s =
    (ranked : List RankedSet) × AreRanked c goal ranked × (¬ AddsState d ranked k) × IsFirstOf d (IsInitial d) s
IsReported d answers c part s = IsFirstOf d (FailsAt d answers c part) s

-- what the parts of a driver's certificate mean
abbrev pub driver_meaning : DesignTree → (StateData → ℕ → Move → Type 0) → DriverSets → Meaning DriverPart
driver_meaning d answers c = record {
  passes = Passes d answers c;
  condition = driver_condition;
  goal = driver_goal;
  reports = IsReported d answers c;
}

-- a certificate is refused: all parts before one pass, and that one fails
abbrev pub IsRefused : DesignTree → (StateData → ℕ → Move → Type 0) → DriverSets → ℕ → ℕ → StateData → Type 0
IsRefused d answers c condition goal s =
    IsRefusedAmong (driver_meaning d answers c) (driver_parts c) condition goal s
