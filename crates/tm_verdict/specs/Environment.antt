-- What the checker of an environment's certificate answers: that every condition holds, or the first that does not.
use Rattle.std.specs.Prelude.{◌≡◌, ℕ, ◌<◌, ◌⊎◌, Bool, true, false, Some, List, [], ◌∷◌, map, length, slice_get}
use Rattle.std.specs.Option.{option_map_or}
use Rattle.std.specs.List.{flat_map, list_any, position_or_len, range_with_len}
use Rattle.tm_syntax.specs.Design.{DesignTree}
use Rattle.tm_sem.specs.State.{StateData}
use Rattle.tm_sem.specs.Step.{IsInitial}
use Rattle.tm_sem.specs.Play.{goal_holds}
use Rattle.tm_sem.specs.Fairness.{IsFair, conditions}
use Rattle.tm_sem.specs.Forcing.{Forced}
use Rattle.tm_sem.specs.Certificates.{E1, IsIn, IsNew, Level, either, level_before, set_before}
use Rattle.tm_verdict.specs.Reported.{IsFirstOf}
use Rattle.tm_verdict.specs.Tried.{IsRefusedAmong, Meaning}

-- a part of a condition, with the places of the level, of the chain in it and of the set in that, of which it speaks
pub data LevelPart : Type 0 where
  holds_before : ℕ → LevelPart
  has_new : ℕ → LevelPart
  is_chain : ℕ → ℕ → LevelPart
  grows : ℕ → ℕ → ℕ → LevelPart
  lies_in : ℕ → ℕ → ℕ → LevelPart
  begins_lost : LevelPart
  is_forced_on : ℕ → LevelPart
  is_in_chain : ℕ → ℕ → LevelPart
  is_forced_within : ℕ → LevelPart
  waits_or_falls : ℕ → ℕ → LevelPart

-- the number of the condition of a part
abbrev pub level_condition : LevelPart → ℕ
level_condition (holds_before k) = 0
level_condition (has_new k) = 0
level_condition (is_chain k i) = 0
level_condition (grows k i x) = 0
level_condition (lies_in k i x) = 0
level_condition begins_lost = 1
level_condition (is_forced_on k) = 2
level_condition (is_in_chain k i) = 3
level_condition (is_forced_within k) = 4
level_condition (waits_or_falls k i) = 5

-- the goal of a level, 0 where there is none
abbrev pub goal_of : List Level → ℕ → ℕ
goal_of levels k = option_map_or (λ (l : Level). l.goal) (slice_get levels k) 0

-- the goal that is reported with a part: that of its level, or 0
abbrev pub level_goal : List Level → LevelPart → ℕ
level_goal levels (holds_before k) = goal_of levels k
level_goal levels (has_new k) = goal_of levels k
level_goal levels (is_chain k i) = goal_of levels k
level_goal levels (grows k i x) = goal_of levels k
level_goal levels (lies_in k i x) = goal_of levels k
level_goal levels begins_lost = 0
level_goal levels (is_forced_on k) = goal_of levels k
level_goal levels (is_in_chain k i) = goal_of levels k
level_goal levels (is_forced_within k) = goal_of levels k
level_goal levels (waits_or_falls k i) = goal_of levels k

-- the chains of a level
abbrev pub chains_of : List Level → ℕ → List (List (StateData → Bool))
chains_of levels k = option_map_or (λ (l : Level). l.chains) (slice_get levels k) []

-- the sets of a chain of a level
abbrev pub chain_of : List Level → ℕ → ℕ → List (StateData → Bool)
chain_of levels k i = option_map_or (λ chain. chain) (slice_get (chains_of levels k) i) []

-- the places of levels
abbrev pub level_places : List Level → List ℕ
level_places levels = range_with_len 0 (length levels)

-- the places of the chains of a level
abbrev pub chain_places : List Level → ℕ → List ℕ
chain_places levels k = range_with_len 0 (length (chains_of levels k))

-- the parts that speak of a set of a chain
abbrev pub set_parts : ℕ → ℕ → ℕ → List LevelPart
set_parts k i x = grows k i x ∷ lies_in k i x ∷ []

-- the parts that speak of a chain by itself: it is not empty, and set by set
abbrev pub chain_parts : List Level → ℕ → ℕ → List LevelPart
chain_parts levels k i =
    is_chain k i ∷ flat_map (set_parts k i) (range_with_len 0 (length (chain_of levels k i)))

-- the parts that speak of a level by itself
abbrev pub shape_parts : List Level → ℕ → List LevelPart
shape_parts levels k = holds_before k ∷ has_new k ∷ flat_map (chain_parts levels k) (chain_places levels k)

-- the parts of each condition, in the order in which they are tried
abbrev pub level_parts_by_condition : List Level → List (List LevelPart)
level_parts_by_condition levels =
    flat_map (shape_parts levels) (level_places levels)
    ∷ (begins_lost ∷ [])
    ∷ map is_forced_on (level_places levels)
    ∷ flat_map (λ k. map (is_in_chain k) (chain_places levels k)) (level_places levels)
    ∷ map is_forced_within (level_places levels)
    ∷ flat_map (λ k. map (waits_or_falls k) (chain_places levels k)) (level_places levels)
    ∷ []

-- the parts of all conditions
abbrev pub level_parts : List Level → List LevelPart
level_parts levels = flat_map (λ parts. parts) (level_parts_by_condition levels)

-- the level of a place
abbrev pub IsLevel : List Level → ℕ → Level → Type 0
IsLevel levels k l = slice_get levels k ≡ Some l

-- the chain of a place in a level
abbrev pub IsChain : Level → ℕ → List (StateData → Bool) → Type 0
IsChain l i chain = slice_get l.chains i ≡ Some chain

-- the states into which a new state is to be forced by its place in a chain: the set before, or the level before
abbrev pub lower_in : List Level → ℕ → List (StateData → Bool) → StateData → StateData → Bool
lower_in levels k chain s =
    either (set_before chain (position_or_len (λ set. set s) chain)) (level_before levels k)

-- what a part asks
abbrev pub Passes : DesignTree → List Level → LevelPart → Type 0
Passes d levels (holds_before k) =
    (l : Level) → IsLevel levels k l → (s : StateData) → IsIn d (level_before levels k) s → IsIn d l.set s
Passes d levels (has_new k) = (l : Level) → IsLevel levels k l → (s : StateData) × IsNew d levels k l s
Passes d levels (is_chain k i) =
    (l : Level) (chain : List (StateData → Bool)) → IsLevel levels k l → IsChain l i chain → 0 < length chain
Passes d levels (grows k i x) =
    (l : Level) (chain : List (StateData → Bool)) (set : StateData → Bool) → IsLevel levels k l →
    IsChain l i chain → slice_get chain x ≡ Some set → (s : StateData) → IsIn d (set_before chain x) s →
    IsIn d set s
Passes d levels (lies_in k i x) =
    (l : Level) (chain : List (StateData → Bool)) (set : StateData → Bool) → IsLevel levels k l →
    IsChain l i chain → slice_get chain x ≡ Some set → (s : StateData) → IsIn d set s → IsIn d l.set s
Passes d levels begins_lost = E1 d levels
Passes d levels (is_forced_on k) =
    (l : Level) (s : StateData) → IsLevel levels k l → IsNew d levels k l s → goal_holds d s l.goal ≡ true →
    Forced d (IsIn d (level_before levels k)) s
Passes d levels (is_in_chain k i) =
    (l : Level) (chain : List (StateData → Bool)) (s : StateData) → IsLevel levels k l → IsChain l i chain →
    IsNew d levels k l s → list_any (λ set. set s) chain ≡ true
Passes d levels (is_forced_within k) =
    (l : Level) (s : StateData) → IsLevel levels k l → IsNew d levels k l s → Forced d (IsIn d l.set) s
Passes d levels (waits_or_falls k i) =
    (l : Level) (chain : List (StateData → Bool)) (s : StateData) → IsLevel levels k l → IsChain l i chain →
    IsNew d levels k l s → IsFair d s i ⊎ Forced d (IsIn d (lower_in levels k chain s)) s

-- a state at which a part fails; a part that names no state fails at none
abbrev pub FailsAt : DesignTree → List Level → LevelPart → StateData → Type 0
FailsAt d levels (holds_before k) s =
    (l : Level) × IsLevel levels k l × IsIn d (level_before levels k) s × (l.set s ≡ false)
FailsAt d levels (has_new k) s = ⊥
FailsAt d levels (is_chain k i) s = ⊥
FailsAt d levels (grows k i x) s =
    (l : Level) × (chain : List (StateData → Bool)) × (set : StateData → Bool) × IsLevel levels k l
    × IsChain l i chain × (slice_get chain x ≡ Some set) × IsIn d (set_before chain x) s × (set s ≡ false)
FailsAt d levels (lies_in k i x) s =
    (l : Level) × (chain : List (StateData → Bool)) × (set : StateData → Bool) × IsLevel levels k l
    × IsChain l i chain × (slice_get chain x ≡ Some set) × IsIn d set s × (l.set s ≡ false)
FailsAt d levels begins_lost s = ⊥
FailsAt d levels (is_forced_on k) s =
    (l : Level) × IsLevel levels k l × IsNew d levels k l s × (goal_holds d s l.goal ≡ true)
    × (¬ Forced d (IsIn d (level_before levels k)) s)
FailsAt d levels (is_in_chain k i) s =
    (l : Level) × (chain : List (StateData → Bool)) × IsLevel levels k l × IsChain l i chain × IsNew d levels k l s
    × (list_any (λ set. set s) chain ≡ false)
FailsAt d levels (is_forced_within k) s =
    (l : Level) × IsLevel levels k l × IsNew d levels k l s × (¬ Forced d (IsIn d l.set) s)
FailsAt d levels (waits_or_falls k i) s =
    (l : Level) × (chain : List (StateData → Bool)) × IsLevel levels k l × IsChain l i chain × IsNew d levels k l s
    × (¬ IsFair d s i) × (¬ Forced d (IsIn d (lower_in levels k chain s)) s)

-- a part fails, and this state is reported: the first at which it fails, or the first initial one where it names none
abbrev pub IsReported : DesignTree → List Level → LevelPart → StateData → Type 0
IsReported d levels (has_new k) s = (¬ Passes d levels (has_new k)) × IsFirstOf d (IsInitial d) s
IsReported d levels (is_chain k i) s = (¬ Passes d levels (is_chain k i)) × IsFirstOf d (IsInitial d) s
IsReported d levels begins_lost s = (¬ Passes d levels begins_lost) × IsFirstOf d (IsInitial d) s
IsReported d levels part s = IsFirstOf d (FailsAt d levels part) s

-- what the parts of an environment's certificate mean
abbrev pub level_meaning : DesignTree → List Level → Meaning LevelPart
level_meaning d levels = record {
  passes = Passes d levels;
  condition = level_condition;
  goal = level_goal levels;
  reports = IsReported d levels;
}

-- a certificate is refused: all parts before one pass, and that one fails
abbrev pub IsRefused : DesignTree → List Level → ℕ → ℕ → StateData → Type 0
IsRefused d levels condition goal s =
    IsRefusedAmong (level_meaning d levels) (level_parts levels) condition goal s

-- each level has a goal of the design, and a chain for each fairness condition
pub record HasShape (d : DesignTree) (levels : List Level) : Type 0 where
  pub goals : (k : ℕ) (l : Level) → slice_get levels k ≡ Some l → l.goal < length d.goals
  pub chains : (k : ℕ) (l : Level) → slice_get levels k ≡ Some l → length l.chains ≡ length (conditions d)
